-- A message written into a buffer (01: "Message bytes").
use Rattle.std.specs.Prelude.{ℕ, cond, ◌≡◌, List, ◌++◌, leb, length, drop}
use Rattle.wire.specs.declared.Message.{Message}
use Rattle.wire.specs.Bytes.{bytes_of}

-- What writing a message into a buffer answers, and what the buffer then holds: bytes past the message stay. Where it does not fit,
-- the answer is 0 and every byte stays.
pub record Written (m : Message) (before : List ℕ) (answer : ℕ) (after : List ℕ) : Type 0 where
  pub size : answer ≡ cond (leb (length (bytes_of m)) (length before)) (length (bytes_of m)) 0
  pub bytes : after ≡ cond (leb (length (bytes_of m)) (length before)) (bytes_of m ++ drop (length (bytes_of m)) before) before
