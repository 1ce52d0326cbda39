-- What reading and writing promise together.
use Rattle.std.specs.Prelude.{ℕ, ◌<◌, true, ◌≡◌, List, length, get_or, Some, None}
use Rattle.wire.specs.declared.Message.{Message}
use Rattle.wire.specs.Message.{in_range}
use Rattle.wire.specs.Bytes.{bytes_of, size_of_kind, parsed}

-- every number of the list is a byte
abbrev pub AreBytes : List ℕ → Type 0
AreBytes s = (i : ℕ) → get_or s i 0 < 256

pub record Codec : Type 0 where
  -- a message in range, written and read, is that message
  pub written_read : (m : Message) → in_range m ≡ true → parsed (bytes_of m) ≡ Some m
  -- bytes that read as a message are those that writing it gives: a message has no second form
  pub read_written : (s : List ℕ) (m : Message) → AreBytes s → parsed s ≡ Some m → bytes_of m ≡ s
  pub read_in_range : (s : List ℕ) (m : Message) → parsed s ≡ Some m → in_range m ≡ true
  -- bytes that no message in range has are refused
  pub others_refused : (s : List ℕ) → AreBytes s → ((m : Message) → in_range m ≡ true → bytes_of m ≡ s → ⊥) → parsed s ≡ None
  -- two messages never have the same bytes
  pub injective : (m m' : Message) → bytes_of m ≡ bytes_of m' → m ≡ m'
  -- the kind byte alone fixes the length
  pub sized : (m : Message) → length (bytes_of m) ≡ size_of_kind (get_or (bytes_of m) 0 0)
  pub are_bytes_lem : (m : Message) → in_range m ≡ true → AreBytes (bytes_of m)
