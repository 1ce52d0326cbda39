-- A packet of a line's pending edits (02: N2): what its writer asks, the messages that go into it, and what it leaves in the buffer.
use Rattle.std.specs.Prelude.{ℕ, ◌+◌, ◌-◌, ◌≤◌, ◌<◌, ◌≡◌, List, map, length, get_or}
use Rattle.list.specs.declared.Origin.{Origin}
use Rattle.list.specs.Places.{origin_at}
use Rattle.wire.specs.declared.Message.{Message}
use Rattle.wire.specs.Bytes.{bytes_of}
use Rattle.model.specs.Line as model
use Rattle.model.specs.Packets.{joined, fitting, put_from}
use Rattle.line.specs.declared.Line.{Line}
use Rattle.line.specs.Line.{line_of, Kept}

-- What question 2 leaves known of the line, and a word for the origin of each pending edit.
pub record Packable (v : Line) (words origins : List ℕ) : Type 0 where
  pub kept : Kept v words
  pub enough : v.made - v.acked ≤ length origins
  pub narrow : (i : ℕ) → i < v.made - v.acked → get_or origins i 0 < 16777216

-- the origin of the pending edit of a number, and its message
abbrev pub origin_of : Line → List ℕ → ℕ → Origin
origin_of v origins number = origin_at (get_or origins (number - (v.acked + 1)) 0)

unfoldable pub message_at : ℕ → ℕ → Line → List ℕ → List ℕ → ℕ → Message
message_at line direction v words origins number =
    model.line_message line direction (origin_of v origins number) (line_of v words) number

-- the bytes of every pending edit's message, in number order
unfoldable pub messages : ℕ → ℕ → Line → List ℕ → List ℕ → List (List ℕ)
messages line direction v words origins =
    map (λ k. bytes_of (message_at line direction v words origins k)) (model.pending_numbers (line_of v words))

-- Those of some messages that fit before the buffer's end stand there from a place on, and no other byte changed.
pub record Filled (ms : List (List ℕ)) (at : ℕ) (before : List ℕ) (written : ℕ) (after : List ℕ) : Type 0 where
  pub size : written ≡ length (joined (fitting (length before - at) ms))
  pub bytes : after ≡ put_from at (joined (fitting (length before - at) ms)) before
