-- The marked cases of 01 that are about bytes, written and read.
use Rattle.std.specs.Prelude.{ℕ, ◌≡◌, List, [], ◌∷◌, Some}
use Rattle.wire.specs.declared.Message.{Message}
use Rattle.wire.specs.declared.Message.TheVariants.{Insert, Ack}
use Rattle.wire.specs.Bytes.{bytes_of, parsed}

-- insert, line 1, up, number 1, seen 0, position 1, item 30; its priority is its line, and its origin line 1, number 1
abbrev pub p9 : Message
p9 = Insert (record { line = 1; direction = 0; number = 1; seen = 0; origin = record { line = 1; number = 1 } }) 1 30 1

abbrev pub p9_bytes : List ℕ
p9_bytes =
    0x05 ∷ 0x01 ∷ 0x00 ∷ 0x00 ∷ 0x01 ∷ 0x00 ∷ 0x00 ∷ 0x00 ∷ 0x01 ∷ 0x00 ∷ 0x00 ∷ 0x00 ∷ 0x1E ∷ 0x01 ∷ 0x01 ∷ 0x00 ∷ 0x01 ∷ []

-- acknowledgement, line 2, down, seen 3
abbrev pub p10 : Message
p10 = Ack 2 1 3

abbrev pub p10_bytes : List ℕ
p10_bytes = 0x04 ∷ 0x02 ∷ 0x01 ∷ 0x00 ∷ 0x03 ∷ []

pub record Cases : Type 0 where
  pub p9_written : bytes_of p9 ≡ p9_bytes
  pub p9_read : parsed p9_bytes ≡ Some p9
  pub p10_written : bytes_of p10 ≡ p10_bytes
  pub p10_read : parsed p10_bytes ≡ Some p10
