-- Opening items as bytes: four each, high byte first.
use Rattle.std.specs.Prelude.{ℕ, ◌/◌, ◌%◌, ◌<◌, ◌≡◌, List, [], ◌∷◌, length, get_or}
use Rattle.c_layout.specs.Words.{items_of, Bytes}

unfoldable pub item_bytes : List ℕ → List ℕ
item_bytes [] = []
item_bytes (x ∷ xs) = x / 16777216 ∷ x / 65536 % 256 ∷ x / 256 % 256 ∷ x % 256 ∷ item_bytes xs

-- No item is cut. They read back as they were, whatever numbers they are; those of 32 bits give bytes.
pub record ItemsReadBack : Type 0 where
  pub whole : (items : List ℕ) → length (item_bytes items) % 4 ≡ 0
  pub read_back : (items : List ℕ) → items_of (item_bytes items) ≡ items
  pub bytes : (items : List ℕ) → ((i : ℕ) → get_or items i 0 < 4294967296) → Bytes (item_bytes items)
