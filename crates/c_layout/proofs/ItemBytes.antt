-- Opening items read back as they were.
use Prim.Native.Nat.{ℕ, zero, suc, ◌*◌, ◌/◌, ◌%◌, ◌<◌}
use native.Mathlib.Omega.{arith}
use mathlib.Core.Path.{◌≡◌, refl, ap₂}
use mathlib.Core.List.{List, [], ◌∷◌}
use lib.ListN.{length, get_or}
use Rattle.c_layout.specs.Words.{high_first, words_by, items_of, Bytes}
use Rattle.c_layout.specs.ItemBytes.{item_bytes, ItemsReadBack}

four_each : (items : List ℕ) → length (item_bytes items) ≡ 4 * length items
unfolding item_bytes
four_each [] = refl
four_each (x ∷ xs) = omega (arith, four_each xs)

read_one : (x : ℕ) → high_first (x / 16777216) (x / 65536 % 256) (x / 256 % 256) (x % 256) ≡ x
read_one x = omega arith

read_items : (items : List ℕ) → items_of (item_bytes items) ≡ items
unfolding item_bytes words_by
read_items [] = refl
read_items (x ∷ xs) = ap₂ (λ (y : ℕ) (l : List ℕ). y ∷ l) (read_one x) (read_items xs)

are_bytes_lem : (items : List ℕ) → ((i : ℕ) → get_or items i 0 < 4294967296) → Bytes (item_bytes items)
unfolding item_bytes
are_bytes_lem [] h i = omega arith
are_bytes_lem (x ∷ xs) h zero = omega (arith, h 0)
are_bytes_lem (x ∷ xs) h (suc zero) = omega arith
are_bytes_lem (x ∷ xs) h (suc (suc zero)) = omega arith
are_bytes_lem (x ∷ xs) h (suc (suc (suc zero))) = omega arith
are_bytes_lem (x ∷ xs) h (suc (suc (suc (suc i)))) = are_bytes_lem xs (λ j. h (suc j)) i

pub items_read_back : ItemsReadBack
items_read_back = record { whole = λ items. omega (arith, four_each items); read_back = read_items; bytes = are_bytes_lem }
