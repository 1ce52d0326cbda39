-- Items of 32 bits: what every edit of a list of calls has, and no transformation changes; and so every item on a list.
use mathlib.Core.Path.{◌≡◌, refl, ap, sym, ◌∙◌}
use mathlib.Core.Bool.{Bool, true}
use mathlib.Core.List.{List, [], ◌∷◌}
use Prim.Native.Nat.{ℕ, zero, suc, ◌-◌, ◌<◌}
use native.Mathlib.Omega.{arith}
use lib.Dec.{leb, ltb}
use lib.ListN.{length, get_or, drop}
use borrow.Author.Tests.{leb-true, ltb-true, le-leb, lt-ltb}
use Rattle.ot.specs.Edit.{Edit, Nothing, Delete, Insert, transformed}
use Rattle.ot.proofs.Fits.{all_applied}
use Rattle.list.specs.declared.Origin.{Origin}
use Rattle.list.specs.Places.{Place, items_of, applied_by}
use Rattle.list.proofs.Places.{items_applied}
use Rattle.jupiter.proofs.Lists.{All}
use Rattle.model.specs.Cross.{past, over}
use Rattle.model.specs.Inverse.{inverse_of}
use Rattle.model.specs.Run.{are_items}
use Rattle.model.proofs.Tests.{and_left, and_right}
use Rattle.model.proofs.Cross.{kept_transformed, kept_past}

abbrev pub small : Edit → Bool
small Nothing = true
small (Delete p) = true
small (Insert p x r) = leb x 4294967295

pub small_transformed : (a b : Edit) → small (transformed a b) ≡ small a
small_transformed = kept_transformed small true (λ x r. leb x 4294967295) refl (λ p. refl) (λ p x r. refl)

abbrev pub Small : Edit → Type 0
Small e = small e ≡ true

pub small_past : (e : Edit) (es : List Edit) → Small e → Small (past e es)
small_past e es h = kept_past small small_transformed e es ∙ h

pub small_over : (e : Edit) (es : List Edit) → All Small es → All Small (over e es)
unfolding over
small_over e [] h = tt
small_over e (p ∷ es) h = (small_transformed p e ∙ h.0, small_over (transformed e p) es h.1)

pub all_drop : {A : Type 0} (Q : A → Type 0) (k : ℕ) (xs : List A) → All Q xs → All Q (drop k xs)
all_drop Q zero xs h = h
all_drop Q (suc k) [] h = h
all_drop Q (suc k) (x ∷ xs) h = all_drop Q k xs h.1

pub all_get : {A : Type 0} (Q : A → Type 0) (xs : List A) (i : ℕ) (d : A) → i < length xs → All Q xs → Q (get_or xs i d)
all_get Q [] i d lt h = absurd (omega arith)
all_get Q (x ∷ xs) zero d lt h = h.0
all_get Q (x ∷ xs) (suc i) d lt h = all_get Q xs i d (omega arith) h.1

-- ---- items on a list

pub items_small : (o : Origin) (e : Edit) (l : List Place) → Small e → are_items (items_of l) ≡ true → are_items (items_of (applied_by o e l)) ≡ true
unfolding are_items
items_small o e l sm k =
    ap are_items (items_applied o e l)
    ∙ all_applied (λ (x : ℕ). ltb x 4294967296) are_items (λ x xs. refl) (λ x. x) e (items_of l)
    (λ p x r z. lt-ltb x 4294967296 (omega (arith, leb-true x 4294967295 (ap small (sym z) ∙ sm)))) k

item_at : (l : List ℕ) (i : ℕ) → are_items l ≡ true → get_or l i 0 < 4294967296
unfolding are_items
item_at [] i k = omega arith
item_at (x ∷ l) zero k = ltb-true x 4294967296 (and_left (ltb x 4294967296) (are_items l) k)
item_at (x ∷ l) (suc i) k = item_at l i (and_right (ltb x 4294967296) (are_items l) k)

-- an inverse brings back an item of the list
pub inverse_small : (rank : ℕ) (l : List Place) (e : Edit) → are_items (items_of l) ≡ true → Small (inverse_of rank l e)
inverse_small rank l Nothing k = refl
inverse_small rank l (Delete p) k = le-leb (get_or (items_of l) (p - 1) 0) 4294967295 (omega (arith, item_at (items_of l) (p - 1) k))
inverse_small rank l (Insert p x r) k = refl
