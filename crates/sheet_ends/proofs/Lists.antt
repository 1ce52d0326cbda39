-- Laws of lists: writing one place.
use mathlib.Core.Path.{◌≡◌, refl, ap, sym, ◌∙◌}
use mathlib.Core.List.{List, [], ◌∷◌, ◌++◌, map}
use Prim.Native.Nat.{ℕ, zero, suc, ◌-◌, ◌<◌}
use lib.ListN.{length, set, replicate, length-set}
use lib.Seq.{set-append_left}
use Rattle.list.specs.Items.{padded}

module _ {A : Type 0} where
  pub pad_set : (n : ℕ) (z : A) (l : List A) (i : ℕ) (x : A) → i < length l → set (padded z n l) i x ≡ padded z n (set l i x)
  pad_set n z l i x h =
      set-append_left l (replicate (n - length l) z) i x h ∙ ap (λ (k : ℕ). set l i x ++ replicate (n - k) z) (sym (length-set l i x))

pub set_map : {A B : Type 0} (f : A → B) (l : List A) (i : ℕ) (x : A) → set (map f l) i (f x) ≡ map f (set l i x)
set_map f [] i x = refl
set_map f (y ∷ l) zero x = refl
set_map {B = B} f (y ∷ l) (suc i) x = ap (λ (r : List B). f y ∷ r) (set_map f l i x)
