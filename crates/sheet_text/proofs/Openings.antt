-- Laws of reading the items of a first line.
use Prim.Native.Nat.{ℕ, ◌<◌, ◌≤◌}
use mathlib.Core.Path.{◌≡◌, refl, ap, ◌∙◌, sym}
use mathlib.Core.Bool.{Bool, true, false, cond}
use mathlib.Core.List.{List, [], ◌∷◌, ◌++◌, map, append_assoc, append-nil}
use native.Mathlib.Omega.{arith}
use borrow.Author.Tests.{lt-ltb, le-ltb}
use lib.ListN.{length, take}
use lib.Seq.{take_all, take-append-le}
use Rattle.sheet_print.specs.Decimal.{number_of, too_wide}
use Rattle.sheet_text.specs.Opening.{Opening, none, sheet, numbers, cut, max_held}

-- items that were read, and those of the words that are left
abbrev pub more : ℕ → List ℕ → List (List ℕ) → Opening
more n xs ws = cond (numbers ws) (sheet n (xs ++ map number_of ws)) none

-- One turn of the loop over the words: the next word is w, and those behind it are vs.
module _ (n : ℕ) (xs w : List ℕ) (ws vs : List (List ℕ)) (next : ws ≡ w ∷ vs) where
  pub more_stops : {z : Opening} → (number_of w < too_wide → ⊥) → cut (more n xs ws) ≡ z → none ≡ z
  more_stops h e = rw (← e, next, le-ltb (number_of w) too_wide (omega arith))

  module _ (x : ℕ) (small : (number_of w < too_wide) × (x ≡ number_of w)) where
    all_next : more n xs (w ∷ vs) ≡ cond (numbers vs) (sheet n (xs ++ (x ∷ map number_of vs))) none
    all_next = rw (lt-ltb (number_of w) too_wide small.0, small.1)

    pub more_next : (ys : List ℕ) {z : Opening} → ys ≡ xs ++ (x ∷ []) → cut (more n xs ws) ≡ z → cut (more n ys vs) ≡ z
    more_next ys is e =
        rw (is, append_assoc xs (x ∷ []) (map number_of vs)) (ap cut (sym all_next) ∙ ap (λ us. cut (more n xs us)) (sym next) ∙ e)

    -- an item past the last that is held
    pub more_past : {z : Opening} → max_held ≤ length xs → cut (more n xs ws) ≡ z → cut (more n xs vs) ≡ z
    more_past long e = go (numbers vs) ∙ ap cut (sym all_next) ∙ ap (λ us. cut (more n xs us)) (sym next) ∙ e
      where
        go : (t : Bool) → cut (cond t (sheet n (xs ++ map number_of vs)) none) ≡ cut (cond t (sheet n (xs ++ (x ∷ map number_of vs))) none)
        go true = ap (sheet n) (take-append-le max_held xs (map number_of vs) long ∙ sym (take-append-le max_held xs (x ∷ map number_of vs) long))
        go false = refl

pub more_none : (n : ℕ) (xs : List ℕ) {z : Opening} (ws : List (List ℕ)) → ws ≡ [] → length xs ≤ max_held → cut (more n xs ws) ≡ z → sheet n xs ≡ z
more_none n xs ws end h e =
    ap (sheet n) (sym (ap (take max_held) (append-nil xs) ∙ take_all max_held xs h)) ∙ ap (λ us. cut (more n xs us)) (sym end) ∙ e
