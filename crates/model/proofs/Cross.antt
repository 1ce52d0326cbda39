-- Laws of the pending edits: what appending, dropping and crossing leave true of them.
use mathlib.Core.Path.{◌≡◌, refl, ap, sym, ◌∙◌}
use mathlib.Core.Bool.{Bool, true}
use mathlib.Core.Option.{Option, none, some}
use mathlib.Core.List.{List, [], ◌∷◌, ◌++◌}
use Prim.Native.Nat.{ℕ, suc, ◌+◌, ◌-◌, ◌≤◌, ◌<◌}
use native.Mathlib.Omega.{arith}
use lib.ListN.{length, get_or, drop}
use Rattle.ot.specs.Edit.{Edit, Nothing, Delete, Insert, applied_as, size_after, fits, transformed}
use Rattle.ot.specs.Laws.{stamp, within}
use Rattle.ot.proofs.Fits.{length_inserted, length_deleted_le}
use Rattle.ot.proofs.Laws.{laws}
use Rattle.model.specs.Limits.{max_items}
use Rattle.model.specs.Cross.{past, over, placed, all_placed, priority, priorities, inserts_of}
use Rattle.model.proofs.Tests.{both, and_left, and_right, between_true, true_between, all_append, all_drop, all_at}

-- Of an edit that fits and leaves at most 512 items the position is 1 to 512.
pub fits_placed : {A : Type 0} (g : ℕ → A) (e : Edit) (l : List A) → length l ≤ max_items → fits e (length l) ≡ true → length (applied_as g e l) ≤ max_items → placed e ≡ true
unfolding fits within size_after
fits_placed g Nothing l m f h = refl
fits_placed g (Delete p) l m f h =
    let k = between_true 1 (length l) p f in
    true_between 1 max_items p k.0 (omega arith)
fits_placed g (Insert p x r) l m f h =
    let k = between_true 1 (length l + 1) p f in
    true_between 1 max_items p k.0 (omega (arith, laws.size g (Insert p x r) l f))

-- an edit adds to a list what it inserts
pub size_inserts : {A : Type 0} (g : ℕ → A) (e : Edit) (l : List A) → length (applied_as g e l) ≤ length l + inserts_of e
unfolding applied_as
size_inserts g Nothing l = omega arith
size_inserts g (Delete p) l = omega (arith, length_deleted_le (p - 1) l)
size_inserts g (Insert p x r) l = omega (arith, length_inserted (p - 1) (g x) l)

-- a list of edits whose every edit passes a test: appended to, dropped from, read
pub placed_append : (es : List Edit) (e : Edit) → all_placed es ≡ true → placed e ≡ true → all_placed (es ++ (e ∷ [])) ≡ true
unfolding all_placed
placed_append = all_append placed all_placed refl (λ e es. refl)

pub placed_drop : (k : ℕ) (es : List Edit) → all_placed es ≡ true → all_placed (drop k es) ≡ true
unfolding all_placed
placed_drop = all_drop placed all_placed refl (λ e es. refl)

pub placed_at : (es : List Edit) (i : ℕ) → i < length es → all_placed es ≡ true → placed (get_or es i Nothing) ≡ true
unfolding all_placed
placed_at es i = all_at placed all_placed refl (λ e es. refl) es i Nothing

pub priorities_append : (good : ℕ → Bool) (es : List Edit) (e : Edit) → priorities good es ≡ true → priority good e ≡ true → priorities good (es ++ (e ∷ [])) ≡ true
unfolding priorities
priorities_append good = all_append (priority good) (priorities good) refl (λ e es. refl)

pub priorities_drop : (good : ℕ → Bool) (k : ℕ) (es : List Edit) → priorities good es ≡ true → priorities good (drop k es) ≡ true
unfolding priorities
priorities_drop good = all_drop (priority good) (priorities good) refl (λ e es. refl)

pub priorities_at : (good : ℕ → Bool) (es : List Edit) (i : ℕ) → i < length es → priorities good es ≡ true → priority good (get_or es i Nothing) ≡ true
unfolding priorities
priorities_at good es i = all_at (priority good) (priorities good) refl (λ e es. refl) es i Nothing

-- What is one value for all that inserts nothing, and of an insert is read off item and priority, no transformation changes: they are the stamp.
module _ {A : Type 0} (f : Edit → A) (none_is : A) (some_is : ℕ → ℕ → A) (nothing : f Nothing ≡ none_is) (delete : (p : ℕ) → f (Delete p) ≡ none_is)
    (insert : (p x r : ℕ) → f (Insert p x r) ≡ some_is x r) where
  stamped : Option (ℕ × ℕ) → A
  stamped none = none_is
  stamped (some s) = some_is s.0 s.1

  by_stamp : (e : Edit) → f e ≡ stamped (stamp e)
  unfolding stamp stamped
  by_stamp Nothing = nothing
  by_stamp (Delete p) = delete p
  by_stamp (Insert p x r) = insert p x r

  pub kept_transformed : (a b : Edit) → f (transformed a b) ≡ f a
  kept_transformed a b = by_stamp (transformed a b) ∙ ap stamped (laws.keeps a b) ∙ sym (by_stamp a)

-- nor does it change past several edits
pub kept_past : {A : Type 0} (f : Edit → A) → ((a b : Edit) → f (transformed a b) ≡ f a) → (e : Edit) (es : List Edit) → f (past e es) ≡ f e
unfolding past
kept_past f kept e [] = refl
kept_past f kept e (p ∷ es) = kept_past f kept (transformed e p) es ∙ kept e p

pub priority_transformed : (good : ℕ → Bool) (a b : Edit) → priority good (transformed a b) ≡ priority good a
priority_transformed good = kept_transformed (priority good) true (λ x r. good r) refl (λ p. refl) (λ p x r. refl)

pub inserts_transformed : (a b : Edit) → inserts_of (transformed a b) ≡ inserts_of a
inserts_transformed = kept_transformed inserts_of 0 (λ x r. 1) refl (λ p. refl) (λ p x r. refl)

pub priority_past : (good : ℕ → Bool) (e : Edit) (es : List Edit) → priority good (past e es) ≡ priority good e
priority_past good = kept_past (priority good) (priority_transformed good)

pub inserts_past : (e : Edit) (es : List Edit) → inserts_of (past e es) ≡ inserts_of e
inserts_past = kept_past inserts_of inserts_transformed

pub priorities_over : (good : ℕ → Bool) (e : Edit) (es : List Edit) → priorities good es ≡ true → priorities good (over e es) ≡ true
unfolding over priorities
priorities_over good e [] a = refl
priorities_over good e (p ∷ es) a =
    rw (priority_transformed good p)
    (both (priority good p) (priorities good (over (transformed e p) es)) (and_left (priority good p) (priorities good es) a)
    (priorities_over good (transformed e p) es (and_right (priority good p) (priorities good es) a)))

pub length_over : (e : Edit) (es : List Edit) → length (over e es) ≡ length es
unfolding over
length_over e [] = refl
length_over e (p ∷ es) = ap suc (length_over (transformed e p) es)
