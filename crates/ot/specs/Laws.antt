-- What holds of edits, as statements. proofs/Laws.antt proves them.
use Rattle.std.specs.Prelude.{ℕ, ◌+◌, ◌≤◌, ◌≡◌, Bool, true, not, ◌&&◌, List, map, leb, eqb, length}
use Rattle.std.proofs.Math.Option.{Option, none, some}
use Rattle.ot.specs.Form.{position_of, moved, how, shifted}
use Rattle.ot.specs.declared.Form.{Form}
use Rattle.ot.specs.Edit.{Edit, Nothing, Delete, Insert, form_of, item_of, edit, applied_as, applied, size_after, fits, transformed}

-- what an insert brings with it: item and priority
unfoldable pub stamp : Edit → Option (ℕ × ℕ)
stamp Nothing = none
stamp (Delete p) = none
stamp (Insert p x r) = some (x, r)

-- the two do not both insert with one priority
unfoldable pub distinct : Edit → Edit → Bool
distinct Nothing b = true
distinct (Delete p) b = true
distinct (Insert p x r) Nothing = true
distinct (Insert p x r) (Delete q) = true
distinct (Insert p x r) (Insert q y s) = not (eqb r s)

-- the position, if there is one, is 1 to n
unfoldable pub within : ℕ → Edit → Bool
within n Nothing = true
within n (Delete p) = leb 1 p && leb p n
within n (Insert p x r) = leb 1 p && leb p n

-- Two edits of one list, each in its form after the other, fit, and give one list in both orders. Whatever stands on the list beside an
-- item comes with the edit that puts it there: f with a, g with b.
pub record Closes {A : Type 0} (f g : ℕ → A) (a b : Edit) (l : List A) : Type 0 where
  pub left : fits (transformed a b) (length (applied_as g b l)) ≡ true
  pub right : fits (transformed b a) (length (applied_as f a l)) ≡ true
  pub same : applied_as g (transformed b a) (applied_as f a l) ≡ applied_as f (transformed a b) (applied_as g b l)

pub record Laws : Type 1 where
  -- the square (TP1)
  pub square : {A : Type 0} (f g : ℕ → A) (a b : Edit) (l : List A) → fits a (length l) ≡ true → fits b (length l) ≡ true → distinct a b ≡ true
      → Closes f g a b l
  -- an edit is its form with its item; transforming moves the form and leaves the item
  pub form_of_lem : (f : Form) (x : ℕ) → form_of (edit f x) ≡ f
  pub whole : (e : Edit) → edit (form_of e) (item_of e) ≡ e
  pub form_moves : (a b : Edit) → form_of (transformed a b) ≡ moved (form_of a) (form_of b)
  pub item_stays : (a b : Edit) → item_of (transformed a b) ≡ item_of a
  -- no item and no priority changes, appears or goes
  pub keeps : (a b : Edit) → stamp (transformed a b) ≡ stamp a
  -- the position after the other edit is the one that the move leads to
  pub shifts : (a b : Form) → position_of (moved a b) ≡ shifted (how a b) (position_of a)
  -- a position moves up by one place at most, and never to 0
  pub moves : (a b : Form) → position_of (moved a b) ≤ position_of a + 1
  pub stays : (n m : ℕ) (a b : Edit) → within n a ≡ true → within m b ≡ true → within (n + 1) (transformed a b) ≡ true
  -- an edit that fits changes the length as its kind says; no edit adds more than one item
  pub size : {A : Type 0} (f : ℕ → A) (e : Edit) (l : List A) → fits e (length l) ≡ true → length (applied_as f e l) ≡ size_after e (length l)
  pub grows : {A : Type 0} (f : ℕ → A) (e : Edit) (l : List A) → length (applied_as f e l) ≤ length l + 1
  -- What stands on a list can be looked at before the edit or after it.
  pub looked : {A B : Type 0} (h : A → B) (f : ℕ → A) (e : Edit) (l : List A) → map h (applied_as f e l) ≡ applied_as (λ x. h (f x)) e (map h l)
  -- where every insert puts in the same y, it is as if y were the item
  pub alike : (y : ℕ) (e : Edit) (l : List ℕ) → applied_as (λ x. y) e l ≡ applied (edit (form_of e) y) l
