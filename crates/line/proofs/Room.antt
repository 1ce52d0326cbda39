-- Question 9 by the length alone is question 9 of the list, and what an edit that passes it does to the arrays of items and origins.
use Prim.Native.Nat.{ℕ, ◌+◌, ◌-◌, ◌≤◌}
use native.Mathlib.Omega.{arith}
use mathlib.Core.Path.{◌≡◌, refl, ap, ◌∙◌, sym, subst}
use mathlib.Core.Bool.{Bool, true, false, ◌&&◌}
use mathlib.Core.List.{List}
use lib.Dec.{leb}
use lib.ListN.{length}
use borrow.Author.Tests.{leb-true, le-leb}
use Rattle.limits.specs.Limits.{max_items}
use Rattle.ot.specs.declared.Form.{Form}
use Rattle.ot.specs.Edit.{Edit, Nothing, Delete, Insert, edit, size_after, fits}
use Rattle.ot.proofs.Laws.{laws}
use Rattle.list.specs.declared.Origin.{Origin}
use Rattle.list.specs.Items.{stored, edited, Room}
use Rattle.list.specs.Places.{Place, place_of, applied_by, word_of, items_of, origins_of}
use Rattle.list.proofs.Places.{room_alike, items_edited, origins_edited}
use Rattle.model.specs.Cross.{inserts_of}
use Rattle.model.proofs.Tests.{and_left, and_right}
use Rattle.line.specs.Keeping.{fits_list}

-- deleting from a list that is not too long leaves one that is not
sizes : (e : Edit) (n : ℕ) → n ≤ max_items → leb (n + inserts_of e) max_items ≡ leb (size_after e n) max_items
unfolding size_after
sizes Nothing n h = le-leb (n + 0) max_items (omega arith) ∙ sym (le-leb n max_items h)
sizes (Delete p) n h = le-leb (n + 0) max_items (omega arith) ∙ sym (le-leb (n - 1) max_items (omega arith))
sizes (Insert p x r) n h = refl

pub fits_model : (o : Origin) (e : Edit) (l : List Place) → length l ≤ max_items
    → fits_list e (length l) ≡ (fits e (length l) && leb (length (applied_by o e l)) max_items)
fits_model o e l h = go (fits e (length l)) refl
  where
    go : (b : Bool) → fits e (length l) ≡ b → (b && leb (length l + inserts_of e) max_items) ≡ (b && leb (length (applied_by o e l)) max_items)
    go true f = sizes e (length l) h ∙ ap (λ (n : ℕ). leb n max_items) (sym (laws.size (place_of o) e l f))
    go false f = refl

pub fits_room : (e : Edit) (n : ℕ) → n ≤ max_items → fits_list e n ≡ true → Room e n max_items
fits_room e n h r =
    record {
      fitting = and_left (fits e n) (leb (n + inserts_of e) max_items) r;
      before = h;
      after = leb-true (size_after e n) max_items (sym (sizes e n h) ∙ and_right (fits e n) (leb (n + inserts_of e) max_items) r);
    }

-- room for an edit is room for one of the same form, whatever item it brings
pub room_form : {n m : ℕ} (f : Form) (x y : ℕ) → Room (edit f x) n m → Room (edit f y) n m
room_form {n} {m} f x y r = subst (λ (g : Form). Room (edit g y) n m) (laws.form_of_lem f x) (room_alike y (edit f x) r)

-- the places l in the two arrays, after an edit of form f and item x
module _ (o : Origin) (f : Form) (x n : ℕ) (l : List Place) (k : length l ≡ n) (r : Room (edit f x) n max_items) where
  abbrev e : Edit
  e = edit f x

  room : Room e (length l) max_items
  room = subst (λ (m : ℕ). Room e m max_items) (sym k) r

  pub room_items : (a : List ℕ) → a ≡ stored (items_of l) → edited e n a ≡ stored (items_of (applied_by o e l))
  room_items a s = ap (edited e n) s ∙ ap (λ (m : ℕ). edited e m (stored (items_of l))) (sym k) ∙ items_edited o e l room

  pub room_origins : (a : List ℕ) → a ≡ stored (origins_of l) → edited (edit f (word_of o)) n a ≡ stored (origins_of (applied_by o e l))
  room_origins a s =
      ap (edited (edit f (word_of o)) n) s ∙ ap (λ (m : ℕ). edited (edit f (word_of o)) m (stored (origins_of l))) (sym k)
      ∙ ap (λ (g : Form). edited (edit g (word_of o)) (length l) (stored (origins_of l))) (sym (laws.form_of_lem f x)) ∙ origins_edited o e l room

  pub room_length : size_after e n ≡ length (applied_by o e l)
  room_length = ap (size_after e) (sym k) ∙ sym (laws.size (place_of o) e l room.fitting)

-- the code's two tests
pub fits_parts : (e : Edit) (n k : ℕ) (b : Bool) → b ≡ fits e n → k ≡ inserts_of e → (b && leb (n + k) max_items) ≡ fits_list e n
fits_parts e n k b f i = ap (λ (t : Bool). t && leb (n + k) max_items) f ∙ ap (λ (j : ℕ). fits e n && leb (n + j) max_items) i
