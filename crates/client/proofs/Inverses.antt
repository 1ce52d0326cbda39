-- The stored inverse: what the code tests and makes of its two words is what the definitions say of the edit that they are.
use Prim.Native.Nat.{ℕ, ◌+◌, ◌-◌, ◌≤◌, ◌<◌}
use native.Mathlib.Omega.{arith}
use mathlib.Core.Path.{◌≡◌, refl, ap, ◌∙◌, sym}
use mathlib.Core.Bool.{Bool, true, false, not, ◌&&◌, ◌||◌}
use mathlib.Core.List.{List}
use lib.Dec.{eqb}
use lib.ListN.{get_or}
use borrow.Author.Tests.{eqb-true, eq-eqb}
use Rattle.limits.specs.Limits.{max_items}
use Rattle.ot.specs.declared.Form.{Form}
use Rattle.ot.specs.declared.Form.TheVariants as form
use Rattle.ot.specs.declared.Moved.{Moved}
use Rattle.ot.specs.Form.{position_of, moved, moved_so}
use Rattle.ot.specs.Edit.{Edit, Nothing, Delete, Insert, edit, form_of, item_of, fits, transformed}
use Rattle.ot.specs.Laws.{within}
use Rattle.ot.proofs.Laws.{laws}
use Rattle.list.specs.Places.{Place, items_of}
use Rattle.model.specs.Cross.{priority}
use Rattle.model.specs.Inverse.{inverse_of, is_nothing, inverse_stands, sound_inverse}
use Rattle.model.specs.Client as model
use Rattle.model.proofs.Tests.{never, both, and_left, and_right, between_true, bool_ext}
use Rattle.model.proofs.SoundClient.{ClientFacts}
use Rattle.ranks.proofs.Laws.{ranking_facts}
use Rattle.pending.specs.Slots.{place_of, form_at}
use Rattle.pending.proofs.Slot.{Ranks, slot_read_back}
use Rattle.line.proofs.Decisions.{priority_form}
use Rattle.line.proofs.Stored as lines
use Rattle.client.specs.declared.Inverse.{Inverse}
use Rattle.client.specs.View.{inverse_in, inverse_stored, inverse_tidy}
use Rattle.client.specs.Undo.{inverse_made}

-- whether it stands is seen in its form
stands_form : (f : Form) (x y : ℕ) → inverse_stands (edit f x) ≡ inverse_stands (edit f y)
unfolding within
stands_form form.Nothing x y = refl
stands_form (form.Delete p) x y = refl
stands_form (form.Insert p r) x y = refl

-- ---- one without bits that mean nothing

no_place_lem : (f : Form) (x : ℕ) → is_nothing (edit f x) ≡ true → place_of f ≡ 0
no_place_lem form.Nothing x n = refl
no_place_lem (form.Delete p) x n = never n
no_place_lem (form.Insert p r) x n = never n

-- its two tests
abbrev right : Inverse → Bool
right b = eqb b.place (place_of (form_at b.place))

abbrev brought : Inverse → Bool
brought b = eqb b.item (item_of (inverse_in b))

module _ (b : Inverse) (t : inverse_tidy b ≡ true) where
  tidy_place : b.place ≡ place_of (form_at b.place)
  tidy_place = eqb-true b.place (place_of (form_at b.place)) (and_left (right b) (brought b) t)

  pub tidy_item : b.item ≡ item_of (inverse_in b)
  tidy_item = eqb-true b.item (item_of (inverse_in b)) (and_right (right b) (brought b) t)

  -- it is the store of what it stands for
  pub tidy_stored : b ≡ inverse_stored (inverse_in b)
  tidy_stored =
      λ i. record { place = (tidy_place ∙ ap place_of (sym (laws.form_of_lem (form_at b.place) b.item))) i; item = tidy_item i }

  -- its place is 0 where there is nothing to take back, and only there
  pub tidy_none : eqb b.place 0 ≡ is_nothing (inverse_in b)
  unfolding form_at
  tidy_none =
      bool_ext (eqb b.place 0) (is_nothing (inverse_in b))
      (λ z. ap (λ (n : ℕ). is_nothing (edit (form_at n) b.item)) (eqb-true b.place 0 z))
      (λ n. eq-eqb b.place 0 (tidy_place ∙ no_place_lem (form_at b.place) b.item n))

-- ---- question 2 of it, as the code tests it

-- two tests that are the same wherever the last one holds
before : (t a b : Bool) → (t ≡ true → a ≡ b) → (a && t) ≡ (b && t)
before true a b h = ap (λ (x : Bool). x && true) (h refl)
before false true true h = refl
before false true false h = refl
before false false true h = refl
before false false false h = refl

pub inverse_tested : (b : Inverse) (rank made : ℕ) (f : Form) → f ≡ form_at b.place → (stands ranked tidy : Bool) → stands ≡ inverse_stands (edit f 0)
    → ranked ≡ priority (eqb rank) (edit f 0) → tidy ≡ inverse_tidy b
    → (stands && ranked && (not (eqb made 0) || eqb b.place 0) && tidy) ≡ (sound_inverse rank made (inverse_in b) && inverse_tidy b)
inverse_tested b rank made f ef stands ranked tidy es er et =
    let g : Form = form_at b.place in
    let s : stands ≡ inverse_stands (inverse_in b) = es ∙ ap (λ (h : Form). inverse_stands (edit h 0)) ef ∙ stands_form g 0 b.item in
    let r : ranked ≡ priority (eqb rank) (inverse_in b) = er ∙ ap (λ (h : Form). priority (eqb rank) (edit h 0)) ef ∙ priority_form (eqb rank) g 0 b.item in
    let with : Bool → Bool = λ n. inverse_stands (inverse_in b) && priority (eqb rank) (inverse_in b) && (not (eqb made 0) || n) in
    (λ i. s i && r i && (not (eqb made 0) || eqb b.place 0) && et i)
    ∙ before (inverse_tidy b) (with (eqb b.place 0)) (with (is_nothing (inverse_in b))) (λ t. ap with (tidy_none b t))

-- ---- the inverse of an edit

module _ (rank : ℕ) (list : List ℕ) (f : Form) where
  pub made_nothing : f ≡ form.Nothing → record { place = 0; item = 0 } ≡ inverse_made rank list f
  made_nothing e = ap (inverse_made rank list) (sym e)

  pub made_delete : (p place : ℕ) → f ≡ form.Delete p → place ≡ place_of (form.Insert p rank)
      → record { place = place; item = get_or list (p - 1) 0 } ≡ inverse_made rank list f
  made_delete p place e ep = (λ i. record { place = ep i; item = get_or list (p - 1) 0 }) ∙ ap (inverse_made rank list) (sym e)

  pub made_insert : (p r place : ℕ) → f ≡ form.Insert p r → place ≡ place_of (form.Delete p) → record { place = place; item = 0 } ≡ inverse_made rank list f
  made_insert p r place e ep = (λ i. record { place = ep i; item = 0 }) ∙ ap (inverse_made rank list) (sym e)

pub made_is : (rank : ℕ) (l : List Place) (f : Form) (x : ℕ) → inverse_made rank (items_of l) f ≡ inverse_stored (inverse_of rank l (edit f x))
made_is rank l form.Nothing x = refl
made_is rank l (form.Delete p) x = refl
made_is rank l (form.Insert p r) x = refl

-- an edit's item plays no part in where it fits
pub fits_form : (f : Form) (x y n : ℕ) → fits (edit f x) n ≡ fits (edit f y) n
unfolding fits
fits_form form.Nothing x y n = refl
fits_form (form.Delete p) x y n = refl
fits_form (form.Insert p r) x y n = refl

-- ---- past an edit

low : (f : Form) (x : ℕ) → inverse_stands (edit f x) ≡ true → position_of f ≤ max_items + 1
unfolding within
low form.Nothing x h = omega arith
low (form.Delete p) x h = (between_true 1 (max_items + 1) p h).1
low (form.Insert p r) x h = (between_true 1 (max_items + 1) p h).1

module _ (b : Inverse) (own : Form) (eo : own ≡ form_at b.place) where
  pub past_low : inverse_stands (inverse_in b) ≡ true → position_of own < 65535
  past_low h = omega (arith, ap position_of eo, low (form_at b.place) b.item h)

  pub past_stored : inverse_tidy b ≡ true → (f : Form) (m : Moved) (place : ℕ) → m ≡ moved_so own f → place ≡ place_of m.form → (x : ℕ)
      → record { place = place; item = b.item } ≡ inverse_stored (transformed (inverse_in b) (edit f x))
  past_stored t f m place em ep x =
      let e : Edit = transformed (inverse_in b) (edit f x) in
      let forms : m.form ≡ form_of e =
      ap (λ (n : Moved). n.form) em ∙ ap (λ (g : Form). moved g f) (eo ∙ sym (laws.form_of_lem (form_at b.place) b.item))
      ∙ ap (moved (form_of (inverse_in b))) (sym (laws.form_of_lem f x)) ∙ sym (laws.form_moves (inverse_in b) (edit f x)) in
      λ i. record { place = (ep ∙ ap place_of forms) i; item = (tidy_item b t ∙ sym (laws.item_stays (inverse_in b) (edit f x))) i }

-- an acknowledgement applies nothing
pub past_none : (e : Edit) → transformed e Nothing ≡ e
unfolding transformed moved
past_none Nothing = refl
past_none (Delete p) = refl
past_none (Insert p x r) = refl

-- ---- read back

-- the client's own rank fits a slot
pub ranks_fit : (m : model.Client) → ClientFacts m → Ranks (eqb (model.own_rank m))
ranks_fit m f =
    let r = (ranking_facts m.n m.ranks f.ranked).each m.line f.line.0 f.line.1 in
    lines.own_ranks m.n (model.own_rank m) r.0 (omega (arith, r, f.lines))

module _ (rank n : ℕ) (ranks : Ranks (eqb rank)) (few : n < 65536) (e : Edit) (w : within n e ≡ true) (p : priority (eqb rank) e ≡ true) where
  pub inverse_read : inverse_in (inverse_stored e) ≡ e
  inverse_read = slot_read_back n few (eqb rank) ranks e w p

  pub inverse_tidy_lem : inverse_tidy (inverse_stored e) ≡ true
  inverse_tidy_lem =
      let b : Inverse = inverse_stored e in
      both (right b) (brought b)
      (eq-eqb b.place (place_of (form_at b.place)) (ap (λ (d : Edit). place_of (form_of d)) (sym inverse_read) ∙ ap place_of (laws.form_of_lem (form_at b.place) b.item)))
      (eq-eqb b.item (item_of (inverse_in b)) (ap item_of (sym inverse_read)))

  -- the code looks at the form that it stored
  pub stands_read : inverse_stands (edit (form_at (inverse_stored e).place) 0) ≡ inverse_stands e
  stands_read = stands_form (form_at (place_of (form_of e))) 0 (item_of e) ∙ ap inverse_stands inverse_read
