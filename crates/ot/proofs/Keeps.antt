-- What transforming leaves as it was, and how far a position moves.
use mathlib.Core.Path.{◌≡◌, refl}
use mathlib.Core.Bool.{Bool, true, false, cond}
use Prim.Native.Nat.{ℕ, ◌+◌, ◌-◌, ◌≤◌, ◌<◌}
use native.Mathlib.Omega.{arith}
use mathlib.Core.Option.{none, some}
use lib.Dec.{leb, ltb}
use borrow.Author.Tests.{ltb-true, leb-false}
use Rattle.ot.specs.declared.Form.{Form}
use Rattle.ot.specs.declared.Form.TheVariants as form
use Rattle.ot.specs.Form.{position_of, moved}
use Rattle.ot.specs.Edit.{Edit, Nothing, Delete, Insert, form_of, item_of, edit, transformed}
use Rattle.ot.specs.Laws.{stamp, within}
use Rattle.ot.proofs.Fits.{between_true, true_between}

-- a property of both branches is one of the choice
pub either : {A : Type 0} (P : A → Type 0) (t : Bool) (a b : A) → (t ≡ true → P a) → (t ≡ false → P b) → P (cond t a b)
either P true a b f g = f refl
either P false a b f g = g refl

-- The forms that a delete can take, and those of an insert: a property of each is one of the form after any edit.
-- A position falls only past a delete in front of it.
delete_forms : (P : Form → Type 0) (p : ℕ) (b : Form) → P form.Nothing → P (form.Delete p) → P (form.Delete (p + 1))
    → ((q : ℕ) → b ≡ form.Delete q → q < p → P (form.Delete (p - 1))) → P (moved (form.Delete p) b)
unfolding moved
delete_forms P p form.Nothing gone same up down = same
delete_forms P p (form.Delete q) gone same up down =
    either P (ltb p q) (form.Delete p) (cond (ltb q p) (form.Delete (p - 1)) form.Nothing) (λ _. same)
    (λ _. either P (ltb q p) (form.Delete (p - 1)) form.Nothing (λ t. down q refl (ltb-true q p t)) (λ _. gone))
delete_forms P p (form.Insert q s) gone same up down = either P (ltb p q) (form.Delete p) (form.Delete (p + 1)) (λ _. same) (λ _. up)

pub insert_forms : (P : Form → Type 0) (p r : ℕ) (b : Form) → P (form.Insert p r) → P (form.Insert (p + 1) r)
    → ((q : ℕ) → b ≡ form.Delete q → q < p → P (form.Insert (p - 1) r)) → P (moved (form.Insert p r) b)
unfolding moved
insert_forms P p r form.Nothing same up down = same
insert_forms P p r (form.Delete q) same up down = either P (leb p q) (form.Insert p r) (form.Insert (p - 1) r) (λ _. same) (λ t. down q refl (leb-false p q t))
insert_forms P p r (form.Insert q s) same up down =
    let higher = cond (ltb s r) (form.Insert (p + 1) r) (form.Insert p r) in
    either P (ltb p q) (form.Insert p r) (cond (ltb q p) (form.Insert (p + 1) r) higher) (λ _. same)
    (λ _. either P (ltb q p) (form.Insert (p + 1) r) higher (λ _. up) (λ _. either P (ltb s r) (form.Insert (p + 1) r) (form.Insert p r) (λ _. up) (λ _. same)))

-- ---- form and item

pub form_of_lem : (f : Form) (x : ℕ) → form_of (edit f x) ≡ f
form_of_lem form.Nothing x = refl
form_of_lem (form.Delete p) x = refl
form_of_lem (form.Insert p r) x = refl

pub whole : (e : Edit) → edit (form_of e) (item_of e) ≡ e
whole Nothing = refl
whole (Delete p) = refl
whole (Insert p x r) = refl

pub form_moves : (a b : Edit) → form_of (transformed a b) ≡ moved (form_of a) (form_of b)
unfolding transformed
form_moves a b = form_of_lem (moved (form_of a) (form_of b)) (item_of a)

pub item_stays : (a b : Edit) → item_of (transformed a b) ≡ item_of a
unfolding transformed
item_stays Nothing b = refl
item_stays (Delete p) b = delete_forms (λ f. item_of (edit f 0) ≡ 0) p (form_of b) refl refl refl (λ q e h. refl)
item_stays (Insert p x r) b = insert_forms (λ f. item_of (edit f x) ≡ x) p r (form_of b) refl refl (λ q e h. refl)

pub keeps : (a b : Edit) → stamp (transformed a b) ≡ stamp a
unfolding stamp transformed
keeps Nothing b = refl
keeps (Delete p) b = delete_forms (λ f. stamp (edit f 0) ≡ none) p (form_of b) refl refl refl (λ q e h. refl)
keeps (Insert p x r) b = insert_forms (λ f. stamp (edit f x) ≡ some (x, r)) p r (form_of b) refl refl (λ q e h. refl)

-- ---- positions

pub moves : (a b : Form) → position_of (moved a b) ≤ position_of a + 1
unfolding moved
moves form.Nothing b = omega arith
moves (form.Delete p) b = delete_forms (λ f. position_of f ≤ p + 1) p b (omega arith) (omega arith) (omega arith) (λ q e h. omega arith)
moves (form.Insert p r) b = insert_forms (λ f. position_of f ≤ p + 1) p r b (omega arith) (omega arith) (λ q e h. omega arith)

-- a delete within m has a position
from_one : (m : ℕ) (b : Edit) (q : ℕ) → within m b ≡ true → form_of b ≡ form.Delete q → 1 ≤ q
unfolding within
from_one m Nothing q w e = absurd (let z : ◌≡◌ {A = ℕ} 0 1 = cc in omega arith)
from_one m (Delete p) q w e =
    let same : p ≡ q = cc in
    omega (arith, between_true 1 p m w)
from_one m (Insert p x r) q w e = absurd (let z : ◌≡◌ {A = ℕ} 0 1 = cc in omega arith)

pub stays : (n m : ℕ) (a b : Edit) → within n a ≡ true → within m b ≡ true → within (n + 1) (transformed a b) ≡ true
unfolding within transformed
stays n m Nothing b w v = refl
stays n m (Delete p) b w v =
    let h = between_true 1 p n w in
    delete_forms (λ f. within (n + 1) (edit f 0) ≡ true) p (form_of b) refl (true_between 1 p (n + 1) (omega arith) (omega arith)) (true_between 1 (p + 1) (n + 1) (omega arith) (omega arith))
    (λ q e k. true_between 1 (p - 1) (n + 1) (omega (arith, from_one m b q v e)) (omega arith))
stays n m (Insert p x r) b w v =
    let h = between_true 1 p n w in
    insert_forms (λ f. within (n + 1) (edit f x) ≡ true) p r (form_of b) (true_between 1 p (n + 1) (omega arith) (omega arith)) (true_between 1 (p + 1) (n + 1) (omega arith) (omega arith))
    (λ q e k. true_between 1 (p - 1) (n + 1) (omega (arith, from_one m b q v e)) (omega arith))
