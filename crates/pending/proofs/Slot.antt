-- One slot: a form whose position has 16 bits is read back from its place.
use Prim.Native.Nat.{ℕ, ◌+◌, ◌*◌, ◌/◌, ◌%◌, ◌≤◌, ◌<◌}
use native.Mathlib.Nat.{mod-eq_of_lt, mul-add-div_right, mul-add-mod_self_right, div-eq_of_lt}
use native.Mathlib.Omega.{arith}
use mathlib.Core.Path.{◌≡◌, refl, ap, ◌∙◌}
use mathlib.Core.Bool.{Bool, true, cond}
use lib.Dec.{eqb, lit<}
use borrow.Author.Tests.{ne_eqb}
use Rattle.ot.specs.declared.Form.{Form}
use Rattle.ot.specs.declared.Form.TheVariants as form
use Rattle.ot.specs.Edit.{Edit, Nothing, Delete, Insert, edit, form_of, item_of}
use Rattle.ot.specs.Laws.{within}
use Rattle.ot.proofs.Fits.{between_true}
use Rattle.model.specs.Cross.{priority}
use Rattle.pending.specs.Slots.{place_of, form_from, form_at}

-- the priorities that a slot has room for; 0 is a delete's
abbrev pub Ranks : (ℕ → Bool) → Type 0
Ranks right = (r : ℕ) → right r ≡ true → (1 ≤ r) × (r ≤ 255)

from_parts : (p r : ℕ) → p < 65536 → r < 256 → form_at (p * 256 + r) ≡ form_from p r
unfolding form_at
from_parts p r high small =
    let d : (p * 256 + r) / 256 ≡ p + r / 256 = mul-add-div_right (lit< tt) p r in
    let q : (p * 256 + r) / 256 ≡ p = d ∙ ap (λ (n : ℕ). p + n) (div-eq_of_lt small) ∙ omega arith in
    let m : (p * 256 + r) % 256 ≡ r = mul-add-mod_self_right p 256 r ∙ mod-eq_of_lt small in
    ap (λ (n : ℕ). form_from (n % 65536) ((p * 256 + r) % 256)) q
    ∙ ap (λ (n : ℕ). form_from n ((p * 256 + r) % 256)) (mod-eq_of_lt high)
    ∙ ap (form_from p) m

pub slot_read_back : (n : ℕ) → n < 65536 → (right : ℕ → Bool) → Ranks right → (e : Edit) → within n e ≡ true → priority right e ≡ true
    → edit (form_at (place_of (form_of e))) (item_of e) ≡ e
unfolding within form_at
slot_read_back n few right ranks Nothing h g = refl
slot_read_back n few right ranks (Delete p) h g =
    let b = between_true 1 p n h in
    let z : p * 256 ≡ p * 256 + 0 = omega arith in
    ap (λ (n : ℕ). edit (form_at n) 0) z ∙ ap (λ (f : Form). edit f 0) (from_parts p 0 (omega (arith, b)) (lit< tt))
    ∙ ap (λ (t : Bool). edit (cond t form.Nothing (form.Delete p)) 0) (ne_eqb p 0 (λ e. omega (arith, b)))
slot_read_back n few right ranks (Insert p x r) h g =
    let b = between_true 1 p n h in
    let k = ranks r g in
    ap (λ (f : Form). edit f x) (from_parts p r (omega (arith, b)) (omega (arith, k)))
    ∙ ap (λ (t : Bool). edit (cond t form.Nothing (cond (eqb r 0) (form.Delete p) (form.Insert p r))) x) (ne_eqb p 0 (λ e. omega (arith, b)))
    ∙ ap (λ (t : Bool). edit (cond t (form.Delete p) (form.Insert p r)) x) (ne_eqb r 0 (λ e. omega (arith, k)))
