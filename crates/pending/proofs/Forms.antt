-- Crossing by forms is crossing of edits: the forms are those of the edits, and the items stay.
use mathlib.Core.Path.{◌≡◌, refl, ap, sym, ◌∙◌}
use mathlib.Core.Bool.{Bool, ◌&&◌}
use mathlib.Core.List.{List, [], ◌∷◌, map}
use Prim.Native.Nat.{ℕ, zero, suc, ◌+◌}
use lib.ListN.{length, get_or}
use Rattle.limits.specs.Limits.{max_pending}
use Rattle.ot.specs.declared.Form.{Form}
use Rattle.ot.specs.Form.{moved}
use Rattle.ot.specs.Edit.{Edit, Nothing, Delete, Insert, edit, form_of, item_of, transformed}
use Rattle.ot.specs.Laws.{within}
use Rattle.ot.proofs.Laws.{laws}
use Rattle.model.specs.Cross.{past, over, placed, all_placed}
use Rattle.pending.specs.Slots.{form_in, edit_in, edits_from}
use Rattle.pending.specs.Crossing.{forms_from, past_forms, over_forms, placed_forms, steps}

pub past_forms_lem : (e : Edit) (es : List Edit) → past e es ≡ edit (past_forms (form_of e) (map form_of es)) (item_of e)
unfolding past past_forms
past_forms_lem e [] = sym (laws.whole e)
past_forms_lem e (p ∷ es) =
    past_forms_lem (transformed e p) es
    ∙ ap (λ (f : Form). edit (past_forms f (map form_of es)) (item_of (transformed e p))) (laws.form_moves e p)
    ∙ ap (edit (past_forms (moved (form_of e) (form_of p)) (map form_of es))) (laws.item_stays e p)

pub over_forms_lem : (e : Edit) (es : List Edit) → map form_of (over e es) ≡ over_forms (form_of e) (map form_of es)
unfolding over over_forms
over_forms_lem e [] = refl
over_forms_lem e (p ∷ es) =
    ap (λ (f : Form). f ∷ map form_of (over (transformed e p) es)) (laws.form_moves p e)
    ∙ ap (λ (fs : List Form). moved (form_of p) (form_of e) ∷ fs) (over_forms_lem (transformed e p) es)
    ∙ ap (λ (f : Form). moved (form_of p) (form_of e) ∷ over_forms f (map form_of es)) (laws.form_moves e p)

pub over_items : (e : Edit) (es : List Edit) → map item_of (over e es) ≡ map item_of es
unfolding over
over_items e [] = refl
over_items e (p ∷ es) =
    ap (λ (x : ℕ). x ∷ map item_of (over (transformed e p) es)) (laws.item_stays p e)
    ∙ ap (λ (xs : List ℕ). item_of p ∷ xs) (over_items (transformed e p) es)

-- whether an edit is placed is seen in its form
placed_form : (e : Edit) → placed e ≡ placed (edit (form_of e) 0)
unfolding within
placed_form Nothing = refl
placed_form (Delete p) = refl
placed_form (Insert p x r) = refl

pub placed_forms_lem : (es : List Edit) → all_placed es ≡ placed_forms (map form_of es)
unfolding all_placed placed_forms
placed_forms_lem [] = refl
placed_forms_lem (e ∷ es) =
    ap (λ (b : Bool). b && all_placed es) (placed_form e)
    ∙ ap (λ (b : Bool). placed (edit (form_of e) 0) && b) (placed_forms_lem es)

pub steps_length : (f : Form) (fs : List Form) → steps f fs ≡ length fs
unfolding steps
steps_length f [] = refl
steps_length f (p ∷ fs) = ap suc (steps_length (moved f p) fs)

pub forms_edits : (words : List ℕ) (from count : ℕ) → forms_from words from count ≡ map form_of (edits_from words from count)
unfolding forms_from edits_from
forms_edits words from zero = refl
forms_edits words from (suc count) =
    ap (λ (f : Form). f ∷ forms_from words (suc from) count) (sym (laws.form_of_lem (form_in words from) (get_or words (max_pending + from) 0)))
    ∙ ap (λ (fs : List Form). form_of (edit_in words from) ∷ fs) (forms_edits words (suc from) count)
