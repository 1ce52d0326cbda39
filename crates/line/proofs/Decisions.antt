-- What an end reads from a decision: whether and why it refuses, the seen that it accepts, the edit that it applies and keeps.
use Prim.Native.Nat.{ℕ, ◌+◌, ◌≤◌}
use native.Mathlib.Omega.{arith}
use mathlib.Core.Path.{◌≡◌, refl, ap, ◌∙◌, sym}
use mathlib.Core.Bool.{Bool, true, false, cond}
use mathlib.Core.List.{List, [], ◌∷◌, map}
use lib.ListN.{length, length-map}
use borrow.Author.Tests.{le-leb, eqb-false}
use Rattle.limits.specs.Limits.{max_items, max_pending}
use Rattle.ot.specs.declared.Form.{Form}
use Rattle.ot.specs.declared.Form.TheVariants as form
use Rattle.ot.specs.Form.{position_of}
use Rattle.ot.specs.Edit.{Edit, Nothing, edit, form_of, item_of, fits, transformed}
use Rattle.ot.proofs.Laws.{laws}
use Rattle.list.specs.Items.{Room}
use Rattle.list.proofs.Pad.{pad_length}
use Rattle.wire.specs.declared.Message.{Message}
use Rattle.wire.specs.declared.Message.TheVariants as message
use Rattle.wire.specs.Message.{in_range}
use Rattle.wire.proofs.Ranges.{insert_bounds, delete_bounds}
use Rattle.model.specs.Cross.{past, over, all_placed, priority, inserts_of}
use Rattle.model.specs.Line as model
use Rattle.model.specs.Questions.{ask, asks}
use Rattle.model.proofs.Cross.{inserts_past}
use Rattle.model.proofs.Tests.{yes_all, and_right}
use Rattle.pending.specs.Slots.{place_of}
use Rattle.pending.specs.Crossing.{past_forms}
use Rattle.pending.proofs.Forms.{past_forms_lem}
use Rattle.line.specs.declared.Line.{Line}
use Rattle.line.specs.Line.{line_of, Kept}
use Rattle.line.specs.Keeping.{fits_list}
use Rattle.line.proofs.Room.{fits_room}
use Rattle.line.proofs.Parts.{then_right}
use Rattle.line.specs.declared.taking.Arrival.{Arrival}
use Rattle.line.specs.Taking.{arrival_of, edit_of, arrival_asked, nine, refusal_of, edit_then, Later, Between}
use Rattle.line.proofs.Staying.{left_length}

-- ---- a message

pub arrival_position : (m : Message) → in_range m ≡ true → position_of (arrival_of m).form ≤ max_items
arrival_position (message.Insert h p x r) t = (insert_bounds h p x r t).position_high
arrival_position (message.Delete h p) t = (delete_bounds h p t).position_high
arrival_position (message.Nothing h) t = omega arith
arrival_position (message.Ack l d s) t = omega arith

-- an item comes with an insert only
pub arrival_item : (m : Message) → (arrival_of m).item ≡ item_of (edit_of (arrival_of m))
arrival_item (message.Insert h p x r) = refl
arrival_item (message.Delete h p) = refl
arrival_item (message.Nothing h) = refl
arrival_item (message.Ack l d s) = refl

-- the priority of an edit is its form's
pub priority_form : (good : ℕ → Bool) (f : Form) (x y : ℕ) → priority good (edit f x) ≡ priority good (edit f y)
priority_form good form.Nothing x y = refl
priority_form good (form.Delete p) x y = refl
priority_form good (form.Insert p r) x y = refl

-- ---- the edit that is applied: its form beside the item that came

-- g is what the form f became: if g is an insert, so was f.
same_item : (f g : Form) (x : ℕ) → inserts_of (edit g (item_of (edit f x))) ≡ inserts_of (edit f x) → edit g x ≡ edit g (item_of (edit f x))
same_item f form.Nothing x e = refl
same_item f (form.Delete p) x e = refl
same_item form.Nothing (form.Insert p r) x e = absurd (omega (arith, e))
same_item (form.Delete q) (form.Insert p r) x e = absurd (omega (arith, e))
same_item (form.Insert q s) (form.Insert p r) x e = refl

pub past_edit : (f : Form) (x : ℕ) (es : List Edit) → edit (form_of (past (edit f x) es)) x ≡ past (edit f x) es
past_edit f x es =
    let g : Form = past_forms (form_of (edit f x)) (map form_of es) in
    let p : past (edit f x) es ≡ edit g (item_of (edit f x)) = past_forms_lem (edit f x) es in
    ap (λ (e : Edit). edit (form_of e) x) p ∙ ap (λ (h : Form). edit h x) (laws.form_of_lem g (item_of (edit f x)))
    ∙ same_item f g x (ap inserts_of (sym p) ∙ inserts_past (edit f x) es) ∙ sym p

pub then_edit : (m : model.Line) (a : Arrival) → edit (form_of (edit_then m a)) a.item ≡ edit_then m a
then_edit m a = go a.carries
  where
    go : (b : Bool) → edit (form_of (cond b (model.carried m a.seen (edit_of a)) Nothing)) a.item ≡ cond b (model.carried m a.seen (edit_of a)) Nothing
    go true = past_edit a.form a.item (model.unacked m a.seen)
    go false = refl

-- what a line that keeps it asks of the item
item_past : (e : Edit) (es : List Edit) → item_of (past e es) ≡ item_of e
unfolding past
item_past e [] = refl
item_past e (p ∷ ps) = item_past (transformed e p) ps ∙ laws.item_stays e p

past_item : (f : Form) (x : ℕ) (es : List Edit) → x ≡ item_of (edit f x) → x ≡ item_of (edit (form_of (past (edit f x) es)) x)
past_item f x es e = e ∙ sym (item_past (edit f x) es) ∙ ap item_of (sym (past_edit f x es))

pub then_item : (m : model.Line) (t : Message) → (arrival_of t).item ≡ item_of (edit (form_of (edit_then m (arrival_of t))) (arrival_of t).item)
then_item m (message.Insert h p x r) = past_item (form.Insert p r) x (model.unacked m h.seen) refl
then_item m (message.Delete h p) = past_item (form.Delete p) 0 (model.unacked m h.seen) refl
then_item m (message.Nothing h) = past_item form.Nothing 0 (model.unacked m h.seen) refl
then_item m (message.Ack l d s) = refl

-- ---- nothing was refused

module _ (v : Line) (m : model.Line) (len : ℕ) (a : Arrival) (z : refusal_of v m len a ≡ 0) (few : len ≤ max_items) where
  -- the edit that is applied fits
  pub refusal_fits : fits_list (edit_then m a) len ≡ true
  unfolding fits
  refusal_fits = go a.carries (then_right (asks (arrival_asked v a.number a.seen a.carries)) _ z)
    where
      go : (b : Bool) → cond b (asks (ask 9 (nine m len a.seen (edit_of a)) ∷ [])) 0 ≡ 0
          → fits_list (cond b (model.carried m a.seen (edit_of a)) Nothing) len ≡ true
      go true y =
          and_right (all_placed (over (edit_of a) (model.unacked m a.seen))) (fits_list (model.carried m a.seen (edit_of a)) len)
          (yes_all (ask 9 (nine m len a.seen (edit_of a)) ∷ []) (eqb-false 9 0 refl, tt) y).0
      go false y = le-leb (len + 0) max_items (omega (arith, few))

  pub refusal_room : Room (edit (form_of (edit_then m a)) a.item) len max_items
  refusal_room = fits_room (edit (form_of (edit_then m a)) a.item) len few (ap (λ (e : Edit). fits_list e len) (then_edit m a) ∙ refusal_fits)

-- the places that stay fill the lent array
pub later_length : (v : Line) (words : List ℕ) (seen : ℕ) (later : List ℕ) (es : List Edit) → Kept v words → Between v seen
    → Later v seen words later es → length later ≡ max_pending
later_length v words seen later es k b l =
    let n : length es ≡ length (model.unacked (line_of v words) seen) =
    sym (length-map es item_of) ∙ ap length l.items ∙ length-map (model.unacked (line_of v words) seen) item_of in
    ap length l.places
    ∙ pad_length max_pending 0 (map (λ (e : Edit). place_of (form_of e)) es)
    (omega (arith, length-map es (λ (e : Edit). place_of (form_of e)), n, left_length v words k seen b, k.few, b.0))
