-- What a sound line writes is in range.
use mathlib.Core.Path.{◌≡◌, refl, ap, ap₂, ◌∙◌, subst}
use mathlib.Core.Bool.{Bool, true, false, ◌&&◌, ◌||◌}
use Prim.Native.Nat.{ℕ, suc, ◌-◌, ◌≤◌, ◌<◌}
use native.Mathlib.Numerals.{add-one}
use native.Mathlib.Omega.{arith}
use lib.Dec.{leb}
use lib.ListN.{length, get_or, get_or-map}
use borrow.Author.Tests.{le-leb}
use Rattle.ot.specs.Edit.{Edit, Nothing, Delete, Insert}
use Rattle.ot.specs.Laws.{within}
use Rattle.list.specs.declared.Origin.{Origin}
use Rattle.wire.specs.declared.Header.{Header}
use Rattle.wire.specs.declared.Message.{Message}
use Rattle.wire.specs.declared.Message.TheVariants as message
use Rattle.wire.specs.Message.{message_of, origin_in_range, header_in_range, in_range, between}
use Rattle.limits.specs.Limits.{max_edits, max_others}
use Rattle.wire.specs.Bytes.{bytes_of}
use Rattle.jupiter.specs.Ends as ends
use Rattle.jupiter.proofs.Lists.{All}
use Rattle.model.specs.Cross.{placed, priority, priorities}
use Rattle.model.specs.Line.{line_message}
use Rattle.model.specs.Edits.{Rule, edits_by}
use Rattle.model.specs.Log.{header_of}
use Rattle.model.proofs.Tests.{both, true_between}
use Rattle.model.proofs.Cross.{placed_at, priorities_at}
use Rattle.model.proofs.SoundLine.{LineFacts}
use Rattle.model.proofs.Small.{Small, all_get}
use Rattle.model.proofs.Instance.{edits_of}
use Rattle.model.proofs.Sim.{line_from}

-- an edit that an end keeps: its position, its priority and its item
pub fits_range : (h : Header) (e : Edit) (good : ℕ → Bool) → header_in_range h ≡ true → placed e ≡ true → priority good e ≡ true
    → ((r : ℕ) → good r ≡ true → (1 ≤ r) × (r ≤ 8)) → Small e → in_range (message_of h e) ≡ true
unfolding in_range within
fits_range h Nothing good a b c d f = a
fits_range h (Delete p) good a b c d f = both (header_in_range h) (between 1 512 p) a b
fits_range h (Insert p x r) good a b c d f =
    both (header_in_range h && between 1 512 p && leb x 4294967295) (between 1 8 r)
    (both (header_in_range h && between 1 512 p) (leb x 4294967295) (both (header_in_range h) (between 1 512 p) a b) f)
    (true_between 1 8 r (d r c).0 (d r c).1)

-- ---- the message of a pending edit
module _ {by : Rule} (v : ends.End (edits_by by)) (i number : ℕ) where
  pending_edit : get_or (edits_of v.pending) (number - suc v.acked) Nothing ≡ (ends.message number v).edit.edit
  pending_edit = get_or-map (λ e. e.edit) v.pending (number - suc v.acked) (edits_by by).nothing

  pub line_bytes : (line direction : ℕ) (o : Origin) → o ≡ (ends.message number v).edit.origin
      → bytes_of (line_message line direction o (line_from v i) number) ≡ bytes_of (message_of (header_of line direction (ends.message number v)) (ends.message number v).edit.edit)
  line_bytes line direction o own =
      ap₂ (λ (q : Origin) (e : Edit). bytes_of (message_of (record { line = line; direction = direction; number = number; seen = v.taken; origin = q }) e)) own
      (ap (λ (j : ℕ). get_or (edits_of v.pending) (number - j) Nothing) (add-one v.acked) ∙ pending_edit)

  module _ (k : ℕ) (right : ℕ → Bool) (f : LineFacts k right (line_from v i)) (low : v.acked < number) (high : number ≤ v.made) where
    place : number - suc v.acked < length (edits_of v.pending)
    place = omega (arith, f.count)

    -- what holds of every pending edit
    of_pending : (P : Edit → Type 0) → P (get_or (edits_of v.pending) (number - suc v.acked) Nothing) → P (ends.message number v).edit.edit
    of_pending P p = subst P pending_edit p

    pub line_priority : priority right (ends.message number v).edit.edit ≡ true
    line_priority = of_pending (λ e. priority right e ≡ true) (priorities_at right (edits_of v.pending) (number - suc v.acked) place f.priorities)

    pub line_range : (h : Header) → header_in_range h ≡ true → ((r : ℕ) → right r ≡ true → (1 ≤ r) × (r ≤ 8)) → All Small (edits_of v.pending)
        → in_range (message_of h (ends.message number v).edit.edit) ≡ true
    line_range h range priorities small =
        fits_range h (ends.message number v).edit.edit right range
        (of_pending (λ e. placed e ≡ true) (placed_at (edits_of v.pending) (number - suc v.acked) place f.placed)) line_priority priorities
        (of_pending Small (all_get Small (edits_of v.pending) (number - suc v.acked) Nothing place small))

or_left : (a b : Bool) → a ≡ true → (a || b) ≡ true
or_left true b e = refl
or_left false b e = absurd (let z : ◌≡◌ {A = ℕ} 0 1 = cc in omega arith)

or_right : (a b : Bool) → b ≡ true → (a || b) ≡ true
or_right true b e = refl
or_right false b e = e

pub up_range : (l k s : ℕ) (o : Origin) → 1 ≤ l → l ≤ 8 → 1 ≤ k → k ≤ max_edits → s ≤ max_others → origin_in_range o ≡ true
    → header_in_range (record { line = l; direction = 0; number = k; seen = s; origin = o }) ≡ true
up_range l k s o a b c d e f =
    both (between 1 8 l && (between 1 max_edits k && leb s max_others || false)) (origin_in_range o)
    (both (between 1 8 l) (between 1 max_edits k && leb s max_others || false) (true_between 1 8 l a b)
    (or_left (between 1 max_edits k && leb s max_others) false (both (between 1 max_edits k) (leb s max_others) (true_between 1 max_edits k c d) (le-leb s max_others e)))) f

pub down_range : (l k s : ℕ) (o : Origin) → 1 ≤ l → l ≤ 8 → 1 ≤ k → k ≤ max_others → s ≤ max_edits → origin_in_range o ≡ true
    → header_in_range (record { line = l; direction = 1; number = k; seen = s; origin = o }) ≡ true
down_range l k s o a b c d e f =
    both (between 1 8 l && (between 1 max_others k && leb s max_edits)) (origin_in_range o)
    (both (between 1 8 l) (between 1 max_others k && leb s max_edits) (true_between 1 8 l a b)
    (both (between 1 max_others k) (leb s max_edits) (true_between 1 max_others k c d) (le-leb s max_edits e))) f

pub up_ack_range : (l s : ℕ) → 1 ≤ l → l ≤ 8 → s ≤ max_others → in_range (message.Ack l 0 s) ≡ true
unfolding in_range
up_ack_range l s a b c = both (between 1 8 l) (leb s max_others || false) (true_between 1 8 l a b) (or_left (leb s max_others) false (le-leb s max_others c))

pub down_ack_range : (l s : ℕ) → 1 ≤ l → l ≤ 8 → s ≤ max_edits → in_range (message.Ack l 1 s) ≡ true
unfolding in_range
down_ack_range l s a b c = both (between 1 8 l) (leb s max_edits) (true_between 1 8 l a b) (le-leb s max_edits c)

-- no message is longer than 17 bytes
pub short : (m : Message) → length (bytes_of m) ≤ 17
unfolding bytes_of
short (message.Insert h p x r) = omega arith
short (message.Delete h p) = omega arith
short (message.Nothing h) = omega arith
short (message.Ack l d s) = omega arith
