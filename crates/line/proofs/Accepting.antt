-- What is written once a message was accepted: the words of the pending edits that stay.
use mathlib.Core.Path.{◌≡◌, ap, ◌∙◌, sym}
use mathlib.Core.List.{List, ◌++◌, map-map}
use Prim.Native.Nat.{ℕ, ◌+◌, ◌-◌}
use lib.ListN.{take, drop}
use Rattle.limits.specs.Limits.{max_pending}
use Rattle.ot.specs.Edit.{Edit, form_of}
use Rattle.list.specs.Items.{padded}
use Rattle.pending.specs.Slots.{place_of, slots_of}
use Rattle.pending.proofs.Slots.{slots_replace}
use Rattle.line.specs.declared.Line.{Line}
use Rattle.line.specs.Line.{pending_in, Kept}
use Rattle.line.specs.Taking.{Between, Later, accepted}
use Rattle.line.proofs.Staying.{parts_length, parts_few}

pub accepted_slots : (v : Line) (seen : ℕ) (words later : List ℕ) (es : List Edit) → Kept v words → Between v seen
    → Later v seen words later es → accepted v seen later words ≡ slots_of es
accepted_slots v seen words later es k b l =
    ap (λ (w : List ℕ). later ++ padded 0 max_pending (take (v.made - seen) (drop (max_pending + (seen - v.acked)) w))) k.whole
    ∙ slots_replace (pending_in v words) es (seen - v.acked) (v.made - seen) later (parts_length v words k seen b) (parts_few v words k seen b)
    (l.places ∙ ap (padded 0 max_pending) (sym (map-map place_of form_of es))) l.items
