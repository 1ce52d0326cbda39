-- An arriving edit and the pending edits of a line (01: its kept edits), by their forms alone: no item changes.
use Rattle.std.specs.Prelude.{ℕ, zero, suc, ◌+◌, ◌≤◌, ◌≡◌, Bool, true, ◌&&◌, List, [], ◌∷◌, map, length}
use Rattle.limits.specs.Limits.{max_pending}
use Rattle.ot.specs.declared.Form.{Form}
use Rattle.ot.specs.Form.{moved}
use Rattle.ot.specs.Edit.{edit}
use Rattle.list.specs.Items.{padded}
use Rattle.model.specs.Cross.{placed}
use Rattle.pending.specs.declared.Crossed.{Crossed}
use Rattle.pending.specs.Slots.{place_of, form_in}

-- the forms in count slots, the first of them slot from
unfoldable pub forms_from : List ℕ → ℕ → ℕ → List Form
forms_from words from zero = []
forms_from words from (suc count) = form_in words from ∷ forms_from words (suc from) count

-- the arriving form past the pending ones, in order; each pending form past the arriving one as it stood before that one
unfoldable pub past_forms : Form → List Form → Form
past_forms f [] = f
past_forms f (p ∷ ps) = past_forms (moved f p) ps

unfoldable pub over_forms : Form → List Form → List Form
over_forms f [] = []
over_forms f (p ∷ ps) = moved p f ∷ over_forms (moved f p) ps

-- positions that a message can carry
unfoldable pub placed_forms : List Form → Bool
placed_forms [] = true
placed_forms (f ∷ fs) = placed (edit f 0) && placed_forms fs

-- how many steps the arriving edit takes past the pending ones
unfoldable pub steps : Form → List Form → ℕ
steps f [] = 0
steps f (p ∷ ps) = suc (steps (moved f p) ps)

-- What an arriving edit becomes, question 9's test of the pending ones' later forms, and the count that the answer gives.
abbrev pub crossed : Form → List Form → Crossed
crossed f fs = record { form = past_forms f fs; placed = placed_forms (over_forms f fs); passed = steps f fs }

-- What crossing asks of the slots: there are so many, and they hold positions of 1 to 512.
pub record Ready (from count : ℕ) (words : List ℕ) : Type 0 where
  pub few : from + count ≤ max_pending
  pub size : max_pending ≤ length words
  pub placed : placed_forms (forms_from words from count) ≡ true

-- the places of forms, with zeros behind them
abbrev pub filled : List Form → List ℕ
filled fs = padded 0 max_pending (map place_of fs)
