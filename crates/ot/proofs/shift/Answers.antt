-- `ot::shift` meets its contract: a return for each move.
use Rattle.ot.specs.Form.{shifted}
use Rattle.ot.proofs.shift.Goals as goal

pub returns-in-Still : goal.returns-in-Still
unfolding shifted
returns-in-Still c = simp c.in-Still.is

pub returns-in-Down : goal.returns-in-Down
unfolding shifted
returns-in-Down c = simp (c.in-Down.is, c.saturating_sub.ensures)

pub returns-in-Up : goal.returns-in-Up
unfolding shifted
returns-in-Up c = simp c.in-Up.is

pub returns-in-Gone : goal.returns-in-Gone
unfolding shifted
returns-in-Gone c = simp c.in-Gone.is
