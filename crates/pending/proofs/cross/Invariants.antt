-- The invariants and measures of the loops.
use mathlib.Core.Path.{◌≡◌}
use Rattle.pending.proofs.Crossing.{Crossing}
use Rattle.pending.proofs.cross.Given as goal

abbrev pub invariant-loop-i : goal.invariant-loop-i
invariant-loop-i l = Crossing l.fn.words l.fn.from l.fn.count l.fn.f l.i l.later l.current l.placed × (l.passed ≡ l.i)
