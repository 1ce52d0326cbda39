-- The invariants and measures of the loops.
use Rattle.list.proofs.Places.{Numbering}
use Rattle.list.proofs.initial_origins.Given as goal

abbrev pub invariant-loop-i : goal.invariant-loop-i
invariant-loop-i l = Numbering l.fn.len l.initial.word-items l.word-items l.i
