-- The invariants and measures of the loops.
use Rattle.ranks.proofs.Scan.{Scan}
use Rattle.ranks.proofs.each_once.Given as goal

abbrev pub invariant-loop-rank : goal.invariant-loop-rank
invariant-loop-rank l = Scan l.n 256 l.ranks l.seen l.well l.rank-index
