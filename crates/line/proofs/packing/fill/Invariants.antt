-- The invariants and measures of the loops.
use Prim.Native.Nat.{◌-◌}
use Rattle.line.proofs.Filling.{Upto}
use Rattle.line.proofs.packing.fill.Given as goal

abbrev pub invariant-loop-number : goal.invariant-loop-number
invariant-loop-number l =
    Upto l.line l.direction l.v l.words l.origins l.offset l.initial.out l.out l.number l.at

abbrev pub decreases-loop-number : goal.decreases-loop-number
decreases-loop-number l = l.made - l.number
