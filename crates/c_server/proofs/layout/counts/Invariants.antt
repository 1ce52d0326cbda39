-- The invariants and measures of the loops.
use Prim.Native.Nat.{◌-◌}
use Rattle.limits.specs.Limits.{max_lines}
use Rattle.c_server.proofs.Loops.{Reading}
use Rattle.c_server.proofs.layout.counts.Given as goal

abbrev pub invariant-loop-i : goal.invariant-loop-i
invariant-loop-i l = Reading l.numbers l.lines l.i

abbrev pub decreases-loop-i : goal.decreases-loop-i
decreases-loop-i l = max_lines - l.i
