-- The words up to line i are the numbers.
use Rattle.c_server.proofs.Loops.{Writing}
use Rattle.c_server.proofs.layout.put_counts.Given as goal

abbrev pub invariant-loop-i : goal.invariant-loop-i
invariant-loop-i l = Writing l.fn.k l.words l.i
