-- The invariant of the loop.
use Rattle.client.proofs.Origins.{OriginsTo}
use Rattle.client.proofs.packets.fill_origins.Given as goal

abbrev pub invariant-loop-before : goal.invariant-loop-before
invariant-loop-before l = OriginsTo l.line l.acked l.initial.origins l.origins l.before
