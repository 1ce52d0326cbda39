-- The invariant of the loop.
use Rattle.server.proofs.Lines.{Adding}
use Rattle.server.proofs.Counts.add_up.Given as goal

abbrev pub invariant-loop-v : goal.invariant-loop-v
invariant-loop-v l = Adding l.self l.self.n l.v-index l.taken l.inserts
