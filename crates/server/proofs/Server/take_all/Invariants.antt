-- The invariant and the measure of the loop.
use Prim.Native.Nat.{◌-◌}
use lib.ListN.{length}
use Rattle.wire_packet.proofs.Handing.{Handing}
use Rattle.server.specs.View.{Sound}
use Rattle.server.specs.Answers.{taken}
use Rattle.server.proofs.Server.take_all.Given as goal

abbrev pub invariant-loop-at : goal.invariant-loop-at
invariant-loop-at l = Sound l.self × Handing taken l.packet l.initial.self l.at l.taken l.self

abbrev pub decreases-loop-at : goal.decreases-loop-at
decreases-loop-at l = length l.packet - l.at
