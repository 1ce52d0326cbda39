-- The invariant of the loop.
use Prim.Native.Nat.{◌≤◌}
use Rattle.ot.specs.Edit.{edit}
use Rattle.server.specs.Taking.{KeptBy}
use Rattle.server.proofs.Server.keep_others.Given as goal

abbrev pub invariant-loop-i : goal.invariant-loop-i
invariant-loop-i l =
    let k = l.initial.self in
    (l.i ≤ l.n) × KeptBy l.i l.at (edit l.f l.x) l.word k.counts k.words l.self.counts l.self.words
