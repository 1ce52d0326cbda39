use Prim.Native.Nat.{◌<◌}
use Rattle.limits.specs.Limits.{max_lines}
use Rattle.server.specs.Decides.{place_of}
use Rattle.server.proofs.Asked.{up_line}
use Rattle.server.proofs.Decided.{place_below, inserts_fit, line_ready}
use Rattle.server.proofs.Server.decide_line.Goals as goal
use Rattle.server.proofs.Server.decide_line.Goals.{Start}

below : (c : Start) → place_of c.args.a < max_lines
below c = place_below c.args.self.now.counts c.args.self.now.words c.args.a c.requires.1.0 c.requires.0.1

pub line_at-v-requires : goal.line_at-v-requires
line_at-v-requires c = below (goal.at.line_at-v-requires c).Start

pub inserts_then-inserts-requires : goal.inserts_then-inserts-requires
inserts_then-inserts-requires c =
    let s = c.args.self.now in
    (below (goal.at.inserts_then-inserts-requires c).Start, ((up_line s.counts c.args.a c.requires.0.1).0, inserts_fit s.counts s.words c.args.a c.requires.1.0 c.requires.0.1))

pub slots_at-requires : goal.slots_at-requires
slots_at-requires c = below (goal.at.slots_at-requires c).Start

pub decide-requires : goal.decide-requires
decide-requires c =
    line_ready c.args.self.now.counts c.args.self.now.words c.args.a c.requires.1.0 c.requires.0.1 c.line_at-v.result c.slots_at.result.now c.args.later.now
    c.line_at-v.ensures c.slots_at.ensures c.requires.0.0 c.requires.1.1
