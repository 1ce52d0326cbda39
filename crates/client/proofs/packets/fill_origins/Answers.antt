-- `fill_origins` meets its contract: the words up to a number are those of its line's edits (proofs/Origins.antt).
use native.Mathlib.Omega.{arith}
use Rattle.client.proofs.Origins.{origins_start, origins_turn, origins_end}
use Rattle.client.proofs.packets.fill_origins.Goals as goal

pub loop-before-init : goal.loop-before-init
loop-before-init c = origins_start c.args.line c.args.acked c.args.origins.now

pub loop-before-preserved : goal.loop-before-preserved
loop-before-preserved c =
    origins_turn c.args.line c.args.acked c.args.origins.now (omega arith) c.loop-before.invariant (omega arith) c.word_of.result c.word_of.ensures

pub returns : goal.returns
returns c = origins_end c.args.line c.args.acked c.args.origins.now c.loop-before.invariant c.args.made c.loop-before-test.false
