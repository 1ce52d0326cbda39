use native.Mathlib.Omega.{arith}
use mathlib.Core.Path.{refl}
use Rattle.c_server.proofs.Ends.{counts_read}
use Rattle.c_server.proofs.Loops.{reading_start, reading_turn, reading_end}
use Rattle.c_server.proofs.layout.counts.Goals as goal

pub loop-i-init : goal.loop-i-init
loop-i-init c = reading_start _ _ refl

pub line_at-requires : goal.line_at-requires
line_at-requires c = omega (arith, c.get.auto.words)

pub loop-i-preserved : goal.loop-i-preserved
loop-i-preserved c =
    reading_turn c.get.new.words c.loop-i.lines c.loop-i.i c.line_at.result c.loop-i-test.true c.loop-i.invariant c.line_at.ensures

pub returns : goal.returns
returns c =
    counts_read c.args.bytes.now c.get.new.words c.in_8.result c.in_16.result c.in_16-2.result _ c.read-ranks.result c.loop-i.lines
    c.get.ensures c.in_8.ensures c.in_16.ensures c.in_16-2.ensures refl c.read-ranks.ensures (reading_end c.get.new.words c.loop-i.lines c.loop-i.i (omega arith) c.loop-i.invariant)
