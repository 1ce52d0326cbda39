use Rattle.line.proofs.Sends.{too_short, written}
use Rattle.line.proofs.sending.finish.Goals as goal

pub returns-then-written-eq0 : goal.returns-then-written-eq0
returns-then-written-eq0 c =
    too_short c.args.m c.args.out.now c.write-written.result c.write-written.new.out c.write-written.ensures c.if-written-eq0.true

pub returns : goal.returns
returns c =
    written c.args.m c.args.out.now c.write-written.result c.write-written.new.out c.write-written.ensures c.if-written-eq0.false
