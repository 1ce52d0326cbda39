-- `write_at` meets its contract: the part of the buffer that is lent comes back with the message at its front (proofs/Filling.antt).
use native.Mathlib.Omega.{arith}
use Rattle.line.proofs.Filling.{past_end, lent_back}
use Rattle.line.proofs.packing.write_at.Goals as goal

pub returns-then-out-at : goal.returns-then-out-at
returns-then-out-at c = past_end c.args.m c.args.at c.args.out.now (omega (arith, c.if-out-at.true))

pub returns : goal.returns
returns c =
    lent_back c.args.m c.args.at c.args.out.now (omega (arith, c.if-out-at.false)) c.write.result c.write.new.out c.write.ensures
