use Rattle.sheet_print.proofs.Places.{one_put}
use Rattle.sheet_print.proofs.Sinks.{then_byte}
use Rattle.sheet_print.proofs.reply.Goals as goal

pub returns-then-r-lt10 : goal.returns-then-r-lt10
returns-then-r-lt10 c =
    then_byte _ _ _ (one_put c.args.r _ c.if-r-lt10.true c.put-to.ensures) c.put.ensures

pub returns : goal.returns
returns c = then_byte _ _ _ c.decimal-to.ensures c.put-2.ensures
