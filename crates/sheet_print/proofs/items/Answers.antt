use Rattle.sheet_print.proofs.Numbers.{listed_turn, listed_end}
use Rattle.sheet_print.proofs.items.Goals as goal

pub loop-x-preserved : goal.loop-x-preserved
loop-x-preserved c = (listed_turn _ c.loop-x.x-index _ c.loop-x-test.true c.item-to.ensures c.loop-x.invariant)

pub returns : goal.returns
returns c = listed_end _ c.loop-x.x-index _ c.loop-x-test.false c.put.ensures c.loop-x.invariant
