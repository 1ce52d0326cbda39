-- `client_lists` meets its contract: each turn shows one list more (proofs/Showing.antt).
use mathlib.Core.Path.{sym, ◌∙◌}
use native.Mathlib.Omega.{arith}
use Rattle.sheet_run.proofs.Showing.{lists_next, lists_none}
use Rattle.sheet_run.proofs.client_lists.Goals as goal

pub loop-i-preserved : goal.loop-i-preserved
loop-i-preserved c = (
  c.client_list-to.auto.out ∙ c.loop-i.invariant.0,
  lists_next c.args.clients.now c.requires c.loop-i.i _ c.loop-i-test.true _ _ _ c.client_list-to.ensures c.loop-i.invariant.1,
)

pub returns : goal.returns
returns c = sym (lists_none c.args.clients.now c.loop-i.i _ (omega arith)) ∙ c.loop-i.invariant.1
