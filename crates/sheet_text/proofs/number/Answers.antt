use mathlib.Core.Path.{sym, ap, ◌∙◌}
use native.Mathlib.Omega.{arith}
use Prim.Native.Nat.{◌+◌}
use lib.ListN.{drop}
use Rattle.sheet_print.specs.Decimal.{number_from}
use Rattle.sheet_print.proofs.Numbers.{number_none, number_some, number_on, number_end}
use Rattle.sheet_text.proofs.Orders.{number_stops}
use Rattle.sheet_text.proofs.number.Goals as goal

pub returns-then-w-eq0 : goal.returns-then-w-eq0
returns-then-w-eq0 c = λ small. let e = number_none _ c.if-w-eq0.true in omega arith

pub returns-in_err-n : goal.returns-in_err-n
returns-in_err-n c =
    rw c.from_residual.ensures (number_stops c.args.w.now c.loop-b.n c.loop-b.b-index c.if-w-eq0.false c.loop-b-test.true c.loop-b.invariant.1 c.in_err-n.ensures)

pub loop-b-preserved : goal.loop-b-preserved
loop-b-preserved c = (omega arith, ap (λ n. number_from n (drop (c.loop-b.b-index + 1) c.args.w.now)) c.in_ok-n.ensures.1 ∙ number_on _ _ _ c.loop-b-test.true ∙ c.loop-b.invariant.1)

pub returns : goal.returns
returns c = let e = sym (number_end _ c.loop-b.n _ c.loop-b-test.false) ∙ c.loop-b.invariant.1 ∙ sym (number_some _ c.if-w-eq0.false) in (omega arith, e)
