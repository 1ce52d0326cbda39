use native.Mathlib.Omega.{arith}
use mathlib.Core.Path.{refl}
use Rattle.c_layout.proofs.Called.{too_short}
use Rattle.c_server.specs.Layout.{size}
use Rattle.c_server.specs.Calls.{opened_in}
use Rattle.c_server.proofs.Calls.{opened_cut, opened_many, opened_refused, opened_done}
use Rattle.c_server.proofs.open.Goals as goal

pub returns-then-end-lt-SIZE : goal.returns-then-end-lt-SIZE
unfolding opened_in
returns-then-end-lt-SIZE c = too_short size c.args.end.now c.args.end.now _ 18 (omega (arith, c.if-end-lt-SIZE.true)) refl

pub returns-then-items-ne0 : goal.returns-then-items-ne0
returns-then-items-ne0 c =
    let a = c.args in
    opened_cut a.end.now a.n a.ranks.now a.items.now (omega (arith, c.if-end-lt-SIZE.false)) 1 c.if-items-ne0.true refl

pub returns-then-count-gt-INITIAL : goal.returns-then-count-gt-INITIAL
returns-then-count-gt-INITIAL c =
    let a = c.args in
    opened_many a.end.now a.n a.ranks.now a.items.now (omega (arith, c.if-end-lt-SIZE.false)) 1 (omega (arith, c.if-items-ne0.false))
    (omega (arith, c.if-count-gt-INITIAL.true)) refl

pub returns-in_err-open : goal.returns-in_err-open
returns-in_err-open c =
    let a = c.args in
    opened_refused a.end.now a.n a.ranks.now a.items.now (omega (arith, c.if-end-lt-SIZE.false)) (omega (arith, c.if-items-ne0.false))
    _ c.decode_items.ensures c.in_err-open.field-0.0 c.open.new.self c.in_err-open.ensures c.from_residual.result c.from_residual.ensures.1

pub returns : goal.returns
returns c =
    let a = c.args in
    opened_done a.end.now a.n a.ranks.now a.items.now (omega (arith, c.if-end-lt-SIZE.false)) (omega (arith, c.if-items-ne0.false))
    _ c.decode_items.ensures c.open.new.self c.write.new.end c.in_ok-open.ensures c.write.ensures
