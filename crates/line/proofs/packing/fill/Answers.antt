-- `fill` meets its contract: each turn of the loop is a law of proofs/Filling.antt.
use native.Mathlib.Omega.{arith}
use mathlib.Core.Path.{◌≡◌}
use Rattle.line.proofs.Filling.{upto_start, upto_turn, upto_stop, upto_room, upto_end}
use Rattle.line.proofs.packing.fill.Goals as goal
use Rattle.line.proofs.packing.fill.Goals.{Else-n-eq0}

-- where the message fits
fits : (c : Else-n-eq0) → c.write_at-n.result ≡ 0 → ⊥
fits c z = c.if-n-eq0.false (omega (arith, z))

pub loop-number-init : goal.loop-number-init
loop-number-init c =
    let a = c.args in
    upto_start a.line a.direction a.v a.words.now a.origins.now a.offset a.out.now

pub overflow_add-number : goal.overflow_add-number
overflow_add-number c = omega (arith, c.loop-number-test.true, c.ranges)

pub message_at-m-requires : goal.message_at-m-requires
message_at-m-requires c = (c.requires, omega (arith, c.loop-number.invariant.from, c.loop-number-test.true))

pub overflow_sub-result : goal.overflow_sub-result
overflow_sub-result c = omega (arith, c.loop-number.invariant.start)

pub returns-then-n-eq0 : goal.returns-then-n-eq0
returns-then-n-eq0 c =
    let m = c.message_at-m in
    let a = c.args in
    upto_stop a.line a.direction a.v a.words.now a.origins.now a.offset a.out.now c.loop-number.invariant c.loop-number-test.true m.result m.ensures
    c.write_at-n.result c.write_at-n.new.out c.write_at-n.ensures (omega (arith, c.if-n-eq0.true))

pub overflow_add-at : goal.overflow_add-at
overflow_add-at c =
    let m = c.message_at-m in
    let a = c.args in
    let room =
    upto_room a.line a.direction a.v a.words.now a.origins.now a.offset a.out.now c.loop-number.invariant c.loop-number-test.true m.result m.ensures
    c.write_at-n.result c.write_at-n.new.out c.write_at-n.ensures (fits c) in
    omega (arith, room, c.well_formed)

pub loop-number-preserved : goal.loop-number-preserved
loop-number-preserved c =
    let m = c.message_at-m in
    let a = c.args in
    upto_turn a.line a.direction a.v a.words.now a.origins.now a.offset a.out.now c.loop-number.invariant c.loop-number-test.true m.result m.ensures
    c.write_at-n.result c.write_at-n.new.out c.write_at-n.ensures (fits c)

pub overflow_sub-result-2 : goal.overflow_sub-result-2
overflow_sub-result-2 c = omega (arith, c.loop-number.invariant.start)

pub returns : goal.returns
returns c =
    let a = c.args in
    upto_end a.line a.direction a.v a.words.now a.origins.now a.offset a.out.now c.loop-number.invariant (omega (arith, c.loop-number-test.false))
