-- `pack` meets its contract: nothing is pending, the first message does not fit, or some are written (proofs/Packets.antt).
use native.Mathlib.Omega.{arith}
use Rattle.line.proofs.Packets.{nothing_pending, first_too_long, some_written}
use Rattle.line.proofs.packing.pack.Goals as goal

pub returns-then-v : goal.returns-then-v
returns-then-v c =
    let a = c.args in
    nothing_pending a.line a.direction a.v a.words.now a.origins.now a.offset a.out.now (omega (arith, c.if-v.true))

pub fill-written-requires : goal.fill-written-requires
fill-written-requires c = c.requires

pub returns-then-written-eq0 : goal.returns-then-written-eq0
returns-then-written-eq0 c =
    let a = c.args in
    first_too_long a.line a.direction a.v a.words.now a.origins.now a.offset a.out.now (omega (arith, c.if-v.false)) c.fill-written.result c.fill-written.new.out
    c.fill-written.ensures (omega (arith, c.if-written-eq0.true))

pub returns : goal.returns
returns c =
    let a = c.args in
    some_written a.line a.direction a.v a.words.now a.origins.now a.offset a.out.now (omega (arith, c.if-v.false)) c.fill-written.result c.fill-written.new.out
    c.fill-written.ensures c.if-written-eq0.false
