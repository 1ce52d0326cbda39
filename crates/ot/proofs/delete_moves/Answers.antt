-- `ot::delete_moves` meets its contract: each return is a clause of the table, by the tests that led there.
use Prim.Native.Nat.{◌≤◌, ◌<◌}
use borrow.Author.Tests.{lt-ltb, le-ltb}
use native.Mathlib.Omega.{arith}
use mathlib.Core.Path.{◌≡◌, ap, sym, ◌∙◌}
use Rattle.ot.specs.Form.{position_of, how}
use Rattle.ot.proofs.delete_moves.Goals as goal

pub returns-in-Delete : goal.returns-in-Delete
unfolding how
returns-in-Delete c =
    let p = c.args.p in
    let q = c.in-Delete.q in
    let same : p ≤ q = omega (arith, c.if-p-q.true) in
    let also : q ≤ p = omega (arith, c.if-p-q.true) in
    simp (c.in-Delete.is, le-ltb p q also, le-ltb q p same)

pub returns-in-Delete-2 : goal.returns-in-Delete-2
unfolding how
returns-in-Delete-2 c =
    let behind : c.in-Delete-2.q ≤ c.args.p = omega (arith, c.if-p-q-2.true) in
    simp (c.in-Delete-2.is, le-ltb _ _ behind, lt-ltb _ _ c.if-p-q-2.true)

pub returns-in-Insert : goal.returns-in-Insert
unfolding how
returns-in-Insert c = simp (c.in-Insert.is, le-ltb _ _ c.if-p-q-3.true)

pub returns-in_default : goal.returns-in_default
unfolding how
returns-in_default c =
    let same : c.in-Delete.q ≡ c.in-Delete-2.q = ap position_of (sym c.in-Delete.is ∙ c.in-Delete-2.is) in
    let before : c.args.p < c.in-Delete-2.q = omega (arith, c.if-p-q-2.false, c.if-p-q.false) in
    simp (c.in-Delete-2.is, lt-ltb _ _ before)

pub returns-in_default-2 : goal.returns-in_default-2
unfolding how
returns-in_default-2 c = simp (c.in-Insert.is, lt-ltb _ _ c.if-p-q-3.false)

pub returns-in_default-3 : goal.returns-in_default-3
unfolding how
returns-in_default-3 c = simp c.in_default.is
