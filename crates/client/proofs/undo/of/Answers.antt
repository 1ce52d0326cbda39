-- `undo::of` meets its contract: a delete loses the item at its position (proofs/Inverses.antt).
use native.Mathlib.Omega.{arith}
use Rattle.list.proofs.Seconds.{delete_fits}
use Rattle.client.proofs.Inverses.{made_nothing, made_delete, made_insert}
use Rattle.client.proofs.undo.of.Goals as goal

pub overflow_sub-result : goal.overflow_sub-result
overflow_sub-result c =
    omega (arith, delete_fits 0 c.in-Delete.is c.requires)

pub bounds-list-p : goal.bounds-list-p
bounds-list-p c =
    omega (arith, delete_fits 0 c.in-Delete.is c.requires)

pub returns-in-Nothing : goal.returns-in-Nothing
returns-in-Nothing c =
    let a = c.args in
    made_nothing a.rank a.list.now a.f c.in-Nothing.is

pub returns-in-Delete : goal.returns-in-Delete
returns-in-Delete c =
    let a = c.args in
    made_delete a.rank a.list.now a.f c.in-Delete.p c.place_of.result c.in-Delete.is c.place_of.ensures

pub returns-in-Insert : goal.returns-in-Insert
returns-in-Insert c =
    let a = c.args in
    made_insert a.rank a.list.now a.f c.in-Insert.p c.in-Insert.field-1 c.place_of-in-Insert.result c.in-Insert.is c.place_of-in-Insert.ensures
