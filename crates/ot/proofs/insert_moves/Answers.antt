-- `ot::insert_moves` meets its contract: each return is a clause of the table, by the tests that led there.
use borrow.Author.Tests.{lt-leb, le-leb}
use Rattle.ot.specs.Form.{how}
use Rattle.ot.proofs.Moves.{insert_insert}
use Rattle.ot.proofs.insert_moves.Goals as goal

pub returns-in-Delete : goal.returns-in-Delete
unfolding how
returns-in-Delete c = simp (c.in-Delete.is, lt-leb _ _ c.if-q-p.true)

pub returns-in-Insert : goal.returns-in-Insert
returns-in-Insert c = simp (c.in-Insert.is, insert_insert, c.if-q-p-2.true)

pub returns-in_default : goal.returns-in_default
unfolding how
returns-in_default c = simp (c.in-Delete.is, le-leb _ _ c.if-q-p.false)

pub returns-in_default-2 : goal.returns-in_default-2
returns-in_default-2 c = simp (c.in-Insert.is, insert_insert, c.if-q-p-2.false)

pub returns-in_default-3 : goal.returns-in_default-3
unfolding how
returns-in_default-3 c = simp c.in_default.is
