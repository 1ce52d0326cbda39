-- `ot::transform` meets its contract: the move is found first, and the form is the one that it leads to (proofs/Moves.antt).
use mathlib.Core.Path.{refl}
use Rattle.ot.specs.Form.{moved, how}
use Rattle.ot.proofs.Moves.{delete_after_lem, insert_after}
use Rattle.ot.proofs.transform.Goals as goal

pub delete_after-requires : goal.delete_after-requires
delete_after-requires c = rw c.in-Delete.is at c.requires

pub shift-requires : goal.shift-requires
shift-requires c = rw c.in-Insert.is at c.requires

pub returns-in-Nothing : goal.returns-in-Nothing
unfolding moved how
returns-in-Nothing c = simp c.in-Nothing.is

pub returns-in-Delete : goal.returns-in-Delete
returns-in-Delete c = rw (c.in-Delete.is, c.delete_after.ensures, c.delete_moves-how.ensures, ← delete_after_lem _ _) refl

pub returns-in-Insert : goal.returns-in-Insert
returns-in-Insert c = rw (c.in-Insert.is, c.shift.ensures, c.insert_moves-how.ensures, ← insert_after _ _ _) refl
