-- `pending::is_placed` meets its contract.
use mathlib.Core.Logic.{inl, inr}
use Rattle.ot.specs.Laws.{within}
use Rattle.pending.proofs.is_placed.Goals as goal

pub returns-in-Nothing : goal.returns-in-Nothing
unfolding within
returns-in-Nothing c = simp c.in-Nothing.is

pub returns-in-Delete : goal.returns-in-Delete
unfolding within
returns-in-Delete c = elim c.in-Delete.is [ inl e ↦ rw e | inr e ↦ rw e.1 ]
