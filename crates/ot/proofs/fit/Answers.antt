-- `ot::fit` meets its contract.
use Rattle.ot.specs.Edit.{fits}
use Rattle.ot.proofs.fit.Goals as goal

pub returns-in-Nothing : goal.returns-in-Nothing
unfolding fits
returns-in-Nothing c = λ x. simp c.in-Nothing.is

pub returns-in-Delete : goal.returns-in-Delete
unfolding fits
returns-in-Delete c = λ x. simp c.in-Delete.is

pub returns-in-Insert : goal.returns-in-Insert
unfolding fits
returns-in-Insert c = λ x. simp c.in-Insert.is
