-- `pending::form_at` meets its contract.
use Rattle.pending.specs.Slots.{form_at}
use borrow.Author.Tests.{eq-eqb, ne_eqb}
use Rattle.pending.proofs.form_at.Goals as goal

pub returns-in-0-default : goal.returns-in-0-default
unfolding form_at
returns-in-0-default c = rw (eq-eqb _ _ c.in-0-default.is-0)

pub returns-in_default-eq0 : goal.returns-in_default-eq0
unfolding form_at
returns-in_default-eq0 c = rw (ne_eqb _ _ c.in_default-eq0.is-0.1, eq-eqb _ _ c.in_default-eq0.is-1)

pub returns-in_default : goal.returns-in_default
unfolding form_at
returns-in_default c = rw (ne_eqb _ _ c.in_default.is-0.1, ne_eqb _ _ c.in_default.is-1.1)
