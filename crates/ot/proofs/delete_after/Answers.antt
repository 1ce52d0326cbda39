-- `ot::delete_after` meets its contract.
use mathlib.Core.Path.{ap, ◌∙◌}
use Rattle.ot.specs.declared.Form.TheVariants.{Delete}
use Rattle.ot.proofs.Moves.{delete_shifted}
use Rattle.ot.proofs.delete_after.Goals as goal

pub returns-in_default : goal.returns-in_default
returns-in_default c = ap Delete c.shift.ensures ∙ delete_shifted c.args.p c.args.how c.in_default.not-Gone
