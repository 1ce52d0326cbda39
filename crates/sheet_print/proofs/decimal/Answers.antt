use mathlib.Core.Path.{◌∙◌}
use Rattle.sheet_print.proofs.Places.{last_put}
use Rattle.sheet_print.proofs.decimal.Goals as goal

pub returns : goal.returns
returns c = last_put _ _ _ _ _ c.put_digits-last.ensures.1 c.put.ensures (c.put_digits-last.ensures.0 ∙ c.put_front-front.ensures.0)
