use Rattle.sheet_print.proofs.Places.{power_at}
use Rattle.sheet_print.proofs.power.Goals as goal

pub returns : goal.returns
returns c = power_at c.args.k c.requires
