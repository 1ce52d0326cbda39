use Rattle.sheet_print.specs.Decimal.{decimal}
use Rattle.sheet_print.proofs.Places.{short_front}
use Rattle.sheet_print.proofs.put_front.Goals as goal

pub returns-then-n-lt1000 : goal.returns-then-n-lt1000
returns-then-n-lt1000 c = short_front c.args.n _ c.if-n-lt1000.true

pub returns : goal.returns
unfolding decimal
returns c = c.put_digits.ensures
