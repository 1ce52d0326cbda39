use mathlib.Core.Path.{ap, ◌∙◌}
use Rattle.sheet_print.specs.Sink.{puts}
use Rattle.sheet_print.specs.Decimal.{decimal}
use Rattle.sheet_print.proofs.item.Goals as goal

pub returns : goal.returns
unfolding puts
returns c =
    c.decimal.ensures ∙ ap (puts (decimal c.args.x)) c.put-to.ensures
