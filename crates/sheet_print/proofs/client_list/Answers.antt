use Rattle.sheet_print.proofs.Sinks.{then}
use Rattle.sheet_print.proofs.client_list.Goals as goal

pub returns : goal.returns
returns c =
    then _ _ _ (then _ _ _ c.puts-to.ensures c.decimal-on.ensures) c.items.ensures
