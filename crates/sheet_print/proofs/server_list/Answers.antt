use Rattle.sheet_print.proofs.Sinks.{then}
use Rattle.sheet_print.proofs.server_list.Goals as goal

pub returns : goal.returns
returns c = then _ _ _ c.puts-to.ensures c.items.ensures
