use Rattle.sheet_print.proofs.unknown.Goals as goal

pub returns : goal.returns
returns c = c.puts.ensures
