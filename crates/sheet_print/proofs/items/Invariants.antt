-- The invariants of the loops.
use mathlib.Core.Path.{◌≡◌}
use lib.ListN.{drop}
use Rattle.sheet_print.specs.Sink.{sink, puts}
use Rattle.sheet_print.specs.Decimal.{listed}
use Rattle.sheet_print.proofs.items.Given as goal

abbrev pub invariant-loop-x : goal.invariant-loop-x
invariant-loop-x l = puts (listed (drop l.x-index l.list)) (sink l.out l.to) ≡ puts (listed l.list) (sink l.initial.out l.at)
