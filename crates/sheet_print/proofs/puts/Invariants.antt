-- The invariants of the loops.
use mathlib.Core.Path.{◌≡◌}
use lib.ListN.{drop}
use Rattle.sheet_print.specs.Sink.{sink, puts}
use Rattle.sheet_print.proofs.puts.Given as goal

abbrev pub invariant-loop-b : goal.invariant-loop-b
invariant-loop-b l = puts (drop l.b-index l.s) (sink l.out l.to) ≡ puts l.s (sink l.initial.out l.at)
