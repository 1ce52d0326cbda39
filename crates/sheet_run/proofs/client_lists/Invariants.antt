-- The lists of the clients from place i on complete those of all.
use mathlib.Core.Path.{◌≡◌}
use lib.ListN.{length}
use Rattle.sheet_print.specs.Sink.{sink, puts}
use Rattle.sheet_run.proofs.Showing.{lists_from}
use Rattle.sheet_run.proofs.client_lists.Given as goal

abbrev pub invariant-loop-i : goal.invariant-loop-i
invariant-loop-i l =
    (length l.out ≡ length l.initial.out) × (puts (lists_from l.clients l.i) (sink l.out l.to) ≡ puts (lists_from l.clients 0) (sink l.initial.out l.at))
