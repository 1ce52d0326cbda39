-- The invariants and measures of the loops.
use Prim.Native.Nat.{◌-◌}
use mathlib.Core.Path.{◌≡◌}
use lib.ListN.{length, drop}
use Rattle.sheet_print.specs.Sink.{sink, puts}
use Rattle.sheet_text.specs.Text.{lines_of}
use Rattle.sheet_ends.specs.Ends.{view_ends}
use Rattle.sheet_run.specs.Output.{ran}
use Rattle.sheet_run.proofs.Turns.{Running}
use Rattle.sheet_run.proofs.commands.Given as goal

abbrev pub invariant-loop-i : goal.invariant-loop-i
invariant-loop-i l =
    (length l.out ≡ length l.initial.out)
    × Running l.input l.out l.i l.at l.ends (puts (ran (view_ends l.initial.ends) (lines_of (drop l.initial.i l.input))) (sink l.initial.out l.initial.at))

abbrev pub decreases-loop-i : goal.decreases-loop-i
decreases-loop-i l = length l.input - l.i
