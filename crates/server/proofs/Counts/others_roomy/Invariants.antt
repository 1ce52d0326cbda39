-- The invariants and measures of the loops.
use Prim.Native.Nat.{◌-◌, ◌≤◌}
use mathlib.Core.Path.{◌≡◌}
use mathlib.Core.Bool.{◌&&◌}
use Rattle.pending.specs.Slots.{all_from}
use Rattle.server.specs.Decides.{roomy_at}
use Rattle.server.proofs.Counts.others_roomy.Given as goal

-- what the loop has found, with the lines that it has still to look at, is the answer
abbrev pub invariant-loop-i : goal.invariant-loop-i
invariant-loop-i l =
    ((l.i ≤ l.n) × (l.n ≡ l.self.n)) × ((l.roomy && all_from (roomy_at l.self l.at) l.i (l.self.n - l.i)) ≡ all_from (roomy_at l.self l.at) 0 l.self.n)

abbrev pub decreases-loop-i : goal.decreases-loop-i
decreases-loop-i l = l.n - l.i
