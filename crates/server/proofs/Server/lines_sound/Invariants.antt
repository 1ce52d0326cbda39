-- The invariant of the loop.
use Prim.Native.Nat.{◌-◌, ◌≤◌}
use mathlib.Core.Path.{◌≡◌}
use mathlib.Core.Bool.{◌&&◌}
use Rattle.limits.specs.Limits.{max_lines}
use Rattle.pending.specs.Slots.{all_from}
use Rattle.server.specs.Totals.{line_sound_at}
use Rattle.server.proofs.Server.lines_sound.Given as goal

-- what the loop has found, with the lines that it has still to look at, is the answer
abbrev pub invariant-loop-i : goal.invariant-loop-i
invariant-loop-i l =
    let test = line_sound_at l.self.counts l.taken l.self.words in
    (l.i ≤ max_lines) × ((l.well && all_from test l.i (max_lines - l.i)) ≡ all_from test 0 max_lines)
