-- What the loop has found, with what it has still to look at, is the answer.
use Rattle.std.proofs.Common.{◌≡◌, ◌-◌, ◌≤◌, ◌&&◌, length}
use Rattle.pending.specs.Slots.{all_from}
use Rattle.line.specs.Slots.{allowed, right_at}
use Rattle.line.proofs.soundness.slots_right.Given as goal

abbrev pub invariant-loop-place : goal.invariant-loop-place
invariant-loop-place l =
    let test = right_at (allowed l.good.low l.good.high l.good.other) l.places l.items in
    (length l.yielded ≤ length l.places)
    × ((l.right && all_from test (length l.yielded) (length l.places - length l.yielded)) ≡ all_from test 0 (length l.places))
