-- What the loop has found, with what it has still to look at, is the answer.
use Rattle.std.proofs.Common.{◌≡◌, ◌-◌, ◌&&◌, length}
use Rattle.pending.specs.Slots.{all_from}
use Rattle.line.specs.Sound.{maker_at}
use Rattle.line.proofs.soundness.makers_right.Given as goal

abbrev pub invariant-loop-word : goal.invariant-loop-word
invariant-loop-word l =
    let test = maker_at l.n l.line l.words in
    (l.right && all_from test l.word-index (length l.words - l.word-index)) ≡ all_from test 0 (length l.words)
