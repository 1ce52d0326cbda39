use mathlib.Core.Path.{◌∙◌}
use lib.ListN.{length}
use native.Mathlib.Omega.{arith}
use Rattle.line.specs.Sound.{maker_at}
use Rattle.line.proofs.All.{all_turn, all_end}
use Rattle.line.proofs.soundness.makers_right.Goals as goal

pub loop-word-preserved : goal.loop-word-preserved
loop-word-preserved c =
    let a = c.args in
    all_turn (maker_at a.n a.line a.words.now) c.loop-word.word-index (length a.words.now) c.loop-word.right c.is_maker-right.result (omega arith)
    c.is_maker-right.ensures ∙ c.loop-word.invariant

pub returns : goal.returns
returns c =
    let a = c.args in
    all_end (maker_at a.n a.line a.words.now) c.loop-word.word-index (length a.words.now) c.loop-word.right (omega arith) ∙ c.loop-word.invariant
