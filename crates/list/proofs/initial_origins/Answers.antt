-- `list::initial_origins` meets its contract: each turn is a law of proofs/Places.antt.
use native.Mathlib.Omega.{arith}
use lib.ListN.{length, take, length-replicate}
use lib.Seq.{length-take-le}
use mathlib.Core.Path.{◌≡◌, ap, ◌∙◌}
use mathlib.Core.List.{List}
use Prim.Native.Nat.{ℕ}
use Rattle.list.specs.Items.{capacity}
use Rattle.list.proofs.Places.{numbering_turn, numbering_end}
use Rattle.list.proofs.initial_origins.Goals as goal
use Rattle.list.proofs.initial_origins.Goals.{Start}

size : (c : Start) → length (take c.args.len c.args.list.now) ≡ c.args.len
size c =
    length-take-le c.args.len c.args.list.now (omega (arith, c.requires.0, ap (λ (l : List ℕ). length l) c.requires.1 ∙ length-replicate {A = ℕ} capacity 0))

pub loop-i-preserved : goal.loop-i-preserved
loop-i-preserved c =
    numbering_turn c.args.len _ (size (goal.at.loop-i-preserved c).Start) c.loop-i.i c.loop-i.word-items (omega (arith, c.loop-i-test.true, size (goal.at.loop-i-preserved c).Start)) c.loop-i.invariant

pub returns : goal.returns
returns c = λ xs e.
    numbering_end c.args.len _ (size (goal.at.returns c).Start) capacity c.loop-i.i c.loop-i.word-items c.args.list.now xs (omega (arith, c.loop-i-test.false, size (goal.at.returns c).Start)) c.loop-i.invariant c.requires.1 e
