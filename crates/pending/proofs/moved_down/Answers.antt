-- `pending::moved_down` meets its contract: the places behind the words stay zero.
use Prim.Native.Nat.{◌+◌, ◌-◌}
use native.Mathlib.Omega.{arith}
use mathlib.Core.Path.{◌≡◌, refl, ap, ◌∙◌}
use lib.ListN.{take, drop, length-take, length-drop}
use Rattle.limits.specs.Limits.{max_pending}
use Rattle.list.proofs.Pad.{pad_front}
use Rattle.pending.proofs.moved_down.Goals as goal

pub returns : goal.returns
returns c =
    let words = c.args.words.now in
    let from = c.args.from in
    let count = c.args.count in
    let same : from + count - from ≡ count = omega arith in
    pad_front max_pending count 0 (drop from words) _ c.copy_from_slice.new.self
    (omega (arith, length-take count (drop from words), length-drop from words, c.requires))
    (c.copy_from_slice.ensures.after ∙ ap (λ k. take k (drop from words)) same) refl
