use Prim.Native.Nat.{ℕ, ◌≤◌}
use native.Mathlib.Omega.{arith}
use mathlib.Core.Path.{◌≡◌, ap, sym, ◌∙◌}
use mathlib.Core.Bool.{true}
use lib.ListN.{length, take, drop}
use Rattle.std.proofs.lemmas.List.{take_all}
use lib.Seq.{length-take-le}
use Rattle.limits.specs.Limits.{max_pending}
use Rattle.list.specs.Items.{all_zero}
use Rattle.pending.specs.Slots.{all_from}
use Rattle.line.specs.Sound.{maker_at}
use Rattle.line.proofs.Makers.{makers_many, makers_parted}
use Rattle.line.proofs.soundness.makers_sound.Goals as goal

pub returns-then-count-gt-PENDING : goal.returns-then-count-gt-PENDING
returns-then-count-gt-PENDING c =
    let a = c.args in
    makers_many a.n a.line a.words.now a.count c.requires (omega (arith, c.if-count-gt-PENDING.true))

pub slice_bounds-zero_from-end : goal.slice_bounds-zero_from-end
slice_bounds-zero_from-end c = omega (arith, c.requires, length-take-le max_pending c.args.words.now (omega (arith, c.requires)))

pub returns-then-count-eq0 : goal.returns-then-count-eq0
unfolding all_from
returns-then-count-eq0 c =
    let a = c.args in
    let none : a.count ≡ 0 = c.if-count-eq0.true in
    makers_parted a.n a.line a.words.now a.count c.requires true c.zero_from.result (omega (arith, none))
    (ap (all_from (maker_at a.n a.line (take a.count a.words.now)) 0) (sym none))
    (c.zero_from.ensures ∙ ap all_zero (take_all max_pending a.words.now (omega (arith, c.requires)))
    ∙ ap (λ (n : ℕ). all_zero (drop n a.words.now)) (sym none))

pub returns : goal.returns
returns c =
    let a = c.args in
    let few : a.count ≤ max_pending = omega (arith, c.if-count-gt-PENDING.false) in
    let cut : length (take a.count a.words.now) ≡ a.count = length-take-le a.count a.words.now (omega (arith, few, c.requires)) in
    makers_parted a.n a.line a.words.now a.count c.requires c.makers_right.result c.zero_from-2.result few
    (c.makers_right.ensures ∙ ap (λ (k : ℕ). all_from (maker_at a.n a.line (take a.count a.words.now)) 0 k) cut) c.zero_from-2.ensures
