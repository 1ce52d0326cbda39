use Prim.Native.Nat.{ℕ}
use native.Mathlib.Omega.{arith}
use mathlib.Core.Path.{◌≡◌, ap, ◌∙◌}
use lib.ListN.{length, take}
use lib.Seq.{length-take-le}
use Rattle.pending.specs.Slots.{all_from}
use Rattle.line.specs.Slots.{allowed, right_at}
use Rattle.line.proofs.Tests.{slots_many, slots_parted, eights, eights_hold}
use Rattle.line.proofs.soundness.slots_sound.Goals as goal

pub returns-then-count-gt-PENDING : goal.returns-then-count-gt-PENDING
returns-then-count-gt-PENDING c =
    let a = c.args in
    slots_many (allowed a.good.low a.good.high a.good.other) a.places.now a.items.now a.count (omega (arith, c.if-count-gt-PENDING.true))

pub returns : goal.returns
returns c =
    let a = c.args in
    let good = allowed a.good.low a.good.high a.good.other in
    let e = eights_hold a.count (omega (arith, c.if-count-gt-PENDING.false)) in
    let cut : length (take (eights a.count) a.places.now) ≡ eights a.count = length-take-le (eights a.count) a.places.now (omega (arith, e, c.requires)) in
    slots_parted good a.places.now a.items.now a.count (eights a.count) c.slots_right.result c.zero_from.result c.zero_from-2.result
    e.0 e.1 c.requires.0 c.requires.1
    (c.slots_right.ensures
    ∙ ap (λ (k : ℕ). all_from (right_at good (take (eights a.count) a.places.now) (take (eights a.count) a.items.now)) 0 k) cut)
    c.zero_from.ensures c.zero_from-2.ensures
