use Prim.Native.Nat.{ℕ}
use native.Mathlib.Omega.{arith}
use mathlib.Core.Path.{◌≡◌, refl, ap, sym, ◌∙◌}
use Rattle.std.proofs.lemmas.List.{length-take-le, take_all}
use Rattle.list.specs.Items.{all_zero}
use Rattle.pending.specs.Slots.{size}
use Rattle.line.specs.Sound.{right_priority}
use Rattle.line.specs.Slots.{allowed, sound_slots}
use Rattle.line.proofs.Tests.{slots_none, places_in, items_in}
use Rattle.line.proofs.SoundWords.{sound_answers}
use Rattle.line.proofs.soundness.is_sound.Goals as goal

pub slice_bounds-zero_from-end : goal.slice_bounds-zero_from-end
slice_bounds-zero_from-end c = omega (arith, c.requires, length-take-le size c.args.words.now (omega (arith, c.requires)))

pub returns-then-count-eq0 : goal.returns-then-count-eq0
returns-then-count-eq0 c =
    let a = c.args in
    let right = right_priority a.n a.rank a.own in
    let none : c.pending-count.result ≡ 0 = c.if-count-eq0.true in
    let told =
    sound_answers a.edits right right a.v a.words.now c.pending-count.result c.counts_sound.result c.zero_from.result c.requires (λ r h. refl)
    c.pending-count.ensures c.counts_sound.ensures
    (c.zero_from.ensures ∙ ap all_zero (take_all size a.words.now (omega (arith, c.requires))) ∙ slots_none right a.words.now c.requires
    ∙ ap (λ (k : ℕ). sound_slots right k (places_in a.words.now) (items_in a.words.now)) (sym none))
    in record { answer = told.0; facts = told.1 }

pub returns : goal.returns
returns c =
    let a = c.args in
    let good = c.chosen.result in
    let told =
    sound_answers a.edits (allowed good.low good.high good.other) (right_priority a.n a.rank a.own) a.v a.words.now c.pending-count.result
    c.counts_sound-2.result c.slots_sound.result c.requires c.chosen.ensures c.pending-count.ensures c.counts_sound-2.ensures c.slots_sound.ensures
    in record { answer = told.0; facts = told.1 }
