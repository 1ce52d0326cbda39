use Prim.Native.Nat.{ℕ, ◌+◌, ◌-◌, min}
use native.Mathlib.Omega.{arith}
use mathlib.Core.Bool.{◌&&◌}
use mathlib.Core.List.{[], ◌∷◌, ◌++◌}
use mathlib.Core.Path.{◌≡◌, ap, ap₂, ◌∙◌}
use lib.ListN.{length, length-append}
use borrow.Author.Rules.{rules}
use Rattle.std.proofs.lemmas.Slice.Zip.{zip_turn, zip_end}
use Rattle.pending.specs.Slots.{all_from}
use Rattle.line.specs.Slots.{allowed, right_slot, right_at}
use Rattle.line.proofs.All.{all_turn, all_end}
use Rattle.line.proofs.soundness.slots_right.Goals as goal

pub loop-place-preserved : goal.loop-place-preserved
loop-place-preserved c =
    let a = c.args in
    let good = allowed a.good.low a.good.high a.good.other in
    let test = right_at good a.places.now a.items.now in
    let seen = c.loop-place.yielded in
    let t =
    zip_turn a.places.now a.items.now seen c.into_iter-place-iterator.result c.loop-place.place-iterator c.next.new.self c.next.result
    (search rules) (search rules) c.loop-place.yielded_by (c.in-Some.place, c.in-Some.item) c.in-Some.is c.next.ensures.steps in
    let more : length (seen ++ (c.in-Some.place, c.in-Some.item) ∷ []) ≡ length seen + 1 = length-append seen ((c.in-Some.place, c.in-Some.item) ∷ []) in (
      omega (arith, more, t.0),
      ap (λ (k : ℕ). (c.loop-place.right && c.is_right-right.result) && all_from test k (length a.places.now - k)) more
          ∙ all_turn test (length seen) (length a.places.now) c.loop-place.right c.is_right-right.result t.0
          (c.is_right-right.ensures ∙ ap₂ (right_slot good) (t.2 0) (t.3 0))
          ∙ c.loop-place.invariant.1,
    )

pub returns : goal.returns
returns c =
    let a = c.args in
    let all : length c.loop-place.yielded ≡ min (length a.places.now) (length a.items.now) =
    zip_end a.places.now a.items.now c.loop-place.yielded c.into_iter-place-iterator.result c.loop-place.place-iterator c.next.new.self c.next.result
    (search rules) (search rules) c.loop-place.yielded_by c.in-None.is c.next.ensures.steps in
    all_end (right_at (allowed a.good.low a.good.high a.good.other) a.places.now a.items.now) (length c.loop-place.yielded) (length a.places.now)
    c.loop-place.right (omega (arith, all, c.requires))
    ∙ c.loop-place.invariant.1
