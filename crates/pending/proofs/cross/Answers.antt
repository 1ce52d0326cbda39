-- `pending::cross` meets its contract: each turn is a law of proofs/Crossing.antt.
use Prim.Native.Nat.{◌+◌, ◌-◌, ◌<◌}
use native.Mathlib.Omega.{arith}
use mathlib.Core.Path.{◌≡◌, refl, ap, ◌∙◌}
use lib.ListN.{drop, length-take}
use Rattle.ot.specs.Form.{position_of}
use Rattle.pending.specs.Slots.{form_at, form_in}
use Rattle.pending.specs.Crossing.{Ready}
use Rattle.pending.proofs.Crossing.{crossing_start, slot_read, pending_position, current_position, crossing_turn, crossing_answer, crossing_places}
use Rattle.pending.proofs.cross.Goals as goal
use Rattle.pending.proofs.cross.Goals.{At-loop-i, In-loop-i, After-form_at-p}

ready : (c : At-loop-i) → Ready c.args.from c.args.count c.args.words.now
ready c = c.requires.1.0

inside : (c : In-loop-i) → c.loop-i.i < c.args.count
inside c =
    let words = c.args.words.now in
    let from = c.args.from in
    omega (arith, c.loop-i-test.true, length-take (from + c.args.count - from) (drop from words))

-- the pending form that is read
read : (c : After-form_at-p) → c.loop-i.i < c.args.count → c.form_at-p.result ≡ form_in c.args.words.now (c.args.from + c.loop-i.i)
read c h = c.form_at-p.ensures ∙ ap form_at (slot_read c.args.words.now c.args.from c.args.count c.loop-i.i h)

pub loop-i-init : goal.loop-i-init
loop-i-init c =
    (crossing_start c.args.words.now c.args.from c.args.count c.args.f c.args.later.now c.requires.1.1, refl)

pub transform-form-requires : goal.transform-form-requires
transform-form-requires c =
    omega (arith, ap position_of (read (goal.at.transform-form-requires c).After-form_at-p (inside (goal.at.transform-form-requires c).In-loop-i)), pending_position (ready (goal.at.transform-form-requires c).At-loop-i) c.loop-i.invariant.0 (inside (goal.at.transform-form-requires c).In-loop-i))

pub transform-current-requires : goal.transform-current-requires
transform-current-requires c =
    omega (arith, c.requires.0, current_position (ready (goal.at.transform-current-requires c).At-loop-i) c.loop-i.invariant.0)

pub loop-i-preserved : goal.loop-i-preserved
loop-i-preserved c = (
  crossing_turn (ready (goal.at.loop-i-preserved c).At-loop-i) c.loop-i.invariant.0
      c.form_at-p.result c.transform-form.result.form c.transform-current.result.form c.place_of.result c.is_placed-placed.result (inside (goal.at.loop-i-preserved c).In-loop-i)
      (read (goal.at.loop-i-preserved c).After-form_at-p (inside (goal.at.loop-i-preserved c).In-loop-i)) (ap (λ m. m.form) c.transform-form.ensures) c.place_of.ensures c.is_placed-placed.ensures (ap (λ m. m.form) c.transform-current.ensures),
  omega (arith, c.loop-i.invariant.1),
)

pub returns-clause-answer : goal.returns-clause-answer
returns-clause-answer c = crossing_answer (ready (goal.at.returns-clause-answer c).At-loop-i) c.loop-i.invariant.0 c.loop-i.passed c.loop-i.invariant.1 (omega (arith, c.loop-i-test.false))

pub returns-clause-places : goal.returns-clause-places
returns-clause-places c = crossing_places (ready (goal.at.returns-clause-places c).At-loop-i) c.loop-i.invariant.0 (omega (arith, c.loop-i-test.false))
