-- `take_arrival` meets its contract: refused by question 4, by the decision or for the inverse, or accepted and applied (proofs/Takes.antt).
use native.Mathlib.Omega.{arith}
use mathlib.Core.Bool.{not}
use mathlib.Core.List.{List}
use mathlib.Core.Path.{refl, ap, sym, ◌∙◌, subst}
use Prim.Native.Nat.{ℕ}
use borrow.Author.Rules.{rules}
use Rattle.std.specs.Prelude.{Ok, Err}
use Rattle.ot.specs.declared.Form.{Form}
use Rattle.ot.specs.Edit.{edit}
use Rattle.model.specs.Inverse.{inverse_stands}
use Rattle.line.specs.Line.{Kept}
use Rattle.line.specs.Taking.{Decided}
use Rattle.client.specs.View.{slots_in}
use Rattle.client.proofs.Written.{facts}
use Rattle.client.proofs.Takes.{Accepted, not_down, refuses, back_ready, back_gone, accepts}
use Rattle.client.proofs.Client.take_arrival.Goals as goal
use Rattle.client.proofs.Client.take_arrival.Goals.{In_ok-d}

-- the decision is about the words of its line
decided : (c : In_ok-d) → let e = c.args.self.now in Decided e.counts.own (slots_in e.words) e.counts.len e.counts.own.inserts c.args.a (Ok c.in_ok-d.d) c.decide.new.later
decided c =
    let e = c.args.self.now in
    subst (λ (l : List ℕ). Decided e.counts.own l e.counts.len e.counts.own.inserts c.args.a (Ok c.in_ok-d.d) c.decide.new.later) c.slots.ensures c.in_ok-d.ensures

accepted : (c : In_ok-d) → Accepted c.args.self.now c.args.a c.in_ok-d.d c.decide.new.later
accepted c =
    accepts c.args.self.now c.requires.1 c.args.a c.comes_down.result c.comes_down.ensures c.if-not-comes_down.false c.decide.new.later c.in_ok-d.d
    (decided c) (search rules)

pub returns-then-not-comes_down : goal.returns-then-not-comes_down
returns-then-not-comes_down c =
    not_down c.args.self.now c.requires.1 c.args.a c.comes_down.result c.comes_down.ensures c.if-not-comes_down.true

pub decide-requires : goal.decide-requires
decide-requires c =
    let e = c.args.self.now in (
      (c.requires.0, omega (arith, (facts e c.requires.1).taken)),
      (subst (λ (l : List ℕ). Kept e.counts.own l) (sym c.slots.ensures) c.requires.1.kept, refl),
    )

pub returns-in_err-d : goal.returns-in_err-d
returns-in_err-d c =
    let e = c.args.self.now in
    let r = c.in_err-d.field-0.0 in
    refuses e c.requires.1 c.args.a c.comes_down.result c.comes_down.ensures c.if-not-comes_down.false c.decide.new.later r
    (subst (λ (l : List ℕ). Decided e.counts.own l e.counts.len e.counts.own.inserts c.args.a (Err r) c.decide.new.later) c.slots.ensures c.in_err-d.ensures)
    c.from_residual.result c.from_residual.ensures.1

pub past-inverse-requires : goal.past-inverse-requires
past-inverse-requires c =
    back_ready c.args.self.now c.requires.1 c.args.a c.comes_down.result c.comes_down.ensures c.if-not-comes_down.false c.decide.new.later c.in_ok-d.d
    (decided (goal.at.past-inverse-requires c).In_ok-d)

pub returns-then-not-stands : goal.returns-then-not-stands
returns-then-not-stands c =
    back_gone c.args.self.now c.requires.1 c.args.a c.comes_down.result c.comes_down.ensures c.if-not-comes_down.false c.decide.new.later c.in_ok-d.d
    (decided (goal.at.returns-then-not-stands c).In_ok-d) c.past-inverse.result c.past-inverse.ensures c.stands.result
    (c.stands.ensures ∙ ap (λ (g : Form). inverse_stands (edit g 0)) c.form_at.ensures) (ap not c.if-not-stands.true)

pub total_after-total-requires : goal.total_after-total-requires
total_after-total-requires c = (accepted (goal.at.total_after-total-requires c).In_ok-d).summed

pub accept-requires : goal.accept-requires
accept-requires c =
    let w = accepted (goal.at.accept-requires c).In_ok-d in
    ((w.seen, w.places), c.requires.1.kept)

pub apply-self-requires : goal.apply-self-requires
apply-self-requires c = (accepted (goal.at.apply-self-requires c).In_ok-d).room

pub returns : goal.returns
returns c =
    (accepted (goal.at.returns c).In_ok-d).done c.apply-self.result c.total_after-total.result c.past-inverse.result c.accept.new.words
    c.apply-self.new.words c.accept.ensures c.total_after-total.ensures c.past-inverse.ensures c.stands.result
    (c.stands.ensures ∙ ap (λ (g : Form). inverse_stands (edit g 0)) c.form_at.ensures) (ap not c.if-not-stands.false) c.apply-self.ensures
