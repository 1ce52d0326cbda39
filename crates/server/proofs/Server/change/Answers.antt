-- The steps one after the other, by proofs/Accepts.antt.
use Prim.Native.Nat.{◌-◌, ◌≤◌}
use native.Mathlib.Omega.{arith}
use mathlib.Core.Path.{sym, subst}
use Rattle.limits.specs.Limits.{max_pending}
use Rattle.line.specs.declared.Line.{Line}
use Rattle.line.specs.Line.{Kept}
use Rattle.line.specs.Taking.{Between, accepted}
use Rattle.server.specs.View.{slots_at, makers_at, SlotsWrote, MakersWrote}
use Rattle.server.specs.Decides.{place_of}
use Rattle.server.specs.Taking.{makers_left}
use Rattle.server.proofs.Facts.{sizes, len_few}
use Rattle.server.proofs.Decided.{Accepted}
use Rattle.server.proofs.Accepts.{taken, list_asked, kept_own, written}
use Rattle.server.proofs.Server.change.Goals as goal
use Rattle.server.proofs.Server.change.Goals.{Start}

-- what the decision leaves known at the start
accepted_at : (c : Start) → Accepted c.args.self.now.counts c.args.self.now.words c.args.a c.args.d c.args.later.now
accepted_at c = taken c.args.self.now.counts c.args.self.now.words c.requires.0 c.args.a c.args.d c.args.later.now c.requires.1.0

pub slice_bounds-total_after-end : goal.slice_bounds-total_after-end
slice_bounds-total_after-end c =
    let s = c.args.self.now in
    omega (arith, len_few s.counts s.words c.requires.0, (sizes s.counts s.words c.requires.0).words)

pub total_after-total-requires : goal.total_after-total-requires
total_after-total-requires c =
    list_asked c.args.self.now.counts c.args.self.now.words c.requires.0 c.args.a c.args.d c.args.later.now c.requires.1.0

pub line_at-v-requires : goal.line_at-v-requires
line_at-v-requires c = (accepted_at (goal.at.line_at-v-requires c).Start).below

pub accept_at-requires : goal.accept_at-requires
accept_at-requires c =
    let s = c.args.self.now in
    let t = accepted_at (goal.at.accept_at-requires c).Start in
    let same = c.line_at-v.ensures in
    let new = c.pass_on.new.self in
    let kept = kept_own s.counts s.words c.requires.0 c.args.a c.args.d c.args.later.now c.requires.1.0 new.counts new.words c.pass_on.ensures in (
      t.below,
      (
        (subst (λ (u : Line). Between u c.args.a.seen) (sym same) t.seen, t.places),
        subst (λ (u : Line). Kept u (slots_at (place_of c.args.a) new.words)) (sym same) kept,
      ),
    )

pub drop_makers-requires : goal.drop_makers-requires
drop_makers-requires c =
    let t = accepted_at (goal.at.drop_makers-requires c).Start in
    let same = c.line_at-v.ensures in
    let seen = subst (λ (u : Line). Between u c.args.a.seen) (sym same) t.seen in (
      t.below,
      (
        (omega (arith, seen.0), omega (arith, seen.0, seen.1)),
        subst (λ (u : Line). u.made - u.acked ≤ max_pending) (sym same) (c.requires.0.kept (place_of c.args.a) t.below).few,
      ),
    )

pub bounds-self-at : goal.bounds-self-at
bounds-self-at c = omega (arith, (accepted_at (goal.at.bounds-self-at c).Start).below)

pub apply-self-requires : goal.apply-self-requires
apply-self-requires c = (accepted_at (goal.at.apply-self-requires c).Start).room

pub returns : goal.returns
returns c =
    let s = c.args.self.now in
    let a = c.args.a in
    let later = c.args.later.now in
    let new = c.pass_on.new.self in
    let slots = c.accept_at.new.words in
    let same = c.line_at-v.ensures in
    let slots-written = subst (λ (u : Line). SlotsWrote (place_of a) (accepted u a.seen later (slots_at (place_of a) new.words)) new.words slots) same c.accept_at.ensures in
    let makers-written = subst (λ (u : Line). MakersWrote (place_of a) (makers_left u a.seen (makers_at (place_of a) slots)) slots c.drop_makers.new.words) same c.drop_makers.ensures in
    written s.counts s.words c.requires.0 a c.args.d later c.requires.1.0 new.counts new.words c.pass_on.ensures
    slots c.drop_makers.new.words c.apply-self.new.words c.apply-self.result slots-written makers-written c.apply-self.ensures
    c.total_after-total.result c.total_after-total.ensures
