-- A turn for each line in use; the laws are in proofs/Keeping.antt.
use Prim.Native.Nat.{◌-◌, ◌<◌}
use native.Mathlib.Omega.{arith}
use mathlib.Core.Path.{◌≡◌, ap, sym, ◌∙◌, subst}
use Rattle.limits.specs.Limits.{max_pending}
use Rattle.ot.specs.Edit.{edit}
use Rattle.line.specs.declared.Line.{Line}
use Rattle.line.specs.Line.{Kept}
use Rattle.line.specs.Keeping.{with_kept}
use Rattle.server.specs.View.{slots_at, makers_at, counts_at, SlotsWrote, MakersWrote}
use Rattle.server.specs.Taking.{slots_kept, makers_kept}
use Rattle.server.proofs.Facts.{sizes, lines_few, made_few}
use Rattle.server.proofs.Asked.{roomy_each}
use Rattle.server.proofs.Keeping.{kept_skip, kept_still, uncounted, kept_turn}
use Rattle.server.proofs.Server.keep_others.Goals as goal
use Rattle.server.proofs.Server.keep_others.Goals.{After-line_at-v, In-loop-i}

-- a turn is one of eight
below : (c : In-loop-i) → c.loop-i.i < 8
below c = let s = c.args.self.now in omega (arith, c.loop-i-test, lines_few s.counts s.words c.requires.0.0)

-- the line that is read is as it came, and has room for one more
same : (c : After-line_at-v) → c.line_at-v.result ≡ counts_at c.args.self.now.counts c.loop-i.i
same c =
    let s = c.args.self.now in
    let l = c.loop-i in
    c.line_at-v.ensures
    ∙ uncounted c.args.at (edit c.args.f c.args.x) c.args.word s.counts s.words l.i l.self.counts l.self.words l.invariant.1 c.if-i-at.false (below (goal.at.After-line_at-v c).In-loop-i)

room : (c : After-line_at-v) → c.line_at-v.result.made - c.line_at-v.result.acked < max_pending
room c =
    subst (λ (u : Line). u.made - u.acked < max_pending) (sym (same c))
    (roomy_each c.args.self.now.counts c.args.at c.requires.1.0 c.loop-i.i (omega (arith, c.loop-i-test)) c.if-i-at.false)

pub loop-i-preserved-then-i-at : goal.loop-i-preserved-then-i-at
loop-i-preserved-then-i-at c =
    let s = c.args.self.now in
    let l = c.loop-i in
    (omega arith, kept_skip c.args.at (edit c.args.f c.args.x) c.args.word s.counts s.words l.i l.self.counts l.self.words l.invariant.1 c.if-i-at.true)

pub line_at-v-requires : goal.line_at-v-requires
line_at-v-requires c = below (goal.at.line_at-v-requires c).In-loop-i

pub keep_at-requires : goal.keep_at-requires
keep_at-requires c =
    let s = c.args.self.now in
    let l = c.loop-i in
    let lt = below (goal.at.keep_at-requires c).In-loop-i in
    let at = (goal.at.keep_at-requires c).After-line_at-v in
    let kept = kept_still c.args.at (edit c.args.f c.args.x) c.args.word s.counts s.words l.i l.self.counts l.self.words l.invariant.1
    c.if-i-at.false lt (c.requires.0.0.kept l.i lt) in
    (lt, ((subst (λ (u : Line). Kept u (slots_at l.i l.self.words)) (sym (same at)) kept, room at), c.requires.1.1))

pub name_at-requires : goal.name_at-requires
name_at-requires c = (below (goal.at.name_at-requires c).In-loop-i, room (goal.at.name_at-requires c).After-line_at-v)

pub kept-requires : goal.kept-requires
kept-requires c =
    let s = c.args.self.now in
    let few = made_few s.counts s.words c.requires.0.0 c.loop-i.i (omega (arith, c.loop-i-test)) in
    omega (arith, few, ap (λ (u : Line). u.made) (same (goal.at.kept-requires c).After-line_at-v))

pub bounds-self-i : goal.bounds-self-i
bounds-self-i c = omega (arith, below (goal.at.bounds-self-i c).In-loop-i)

pub loop-i-preserved : goal.loop-i-preserved
loop-i-preserved c =
    let s = c.args.self.now in
    let l = c.loop-i in
    let i = l.i in
    let e = edit c.args.f c.args.x in
    let read = same (goal.at.loop-i-preserved c).After-line_at-v in
    let slots = c.keep_at.new.words in
    let makers = c.name_at.new.words in
    let slots_wrote = subst (λ (u : Line). SlotsWrote i (slots_kept e u (slots_at i l.self.words)) l.self.words slots) read c.keep_at.ensures in
    let makers_wrote = subst (λ (u : Line). MakersWrote i (makers_kept c.args.word u (makers_at i slots)) slots makers) read c.name_at.ensures in (
      omega arith,
      kept_turn c.args.at e c.args.word s.counts s.words i l.self.counts l.self.words l.invariant.1 c.if-i-at.false (below (goal.at.loop-i-preserved c).In-loop-i)
          (sizes s.counts s.words c.requires.0.0).lines slots makers slots_wrote makers_wrote c.kept.result (c.kept.ensures ∙ ap (λ (u : Line). with_kept u u.inserts) read),
    )
