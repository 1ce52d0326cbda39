-- Refused by the decision, or accepted and changed (proofs/Takes.antt).
use Prim.Native.Nat.{◌≤◌}
use mathlib.Core.Path.{ap, refl, sym, ◌∙◌, subst}
use Rattle.std.specs.Prelude.{Result}
use Rattle.refusal.specs.declared.Refusal.{Refusal}
use Rattle.refusal.proofs.Some.{passed_on}
use Rattle.limits.specs.Limits.{max_items}
use Rattle.ot.specs.Form.{position_of}
use Rattle.line.specs.declared.taking.Arrival.{Arrival}
use Rattle.line.specs.declared.taking.Report.{Report}
use Rattle.line.specs.Taking.{answer_of}
use Rattle.line.proofs.Decisions.{arrival_position}
use Rattle.server.proofs.Takes.{refuses, item_right, taken_done}
use Rattle.server.proofs.Server.take_message.Goals as goal

pub decide-requires : goal.decide-requires
decide-requires c =
    (subst (λ (x : Arrival). position_of x.form ≤ max_items) (sym c.split-a.ensures) (arrival_position c.args.m c.requires.0), (c.requires.1, refl))

pub returns-in_err-d : goal.returns-in_err-d
returns-in_err-d c =
    let s = c.args.self.now in
    let r = c.in_err-d.field-0.0 in
    ap (λ (q : Result Report Refusal). answer_of q s) (passed_on c.from_residual.result r c.from_residual.ensures.1)
    ∙ refuses s.counts s.words c.requires.1 c.args.m c.split-a.result c.split-a.ensures r c.in_err-d.ensures.refusal

pub change-requires : goal.change-requires
change-requires c =
    let s = c.args.self.now in
    (c.requires.1, (c.in_ok-d.ensures, item_right s.counts s.words c.requires.1 c.args.m c.split-a.result c.split-a.ensures _ _ c.in_ok-d.ensures))

pub returns : goal.returns
returns c =
    let s = c.args.self.now in
    taken_done s.counts s.words c.requires.1 c.args.m c.split-a.result c.split-a.ensures _ _ c.in_ok-d.ensures c.change.new.self c.change.ensures
