-- Question 2 or 4 said no, or the acknowledgement is written (proofs/Sends.antt).
use native.Mathlib.Omega.{arith}
use mathlib.Core.Path.{ap, ◌∙◌}
use Rattle.std.specs.Prelude.{ℕ, Result}
use Rattle.refusal.specs.declared.Refusal.{Refusal}
use Rattle.refusal.proofs.Some.{passed_on}
use Rattle.line.specs.Sending.{answered}
use Rattle.server.proofs.Facts.{lines_few}
use Rattle.server.proofs.Sends.{tell_refused, tell_done}
use Rattle.server.proofs.Server.tell.Goals as goal

pub returns-in_err-ask_line : goal.returns-in_err-ask_line
returns-in_err-ask_line c =
    let s = c.args.self.now in
    let r = c.in_err-ask_line.field-0.0 in
    ap (λ (q : Result ℕ Refusal). answered q c.args.out.now) (passed_on c.from_residual.result r c.from_residual.ensures.1)
    ∙ tell_refused s.counts s.words c.args.line c.args.out.now r c.in_err-ask_line.ensures.answer

pub line_at-v-requires : goal.line_at-v-requires
line_at-v-requires c =
    let s = c.args.self.now in
    let h = c.in_ok-ask_line.ensures.facts in
    omega (arith, h.1.0, h.1.1, lines_few s.counts s.words h.0)

pub returns : goal.returns
returns c =
    let s = c.args.self.now in
    tell_done s.counts s.words c.args.line c.args.out.now c.finish.result _ c.line_at-v.result c.in_ok-ask_line.ensures.answer c.line_at-v.ensures c.finish.ensures
