-- A question said no, or the message is written (proofs/Sends.antt).
use mathlib.Core.Path.{ap, ◌∙◌}
use Rattle.std.specs.Prelude.{ℕ, Result}
use Rattle.refusal.specs.declared.Refusal.{Refusal}
use Rattle.refusal.proofs.Some.{passed_on}
use Rattle.line.specs.Sending.{answered}
use Rattle.server.proofs.Sends.{send_refused, send_done}
use Rattle.server.proofs.Server.send.Goals as goal

pub returns-in_err-ask_send : goal.returns-in_err-ask_send
returns-in_err-ask_send c =
    let s = c.args.self.now in
    let r = c.in_err-ask_send.field-0.0 in
    ap (λ (q : Result ℕ Refusal). answered q c.args.out.now) (passed_on c.from_residual.result r c.from_residual.ensures.1)
    ∙ send_refused s.counts s.words c.args.line c.args.number c.args.out.now r c.in_err-ask_send.ensures.answer

pub returns : goal.returns
returns c =
    let s = c.args.self.now in
    send_done s.counts s.words c.args.line c.args.number c.args.out.now c.finish.result _ c.message_of.result c.in_ok-ask_send.ensures.answer
    c.in_ok-ask_send.ensures.facts c.message_of.ensures c.finish.ensures
