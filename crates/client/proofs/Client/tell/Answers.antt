-- `Client::tell` meets its contract: question 2 or 4 said no, or the acknowledgement is written (proofs/Messages.antt).
use mathlib.Core.Path.{◌∙◌}
use Rattle.model.specs.Client.{tell_client}
use Rattle.client.specs.View.{view}
use Rattle.client.proofs.Messages.{unsound_sent, tell_other, sent_ack_lem}
use Rattle.client.proofs.Client.tell.Goals as goal

pub returns-in_err-check_sound : goal.returns-in_err-check_sound
returns-in_err-check_sound c =
    unsound_sent c.args.self.now (tell_client (view c.args.self.now) c.args.line c.args.out.now) c.args.out.now
    c.in_err-check_sound.field-0.0 c.in_err-check_sound.ensures c.from_residual.result c.from_residual.ensures.1

pub returns-then-line-k : goal.returns-then-line-k
returns-then-line-k c = tell_other c.args.self.now c.in_ok-check_sound.ensures c.args.line c.args.out.now c.if-line-k.true

pub returns : goal.returns
returns c =
    c.finish.ensures ∙ sent_ack_lem c.args.self.now c.in_ok-check_sound.ensures c.args.line c.args.out.now c.if-line-k.false
