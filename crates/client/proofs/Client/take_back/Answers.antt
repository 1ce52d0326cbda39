-- `Client::take_back` meets its contract: question 2 or 17 said no, or a sound client makes its inverse (proofs/Edits.antt).
use native.Mathlib.Omega.{arith}
use mathlib.Core.Path.{◌∙◌}
use Rattle.model.specs.Client.{take_back_client}
use Rattle.client.specs.View.{view}
use Rattle.client.proofs.Answers.{unsound_done}
use Rattle.client.proofs.Edits.{back_refused, back_made}
use Rattle.client.proofs.Client.take_back.Goals as goal

pub returns-in_err-check_sound : goal.returns-in_err-check_sound
returns-in_err-check_sound c =
    unsound_done c.args.self.now (take_back_client (view c.args.self.now)) c.in_err-check_sound.field-0.0 c.in_err-check_sound.ensures
    c.from_residual.result c.from_residual.ensures.1

pub returns-then-back-eq0 : goal.returns-then-back-eq0
returns-then-back-eq0 c = back_refused c.args.self.now c.in_ok-check_sound.ensures (omega (arith, c.if-back-eq0.true))

pub returns : goal.returns
returns c =
    c.make.ensures ∙ back_made c.args.self.now c.in_ok-check_sound.ensures c.form_at.result c.form_at.ensures c.if-back-eq0.false
