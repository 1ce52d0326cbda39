-- `Client::take` meets its contract: question 2 said no, or the bytes are taken by a sound client.
use Rattle.model.specs.Client.{take_client}
use Rattle.client.specs.View.{view}
use Rattle.client.proofs.Answers.{unsound_answer}
use Rattle.client.proofs.Client.take.Goals as goal

pub returns-in_err-check_sound : goal.returns-in_err-check_sound
returns-in_err-check_sound c =
    unsound_answer c.args.self.now (take_client (view c.args.self.now) c.args.bytes.now) c.in_err-check_sound.field-0.0 c.in_err-check_sound.ensures
    c.from_residual.result c.from_residual.ensures.1
