-- `Client::delete` meets its contract: question 2 said no, or a sound client makes a delete, which brings no item.
use Rattle.model.specs.Client.{delete_client}
use Rattle.client.specs.View.{view}
use Rattle.client.proofs.Answers.{unsound_done}
use Rattle.client.proofs.Client.delete.Goals as goal

pub returns-in_err-check_sound : goal.returns-in_err-check_sound
returns-in_err-check_sound c =
    unsound_done c.args.self.now (delete_client (view c.args.self.now) c.args.p) c.in_err-check_sound.field-0.0 c.in_err-check_sound.ensures
    c.from_residual.result c.from_residual.ensures.1
