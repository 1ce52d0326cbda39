-- `Client::insert` meets its contract: question 2 said no, or a sound client makes an insert of its line's rank (proofs/Edits.antt).
use mathlib.Core.Path.{◌∙◌}
use Rattle.model.specs.Client.{insert_client}
use Rattle.client.specs.View.{view}
use Rattle.client.proofs.Answers.{unsound_done}
use Rattle.client.proofs.Edits.{ranked_insert}
use Rattle.client.proofs.Client.insert.Goals as goal

pub returns-in_err-check_sound : goal.returns-in_err-check_sound
returns-in_err-check_sound c =
    unsound_done c.args.self.now (insert_client (view c.args.self.now) c.args.p c.args.x) c.in_err-check_sound.field-0.0 c.in_err-check_sound.ensures
    c.from_residual.result c.from_residual.ensures.1

pub returns : goal.returns
returns c = c.make.ensures ∙ ranked_insert c.args.self.now c.args.p c.args.x c.rank.result c.rank.ensures
