use Rattle.line.proofs.SoundWords.{empty_answers}
use Rattle.line.proofs.soundness.is_empty.Goals as goal

pub returns : goal.returns
returns c =
    let told = empty_answers c.args.v c.args.words.now c.zero_from.result c.requires c.zero_from.ensures
    in record { answer = told.0; facts = told.1 }
