-- Question 2 said no, or the bytes are taken by a sound server.
use mathlib.Core.Path.{ap, ◌∙◌}
use Rattle.std.specs.Prelude.{Result}
use Rattle.refusal.specs.declared.Refusal.{Refusal}
use Rattle.refusal.proofs.Some.{passed_on}
use Rattle.model.specs.Server.{take_server}
use Rattle.line.specs.declared.taking.Report.{Report}
use Rattle.line.specs.Taking.{answer_of}
use Rattle.server.specs.View.{view}
use Rattle.server.proofs.Answers.{unsound}
use Rattle.server.proofs.Server.take.Goals as goal

pub returns-in_err-check_sound : goal.returns-in_err-check_sound
returns-in_err-check_sound c =
    let s = c.args.self.now in
    let r = c.in_err-check_sound.field-0.0 in
    ap (λ (q : Result Report Refusal). answer_of q s) (passed_on c.from_residual.result r c.from_residual.ensures.1)
    ∙ unsound s r c.in_err-check_sound.ensures.answer (take_server (view s) c.args.bytes.now)
