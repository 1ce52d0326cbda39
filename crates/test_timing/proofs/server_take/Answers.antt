use mathlib.Core.Path.{ap, ◌∙◌}
use Rattle.test_timing.specs.Opened.{server_answered}
use Rattle.test_timing.proofs.Answered.{take_answered}
use Rattle.test_timing.proofs.server_take.Goals as goal

pub returns : goal.returns
returns c = c.reported.ensures ∙ take_answered c.take.new.self c.take.result ∙ ap server_answered c.take.ensures
