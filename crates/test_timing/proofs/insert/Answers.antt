use mathlib.Core.Path.{ap, ◌∙◌}
use Rattle.test_timing.specs.Opened.{client_answered}
use Rattle.test_timing.proofs.Answered.{done_answered}
use Rattle.test_timing.proofs.insert.Goals as goal

pub returns : goal.returns
returns c = c.done.ensures ∙ done_answered c.insert_apart.new.end c.insert_apart.result ∙ ap client_answered c.insert_apart.ensures
