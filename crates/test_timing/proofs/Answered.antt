-- What a call answers as a number is that of the model's answer.
use native.Mathlib.Omega.{arith}
use mathlib.Core.Path.{◌≡◌, refl}
use Rattle.std.specs.Prelude.{Result, Ok, Err, ⊤}
use Rattle.refusal.specs.declared.Refusal.{Refusal}
use Rattle.model.specs.Questions.{Answer}
use Rattle.line.specs.declared.taking.Report.{Report}
use Rattle.line.specs.Taking.{done_of, answer_of}
use Rattle.c_layout.specs.Called.{packed_report, done, reported}

module _ {E : Type 0} (e : E) where
  pub done_answered : (q : Result ⊤ Refusal) → done q ≡ packed_report (done_of q e).refusal (done_of q e).report
  done_answered (Ok x) = refl
  done_answered (Err r) = omega arith

  pub take_answered : (q : Result Report Refusal) → reported q ≡ packed_report (answer_of q e).refusal (answer_of q e).report
  take_answered (Ok k) = refl
  take_answered (Err r) = omega arith
