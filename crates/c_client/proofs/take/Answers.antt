use mathlib.Core.Path.{refl}
use Rattle.model.specs.Client.{take_client}
use Rattle.c_layout.specs.Called.{reported}
use Rattle.c_layout.proofs.Called.{call_refused, call_done, said, short}
use Rattle.c_client.specs.Layout.{size}
use Rattle.c_client.specs.Calls.{answered, taken_in}
use Rattle.c_client.proofs.Calls.{clients}
use Rattle.c_client.proofs.take.Goals as goal

pub returns-in_err-check_length : goal.returns-in_err-check_length
unfolding taken_in
returns-in_err-check_length c =
    short reported (λ r. refl) c.from_residual.result c.in_err-check_length.field-0.0 c.from_residual.ensures.1 size c.args.end.now c.args.end.now _ c.in_err-check_length.ensures

pub returns-in_err-report : goal.returns-in_err-report
unfolding taken_in answered
returns-in_err-report c =
    let q = c.from_residual-in_err-report in
    let r = c.in_err-report.field-0.0 in
    call_refused clients c.args.end.now c.read-client.result (c.in_ok-check_length.ensures, c.read-client.ensures) (λ m. take_client m c.args.message.now) r c.take.new.self (reported q.result)
    c.in_err-report.ensures (said reported (λ x. refl) q.result r q.ensures.1)

pub returns : goal.returns
unfolding taken_in answered
returns c =
    call_done clients c.args.end.now c.read-client.result (c.in_ok-check_length.ensures, c.read-client.ensures) (λ m. take_client m c.args.message.now) c.take.new.self _ _ c.write.new.end
    c.in_ok-report.ensures refl c.write.ensures
