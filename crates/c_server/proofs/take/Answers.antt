use mathlib.Core.Path.{refl}
use Rattle.model.specs.Server.{take_server}
use Rattle.c_layout.specs.Called.{reported}
use Rattle.c_layout.proofs.Called.{call_refused, call_done, said, short}
use Rattle.c_server.specs.Layout.{size}
use Rattle.c_server.specs.Calls.{answered, taken_in}
use Rattle.c_server.proofs.Calls.{servers}
use Rattle.c_server.proofs.take.Goals as goal

pub returns-in_err-check_length : goal.returns-in_err-check_length
unfolding taken_in
returns-in_err-check_length c =
    short reported (λ r. refl) c.from_residual.result c.in_err-check_length.field-0.0 c.from_residual.ensures.1 size c.args.end.now c.args.end.now _ c.in_err-check_length.ensures

pub returns-in_err-report : goal.returns-in_err-report
unfolding taken_in answered
returns-in_err-report c =
    let q = c.from_residual-in_err-report in
    let r = c.in_err-report.field-0.0 in
    call_refused servers c.args.end.now c.read.new.s (c.in_ok-check_length.ensures, c.read.ensures) (λ m. take_server m c.args.message.now) r c.take.new.self (reported q.result)
    c.in_err-report.ensures (said reported (λ x. refl) q.result r q.ensures.1)

pub returns : goal.returns
unfolding taken_in answered
returns c =
    call_done servers c.args.end.now c.read.new.s (c.in_ok-check_length.ensures, c.read.ensures) (λ m. take_server m c.args.message.now) c.take.new.self _ _ c.write.new.end
    c.in_ok-report.ensures refl c.write.ensures
