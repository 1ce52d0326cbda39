use mathlib.Core.Path.{refl}
use Rattle.model.specs.Client.{take_back_client}
use Rattle.c_layout.specs.Called.{done}
use Rattle.c_layout.proofs.Called.{call_refused, call_done, said, short}
use Rattle.c_client.specs.Layout.{size}
use Rattle.c_client.specs.Calls.{answered, taken_back_in}
use Rattle.c_client.proofs.Calls.{clients}
use Rattle.c_client.proofs.take_back.Goals as goal

pub returns-in_err-check_length : goal.returns-in_err-check_length
unfolding taken_back_in
returns-in_err-check_length c =
    short done (λ r. refl) c.from_residual.result c.in_err-check_length.field-0.0 c.from_residual.ensures.1 size c.args.end.now c.args.end.now _ c.in_err-check_length.ensures

pub returns-in_err-take_back : goal.returns-in_err-take_back
unfolding taken_back_in answered
returns-in_err-take_back c =
    let q = c.from_residual-in_err-take_back in
    let r = c.in_err-take_back.field-0.0 in
    call_refused clients c.args.end.now c.read-client.result (c.in_ok-check_length.ensures, c.read-client.ensures) (λ m. take_back_client m) r c.take_back.new.self (done q.result) c.in_err-take_back.ensures
    (said done (λ x. refl) q.result r q.ensures.1)

pub returns : goal.returns
unfolding taken_back_in answered
returns c =
    call_done clients c.args.end.now c.read-client.result (c.in_ok-check_length.ensures, c.read-client.ensures) (λ m. take_back_client m) c.take_back.new.self _ 0 c.write.new.end c.in_ok-take_back.ensures refl c.write.ensures
