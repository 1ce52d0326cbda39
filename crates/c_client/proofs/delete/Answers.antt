use mathlib.Core.Path.{refl}
use Rattle.model.specs.Client.{delete_client}
use Rattle.c_layout.specs.Called.{done}
use Rattle.c_layout.proofs.Called.{call_refused, call_done, said, short}
use Rattle.c_client.specs.Layout.{size}
use Rattle.c_client.specs.Calls.{answered, deleted_in}
use Rattle.c_client.proofs.Calls.{clients}
use Rattle.c_client.proofs.delete.Goals as goal

pub returns-in_err-check_length : goal.returns-in_err-check_length
unfolding deleted_in
returns-in_err-check_length c =
    short done (λ r. refl) c.from_residual.result c.in_err-check_length.field-0.0 c.from_residual.ensures.1 size c.args.end.now c.args.end.now _ c.in_err-check_length.ensures

pub returns-in_err-delete : goal.returns-in_err-delete
unfolding deleted_in answered
returns-in_err-delete c =
    let q = c.from_residual-in_err-delete in
    let r = c.in_err-delete.field-0.0 in
    call_refused clients c.args.end.now c.read-client.result (c.in_ok-check_length.ensures, c.read-client.ensures) (λ m. delete_client m c.args.position) r c.delete.new.self (done q.result) c.in_err-delete.ensures
    (said done (λ x. refl) q.result r q.ensures.1)

pub returns : goal.returns
unfolding deleted_in answered
returns c =
    call_done clients c.args.end.now c.read-client.result (c.in_ok-check_length.ensures, c.read-client.ensures) (λ m. delete_client m c.args.position) c.delete.new.self _ 0 c.write.new.end c.in_ok-delete.ensures refl c.write.ensures
