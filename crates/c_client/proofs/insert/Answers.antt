use mathlib.Core.Path.{refl}
use Rattle.model.specs.Client.{insert_client}
use Rattle.c_layout.specs.Called.{done}
use Rattle.c_layout.proofs.Called.{call_refused, call_done, said, short}
use Rattle.c_client.specs.Layout.{size}
use Rattle.c_client.specs.Calls.{answered, inserted_in}
use Rattle.c_client.proofs.Calls.{clients}
use Rattle.c_client.proofs.insert.Goals as goal

pub returns-in_err-check_length : goal.returns-in_err-check_length
unfolding inserted_in
returns-in_err-check_length c =
    short done (λ r. refl) c.from_residual.result c.in_err-check_length.field-0.0 c.from_residual.ensures.1 size c.args.end.now c.args.end.now _ c.in_err-check_length.ensures

pub returns-in_err-insert : goal.returns-in_err-insert
unfolding inserted_in answered
returns-in_err-insert c =
    let q = c.from_residual-in_err-insert in
    let r = c.in_err-insert.field-0.0 in
    call_refused clients c.args.end.now c.read-client.result (c.in_ok-check_length.ensures, c.read-client.ensures) (λ m. insert_client m c.args.position c.args.item) r c.insert.new.self (done q.result) c.in_err-insert.ensures
    (said done (λ x. refl) q.result r q.ensures.1)

pub returns : goal.returns
unfolding inserted_in answered
returns c =
    call_done clients c.args.end.now c.read-client.result (c.in_ok-check_length.ensures, c.read-client.ensures) (λ m. insert_client m c.args.position c.args.item) c.insert.new.self _ 0 c.write.new.end c.in_ok-insert.ensures refl c.write.ensures
