use native.Mathlib.Omega.{arith}
use mathlib.Core.Path.{◌≡◌, refl, ap, ◌∙◌}
use Prim.Native.Nat.{ℕ}
use Rattle.std.specs.Prelude.{Ok, Err, Result}
use Rattle.refusal.specs.declared.Refusal.{Refusal}
use Rattle.model.specs.Server.{send_server}
use Rattle.c_layout.specs.Called.{written, returned}
use Rattle.c_layout.proofs.Called.{call_sent, short}
use Rattle.refusal.proofs.Some.{passed_on}
use Rattle.c_server.specs.Layout.{size}
use Rattle.c_server.specs.Calls.{sent_in}
use Rattle.c_server.proofs.Calls.{servers, edit_fits}
use Rattle.c_server.proofs.send.Goals as goal

pub returns-in_err-check_length : goal.returns-in_err-check_length
unfolding sent_in
returns-in_err-check_length c =
    short written (λ r. refl) c.from_residual.result c.in_err-check_length.field-0.0 c.from_residual.ensures.1 size c.args.end.now c.args.out.now _ c.in_err-check_length.ensures

pub returns-in_err-bytes : goal.returns-in_err-bytes
unfolding sent_in
returns-in_err-bytes c =
    let q = c.from_residual-in_err-bytes in
    ap (λ (s : Result ℕ Refusal). returned (written s) c.send.new.out) (passed_on q.result c.in_err-bytes.field-0.0 q.ensures.1)
    ∙ call_sent servers c.args.end.now c.read.new.s (c.in_ok-check_length.ensures, c.read.ensures) c.args.out.now (λ m. send_server m c.args.line c.args.number c.args.out.now) (Err c.in_err-bytes.field-0.0) c.send.new.out c.in_err-bytes.ensures

pub overflow_cast-result : goal.overflow_cast-result
overflow_cast-result c = omega (arith, edit_fits _ _ _ _ _ _ c.in_ok-bytes.ensures)

pub returns : goal.returns
unfolding sent_in
returns c =
    call_sent servers c.args.end.now c.read.new.s (c.in_ok-check_length.ensures, c.read.ensures) c.args.out.now (λ m. send_server m c.args.line c.args.number c.args.out.now) (Ok c.in_ok-bytes.bytes) c.send.new.out c.in_ok-bytes.ensures
