use native.Mathlib.Omega.{arith}
use mathlib.Core.Path.{sym, ◌∙◌}
use Rattle.client.specs.Answers.{taken}
use Rattle.c_client.specs.Layout.{size}
use Rattle.c_client.proofs.Calls.{clients}
use Rattle.c_packet.specs.Calls.{client_some, client_packet_in}
use Rattle.c_packet.proofs.Calls.{packet_short, packet_kept, packet_written}
use Rattle.c_packet.proofs.client_end.take_packet.Goals as goal

pub returns-in_err-check_length : goal.returns-in_err-check_length
unfolding client_packet_in
returns-in_err-check_length c = packet_short size c.args.end.now _ c.in_err-check_length.field-0.0 c.in_err-check_length.ensures c.from_residual.result c.from_residual.ensures.1

pub returns-then-taken_by-ne0 : goal.returns-then-taken_by-ne0
unfolding client_packet_in client_some
returns-then-taken_by-ne0 c =
    packet_written clients taken c.args.end.now c.read-client.result (c.in_ok-check_length.ensures, c.read-client.ensures) c.args.packet.now c.take_packet-taken.result c.take_packet-taken.new.self
    c.write.new.end c.take_packet-taken.ensures (λ z. c.if-taken_by-ne0.true (omega (arith, z, c.taken_by.ensures))) c.write.ensures

pub returns-else-taken_by-ne0 : goal.returns-else-taken_by-ne0
unfolding client_packet_in client_some
returns-else-taken_by-ne0 c =
    packet_kept clients taken c.args.end.now c.read-client.result (c.in_ok-check_length.ensures, c.read-client.ensures) c.args.packet.now c.take_packet-taken.result c.take_packet-taken.new.self
    c.take_packet-taken.ensures (sym c.taken_by.ensures ∙ omega (arith, c.if-taken_by-ne0.false))
