use native.Mathlib.Omega.{arith}
use mathlib.Core.Path.{sym, ◌∙◌}
use Rattle.server.specs.Answers.{taken}
use Rattle.c_server.specs.Layout.{size}
use Rattle.c_server.proofs.Calls.{servers}
use Rattle.c_packet.specs.Calls.{server_some, server_packet_in}
use Rattle.c_packet.proofs.Calls.{packet_short, packet_kept, packet_written}
use Rattle.c_packet.proofs.server_end.take_packet.Goals as goal

pub returns-in_err-check_length : goal.returns-in_err-check_length
unfolding server_packet_in
returns-in_err-check_length c = packet_short size c.args.end.now _ c.in_err-check_length.field-0.0 c.in_err-check_length.ensures c.from_residual.result c.from_residual.ensures.1

pub returns-then-taken_by-ne0 : goal.returns-then-taken_by-ne0
unfolding server_packet_in server_some
returns-then-taken_by-ne0 c =
    packet_written servers taken c.args.end.now c.read.new.s (c.in_ok-check_length.ensures, c.read.ensures) c.args.packet.now c.take_packet-taken.result c.take_packet-taken.new.self
    c.write.new.end c.take_packet-taken.ensures (λ z. c.if-taken_by-ne0.true (omega (arith, z, c.taken_by.ensures))) c.write.ensures

pub returns-else-taken_by-ne0 : goal.returns-else-taken_by-ne0
unfolding server_packet_in server_some
returns-else-taken_by-ne0 c =
    packet_kept servers taken c.args.end.now c.read.new.s (c.in_ok-check_length.ensures, c.read.ensures) c.args.packet.now c.take_packet-taken.result c.take_packet-taken.new.self
    c.take_packet-taken.ensures (sym c.taken_by.ensures ∙ omega (arith, c.if-taken_by-ne0.false))
