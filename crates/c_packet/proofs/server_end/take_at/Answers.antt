use mathlib.Core.Path.{refl}
use Rattle.server.specs.Answers.{taken}
use Rattle.c_layout.proofs.Called.{said, short}
use Rattle.c_server.specs.Layout.{size}
use Rattle.c_server.proofs.Calls.{servers}
use Rattle.c_packet.specs.Calls.{reported, server_one, server_taken_at_in}
use Rattle.c_packet.proofs.Calls.{message_refused, message_done}
use Rattle.c_packet.proofs.ServerCalls.{long_message}
use Rattle.c_packet.proofs.server_end.take_at.Goals as goal

pub returns-in_err-check_length : goal.returns-in_err-check_length
unfolding server_taken_at_in
returns-in_err-check_length c =
    short reported (λ r. refl) c.from_residual.result c.in_err-check_length.field-0.0 c.from_residual.ensures.1 size c.args.end.now c.args.end.now _ c.in_err-check_length.ensures

pub returns-in_err-report : goal.returns-in_err-report
unfolding server_taken_at_in server_one
returns-in_err-report c =
    let q = c.from_residual-in_err-report in
    let r = c.in_err-report.field-0.0 in
    message_refused servers taken c.args.end.now c.read.new.s (c.in_ok-check_length.ensures, c.read.ensures) c.args.packet.now c.args.offset long_message r c.take_at.new.self (reported q.result)
    c.in_err-report.ensures (said reported (λ x. refl) q.result r q.ensures.1)

pub returns : goal.returns
unfolding server_taken_at_in server_one
returns c =
    message_done servers taken c.args.end.now c.read.new.s (c.in_ok-check_length.ensures, c.read.ensures) c.args.packet.now c.args.offset long_message c.take_at.new.self _ c.size_at-bytes.result
    c.write.new.end c.in_ok-report.ensures c.size_at-bytes.ensures c.write.ensures
