-- Question 2 or 15 said no, or the messages are taken (proofs/TakesAll.antt).
use mathlib.Core.Path.{◌∙◌}
use borrow.Author.Rules.{rules}
use Rattle.server.proofs.TakesAll.{packet_refused, packet_all, stopped}
use Rattle.server.proofs.Server.take_packet.Goals as goal

pub returns-in_err-ask_packet : goal.returns-in_err-ask_packet
returns-in_err-ask_packet c =
    let s = c.args.self.now in
    let r = c.in_err-ask_packet.field-0.0 in
    stopped s r c.from_residual.result c.from_residual.ensures.1 ∙ packet_refused s c.args.packet.now r c.in_err-ask_packet.ensures.answer

pub returns : goal.returns
returns c = (search rules) ∙ packet_all c.args.self.now c.args.packet.now c.in_ok-ask_packet.ensures.answer
