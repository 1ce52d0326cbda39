-- `Client::take_packet` meets its contract: question 2 or 15 said no, or the messages are taken by a sound client (proofs/TakesAll.antt).
use mathlib.Core.Path.{sym, ◌∙◌}
use Rattle.client.proofs.TakesAll.{packet_no, packet_none, packet_all}
use Rattle.client.proofs.Client.take_packet.Goals as goal

pub returns-in_err-check_sound : goal.returns-in_err-check_sound
returns-in_err-check_sound c =
    packet_no c.args.self.now c.args.packet.now c.in_err-check_sound.field-0.0 c.in_err-check_sound.ensures
    c.from_residual.result c.from_residual.ensures.1

pub returns-then-not-has_length : goal.returns-then-not-has_length
returns-then-not-has_length c =
    packet_none c.args.self.now c.args.packet.now c.in_ok-check_sound.ensures (sym c.has_length.ensures ∙ c.if-not-has_length.true)
    c.from.result c.from.ensures.0 c.from.ensures.1

pub returns : goal.returns
returns c =
    c.take_all.ensures
    ∙ packet_all c.args.self.now c.args.packet.now c.in_ok-check_sound.ensures (sym c.has_length.ensures ∙ c.if-not-has_length.false)
