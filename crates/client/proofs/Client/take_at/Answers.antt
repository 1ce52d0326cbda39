-- `Client::take_at` meets its contract: question 2 or 15 said no, or the message is lent from its start to its end and taken by a sound client
-- (proofs/TakesAll.antt).
use Prim.Native.Nat.{◌≤◌}
use native.Mathlib.Omega.{arith}
use mathlib.Core.Path.{sym, ◌∙◌}
use lib.ListN.{length}
use Rattle.wire_packet.proofs.Ends.{end_within, start_before}
use Rattle.client.proofs.TakesAll.{message_no, message_none, message_one}
use Rattle.client.proofs.Client.take_at.Goals as goal
use Rattle.client.proofs.Client.take_at.Goals.{After-message_end-end}

-- the message begins before it ends, within the packet
before : (c : After-message_end-end) → c.message_start-start.result ≤ c.message_end-end.result
before c =
    start_before c.args.packet.now c.args.at c.message_start-start.result c.message_end-end.result c.message_start-start.ensures c.message_end-end.ensures

within : (c : After-message_end-end) → c.message_end-end.result ≤ length c.args.packet.now
within c = omega (arith, c.message_end-end.ensures, end_within c.args.packet.now c.message_start-start.result)

pub returns-in_err-check_sound : goal.returns-in_err-check_sound
returns-in_err-check_sound c =
    message_no c.args.self.now c.args.packet.now c.in_err-check_sound.field-0.0 c.in_err-check_sound.ensures
    c.from_residual.result c.from_residual.ensures.1 c.args.at

pub returns-then-not-has_length : goal.returns-then-not-has_length
returns-then-not-has_length c =
    message_none c.args.self.now c.args.packet.now c.in_ok-check_sound.ensures (sym c.has_length.ensures ∙ c.if-not-has_length.true) c.args.at

pub slice_bounds-take_sound-count : goal.slice_bounds-take_sound-count
slice_bounds-take_sound-count c = omega (arith, before (goal.at.slice_bounds-take_sound-count c).After-message_end-end)

pub slice_bounds-take_sound-start : goal.slice_bounds-take_sound-start
slice_bounds-take_sound-start c =
    let p = (goal.at.slice_bounds-take_sound-start c).After-message_end-end in
    omega (arith, before p, within p)

pub slice_bounds-take_sound-end : goal.slice_bounds-take_sound-end
slice_bounds-take_sound-end c =
    let p = (goal.at.slice_bounds-take_sound-end c).After-message_end-end in
    omega (arith, before p, within p)

pub returns : goal.returns
returns c =
    c.take_sound.ensures
    ∙ message_one c.args.self.now c.args.packet.now c.in_ok-check_sound.ensures (sym c.has_length.ensures ∙ c.if-not-has_length.false)
    c.args.at c.message_start-start.result c.message_end-end.result c.message_start-start.ensures c.message_end-end.ensures
