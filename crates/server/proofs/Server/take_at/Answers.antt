-- Question 2 or 15 said no, or the message is lent from its start to its end and taken (proofs/TakesAll.antt).
use Prim.Native.Nat.{◌≤◌}
use native.Mathlib.Omega.{arith}
use mathlib.Core.Path.{ap, ◌∙◌}
use lib.ListN.{length}
use Rattle.std.specs.Prelude.{Result}
use Rattle.refusal.specs.declared.Refusal.{Refusal}
use Rattle.refusal.proofs.Some.{passed_on}
use Rattle.line.specs.declared.taking.Report.{Report}
use Rattle.line.specs.Taking.{answer_of}
use Rattle.wire_packet.proofs.Ends.{end_within, start_before}
use Rattle.server.proofs.TakesAll.{message_refused, message_one}
use Rattle.server.proofs.Server.take_at.Goals as goal
use Rattle.server.proofs.Server.take_at.Goals.{After-message_end-end}

-- the message begins before it ends, within the packet
before : (c : After-message_end-end) → c.message_start-start.result ≤ c.message_end-end.result
before c =
    start_before c.args.packet.now c.args.at c.message_start-start.result c.message_end-end.result c.message_start-start.ensures c.message_end-end.ensures

within : (c : After-message_end-end) → c.message_end-end.result ≤ length c.args.packet.now
within c = omega (arith, c.message_end-end.ensures, end_within c.args.packet.now c.message_start-start.result)

pub returns-in_err-ask_packet : goal.returns-in_err-ask_packet
returns-in_err-ask_packet c =
    let s = c.args.self.now in
    let r = c.in_err-ask_packet.field-0.0 in
    ap (λ (q : Result Report Refusal). answer_of q s) (passed_on c.from_residual.result r c.from_residual.ensures.1)
    ∙ message_refused s c.args.packet.now r c.in_err-ask_packet.ensures.answer c.args.at

pub slice_bounds-take_sound-count : goal.slice_bounds-take_sound-count
slice_bounds-take_sound-count c = omega (arith, before (goal.at.slice_bounds-take_sound-count c).After-message_end-end)

pub slice_bounds-take_sound-start : goal.slice_bounds-take_sound-start
slice_bounds-take_sound-start c =
    let at = (goal.at.slice_bounds-take_sound-start c).After-message_end-end in
    omega (arith, before at, within at)

pub slice_bounds-take_sound-end : goal.slice_bounds-take_sound-end
slice_bounds-take_sound-end c =
    let at = (goal.at.slice_bounds-take_sound-end c).After-message_end-end in
    omega (arith, before at, within at)

pub returns : goal.returns
returns c =
    c.take_sound.ensures
    ∙ message_one c.args.self.now c.args.packet.now c.in_ok-ask_packet.ensures.answer c.args.at c.message_start-start.result c.message_end-end.result
    c.message_start-start.ensures c.message_end-end.ensures
