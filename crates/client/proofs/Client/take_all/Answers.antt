-- `take_all` meets its contract: the messages before a place are taken, and the next is lent from there to its end (proofs/TakesAll.antt).
use Prim.Native.Nat.{◌-◌, ◌≤◌, ◌<◌}
use native.Mathlib.Omega.{arith}
use lib.ListN.{length, take, drop}
use Rattle.std.specs.Prelude.{Ok}
use Rattle.wire_packet.proofs.Ends.{end_after, end_within}
use Rattle.client.proofs.TakesAll.{sound_taken, all_end, all_stop, all_turn}
use Rattle.client.proofs.Client.take_all.Goals as goal
use Rattle.client.proofs.Client.take_all.Goals.{After-message_end-end}

-- the message ends behind its place, and within the packet
after : (c : After-message_end-end) → c.loop-at.at < c.message_end-end.result
after c = omega (arith, c.message_end-end.ensures, end_after c.args.packet.now c.loop-at.at c.loop-at-test.true)

within : (c : After-message_end-end) → c.message_end-end.result ≤ length c.args.packet.now
within c = omega (arith, c.message_end-end.ensures, end_within c.args.packet.now c.loop-at.at)

pub slice_bounds-take_sound-count : goal.slice_bounds-take_sound-count
slice_bounds-take_sound-count c = omega (arith, after (goal.at.slice_bounds-take_sound-count c).After-message_end-end)

pub slice_bounds-take_sound-start : goal.slice_bounds-take_sound-start
slice_bounds-take_sound-start c =
    let p = (goal.at.slice_bounds-take_sound-start c).After-message_end-end in
    omega (arith, after p, within p)

pub slice_bounds-take_sound-end : goal.slice_bounds-take_sound-end
slice_bounds-take_sound-end c =
    let p = (goal.at.slice_bounds-take_sound-end c).After-message_end-end in
    omega (arith, after p, within p)

pub returns-in-Err : goal.returns-in-Err
returns-in-Err c =
    all_stop c.args.self.now c.args.packet.now c.loop-at.invariant.1 c.loop-at-test.true c.message_end-end.result c.message_end-end.ensures
    c.take_sound.new.self c.in-Err.refusal c.in-Err.ensures

pub loop-at-smaller : goal.loop-at-smaller
loop-at-smaller c =
    let p = (goal.at.loop-at-smaller c).After-message_end-end in
    omega (arith, after p, within p)

pub loop-at-preserved : goal.loop-at-preserved
loop-at-preserved c =
    let e = c.message_end-end.result in (
      sound_taken c.loop-at.invariant.0 (take (e - c.loop-at.at) (drop c.loop-at.at c.args.packet.now)) (Ok c.in_default.field-0) c.take_sound.new.self c.in_default.ensures,
      all_turn c.args.self.now c.args.packet.now c.loop-at.invariant.1 c.loop-at-test.true e c.message_end-end.ensures
          c.take_sound.new.self c.in_default.field-0 c.in_default.ensures,
    )

pub returns : goal.returns
returns c = all_end c.args.self.now c.args.packet.now c.loop-at.invariant.1 (omega (arith, c.loop-at-test.false))
