-- `size_at` meets its contract: from the start of the message to its end (proofs/Sizes.antt).
use native.Mathlib.Omega.{arith}
use mathlib.Core.Path.{refl}
use Rattle.wire_packet.proofs.Ends.{start_before, end_within}
use Rattle.c_packet.proofs.Sizes.{size_found}
use Rattle.c_packet.proofs.size_at.Goals as goal

pub overflow_sub-result : goal.overflow_sub-result
overflow_sub-result c =
    let a = c.args in
    let before = start_before a.packet.now a.offset c.message_start-start.result c.message_end-end.result c.message_start-start.ensures c.message_end-end.ensures in
    omega (arith, before, c.message_end-end.ensures, end_within a.packet.now c.message_start-start.result)

pub returns : goal.returns
returns c =
    let a = c.args in
    size_found a.packet.now a.offset c.message_start-start.result c.message_end-end.result _ c.message_start-start.ensures c.message_end-end.ensures refl
