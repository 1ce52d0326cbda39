use Prim.Native.Nat.{◌+◌, ◌≤◌}
use native.Mathlib.Omega.{arith}
use lib.ListN.{length}
use Rattle.sheet_text.proofs.Texts.{line_within}
use Rattle.sheet_text.proofs.Orders.{line_next}
use Rattle.sheet_text.proofs.line_at.Goals as goal
use Rattle.sheet_text.proofs.line_at.Goals.{After-end}

-- the line lies in the text
within : (c : After-end) → c.args.i + c.end.result ≤ length c.args.input.now
within c = line_within c.args.input.now c.args.i c.end.result c.requires c.end.ensures

pub overflow_add-e : goal.overflow_add-e
overflow_add-e c = omega (arith, within c)

pub slice_bounds-read_order-end : goal.slice_bounds-read_order-end
slice_bounds-read_order-end c = omega (arith, within c)

pub overflow_add-result : goal.overflow_add-result
overflow_add-result c = omega (arith, within (goal.at.overflow_add-result c).After-end)

pub returns : goal.returns
returns c =
    line_next c.args.input.now c.args.i c.end.result _ c.requires c.end.ensures _ c.read_order-order.ensures
