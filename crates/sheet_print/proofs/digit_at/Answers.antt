use Prim.Native.Nat.{ℕ, ◌*◌, ◌<◌}
use native.Mathlib.Omega.{arith}
use Rattle.sheet_print.specs.declared.Part.{Part}
use Rattle.sheet_print.proofs.Places.{Left, left_take, left_digit, left_end}
use Rattle.sheet_print.proofs.digit_at.Goals as goal
use Rattle.sheet_print.proofs.digit_at.Goals.{After-take-b, After-take-c, After-take-d, Start}

-- what is left is below k times the power: 10, 6, 3, 2 and at last 1 times
abbrev Below : (c : Start) → ℕ → Part → Type 0
Below c k a = Left c.args.n c.args.p (k * c.args.p) a

digit_small : (c : Start) (k : ℕ) (a : Part) → Below c k a → a.digit < 10
digit_small c k a l = left_digit _ _ _ a l c.requires.0

below_10 : (c : Start) → Below c 10 (record { digit = 0; rest = c.args.n })
below_10 c = record { sum = omega arith; less = c.requires.0 }

below_6 : (c : After-take-b) → Below c.before 6 c.take-b.result
below_6 c = left_take _ _ _ _ _ _ c.take-b.ensures (below_10 c.before) (omega arith) (omega arith)

below_3 : (c : After-take-c) → Below c.before.before 3 c.take-c.result
below_3 c = left_take _ _ _ _ _ _ c.take-c.ensures (below_6 c.before) (omega arith) (omega arith)

below_2 : (c : After-take-d) → Below c.before.before.before 2 c.take-d.result
below_2 c = left_take _ _ _ _ _ _ c.take-d.ensures (below_3 c.before) (omega arith) (omega arith)

pub take-b-requires : goal.take-b-requires
take-b-requires c = (omega arith, omega arith, let h = c.requires.1 in omega arith)

pub take-c-requires : goal.take-c-requires
take-c-requires c = (digit_small (goal.at.take-c-requires c).Start 6 _ (below_6 (goal.at.take-c-requires c).After-take-b), omega arith, let h = c.requires.1 in omega arith)

pub take-d-requires : goal.take-d-requires
take-d-requires c = (digit_small (goal.at.take-d-requires c).Start 3 _ (below_3 c), omega arith, let h = c.requires.1 in omega arith)

pub take-requires : goal.take-requires
take-requires c = (digit_small (goal.at.take-requires c).Start 2 _ (below_2 c), omega arith, let h = c.requires.1 in omega arith)

pub returns : goal.returns
returns c = left_end _ _ _ (left_take _ _ _ _ _ _ c.take.ensures (below_2 (goal.at.returns c).After-take-d) (omega arith) (omega arith))
