use native.Mathlib.Omega.{arith}
use Rattle.sheet_print.proofs.Places.{none_put, digit_put, digit_lt}
use Rattle.sheet_print.proofs.put_digit.Goals as goal

pub returns-then-n-p : goal.returns-then-n-p
returns-then-n-p c = none_put c.args.n c.args.rest c.args.p _ c.if-n-p.true c.requires.0

pub overflow_add-d : goal.overflow_add-d
overflow_add-d c = let h = digit_lt c.args.rest c.args.p _ c.requires.1 c.digit_at-d.ensures in omega arith

pub returns : goal.returns
returns c = digit_put _ _ _ _ _ c.if-n-p.false c.digit_at-d.ensures c.put-to.ensures
