-- The invariants of the loops.
use Prim.Native.Nat.{◌<◌}
use mathlib.Core.Path.{◌≡◌}
use lib.ListN.{drop}
use Rattle.sheet_print.specs.Decimal.{too_wide, number_from}
use Rattle.sheet_text.proofs.number.Given as goal

abbrev pub invariant-loop-b : goal.invariant-loop-b
invariant-loop-b l = (l.n < too_wide) × (number_from l.n (drop l.b-index l.w) ≡ number_from 0 l.w)
