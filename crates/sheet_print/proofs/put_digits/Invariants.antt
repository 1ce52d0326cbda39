-- The invariants of the loops.
use Prim.Native.Nat.{ℕ, ◌+◌, ◌≤◌}
use mathlib.Core.Path.{◌≡◌}
use Rattle.sheet_print.specs.Sink.{sink, puts}
use Rattle.sheet_print.specs.Decimal.{digits}
use Rattle.sheet_print.proofs.Places.{Coming}
use Rattle.sheet_print.proofs.put_digits.Given as goal

-- the loop has come down to l.k: the next place is the one before it
abbrev pub invariant-loop-k : goal.invariant-loop-k
invariant-loop-k l =
    record { to : l.to + 1 ≤ l.k; coming : (k : ℕ) → l.k ≡ k + 1 → Coming l.n k l.left (sink l.out l.next) (puts (digits l.from l.n) (sink l.initial.out l.at)) }
