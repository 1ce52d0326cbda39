-- A number that gathers the bits of others is zero where they all are.
use Prim.Native.Nat.{ℕ, ◌+◌}
use native.Mathlib.Omega.{arith}
use mathlib.Core.Path.{◌≡◌, refl}
use mathlib.Core.Bool.{Bool, true, false, ◌&&◌}
use lib.Dec.{eqb}
use lib.Bits.{bit_or, bit_and, or_add_and, and_le_l, and_le_r}
use borrow.Author.Tests.{eqb-true, eqb-false, eq-eqb, ne_eqb}

pub or_zero : (a b : ℕ) → eqb (bit_or a b) 0 ≡ (eqb a 0 && eqb b 0)
or_zero a b = go (eqb a 0) refl (eqb b 0) refl
  where
    sum : bit_or a b + bit_and a b ≡ a + b
    sum = or_add_and a b

    go : (p : Bool) → eqb a 0 ≡ p → (q : Bool) → eqb b 0 ≡ q → eqb (bit_or a b) 0 ≡ (p && q)
    go true e true f = eq-eqb (bit_or a b) 0 (omega (arith, sum, eqb-true a 0 e, eqb-true b 0 f))
    go true e false f = ne_eqb (bit_or a b) 0 (λ z. eqb-false b 0 f (omega (arith, sum, and_le_l a b, z)))
    go false e q f = ne_eqb (bit_or a b) 0 (λ z. eqb-false a 0 e (omega (arith, sum, and_le_r a b, z)))
