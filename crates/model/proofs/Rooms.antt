-- The server's test that every other line has room says what the log says of the lines.
use mathlib.Core.Path.{◌≡◌, refl, ap, sym, ◌∙◌}
use mathlib.Core.Bool.{Bool, true, false, ◌||◌}
use Prim.Native.Nat.{ℕ, zero, suc, ◌-◌, ◌≤◌}
use native.Mathlib.Omega.{arith}
use lib.Dec.{eqb}
use borrow.Author.Tests.{eqb-true, eqb-false}
use Rattle.model.specs.Line.{Line, roomy}
use Rattle.model.specs.Server.{others_roomy}
use Rattle.model.specs.Numbers.{all_but}
use Rattle.model.proofs.Tests.{bool_ext, both, and_left, and_right}
use Rattle.model.proofs.Table.{table, table_roomy, roomy_table}

module _ (test : ℕ → Bool) (l : ℕ) where
  but_all : (k : ℕ) → ((j : ℕ) → 1 ≤ j → j ≤ k → (j ≡ l → ⊥) → test j ≡ true) → all_but test l k ≡ true
  unfolding all_but
  but_all zero f = refl
  but_all (suc k) f = both (eqb l (suc k) || test (suc k)) (all_but test l k) (go (eqb l (suc k)) refl) (but_all k (λ j a b d. f j a (omega arith) d))
    where
      go : (b : Bool) → eqb l (suc k) ≡ b → (b || test (suc k)) ≡ true
      go true e = refl
      go false e = f (suc k) (omega arith) (omega arith) (λ z. eqb-false l (suc k) e (sym z))

  all_but_lem : (k : ℕ) → all_but test l k ≡ true → (j : ℕ) → 1 ≤ j → j ≤ k → (j ≡ l → ⊥) → test j ≡ true
  unfolding all_but
  all_but_lem zero r j a b d = absurd (omega arith)
  all_but_lem (suc k) r j a b d = go (eqb j (suc k)) refl (λ le. all_but_lem k (and_right (eqb l (suc k) || test (suc k)) (all_but test l k) r) j a le d)
    where
      here : (t : Bool) → eqb l (suc k) ≡ t → (t || test (suc k)) ≡ true → (suc k ≡ l → ⊥) → test (suc k) ≡ true
      here true e x ne = absurd (ne (sym (eqb-true l (suc k) e)))
      here false e x ne = x

      go : (t : Bool) → eqb j (suc k) ≡ t → (j ≤ k → test j ≡ true) → test j ≡ true
      go true e rest =
          ap test (eqb-true j (suc k) e)
          ∙ here (eqb l (suc k)) refl (and_left (eqb l (suc k) || test (suc k)) (all_but test l k) r) (λ z. d (eqb-true j (suc k) e ∙ z))
      go false e rest = rest (omega (arith, eqb-false j (suc k) e))

pub same_room : (h : ℕ → Line) (test : ℕ → Bool) (n l : ℕ) → 1 ≤ l → ((j : ℕ) → roomy (h j) ≡ test j) → others_roomy (l - 1) (table h 1 n) ≡ all_but test l n
same_room h test n l lo same =
    bool_ext (others_roomy (l - 1) (table h 1 n)) (all_but test l n)
    (λ r. but_all test l n (λ j a b d. sym (same j) ∙ roomy_table h 1 n (l - 1) r j a (omega arith) (λ z. d (omega arith))))
    (λ r. table_roomy h 1 n (l - 1) (λ j a b d. same j ∙ all_but_lem test l n r j a (omega arith) (λ z. d (omega arith))))
