-- Questions in two parts, the first part's refusal standing.
use Prim.Native.Nat.{ℕ}
use mathlib.Core.Path.{◌≡◌, refl, ap, ◌∙◌, sym}
use mathlib.Core.Bool.{Bool, true, false, cond}
use mathlib.Core.List.{List, [], ◌∷◌, ◌++◌}
use lib.Dec.{eqb}
use borrow.Author.Tests.{eqb-true, eq-eqb, ne_eqb}
use Rattle.model.specs.Questions.{Question, asks}
use Rattle.model.proofs.Tests.{Numbered}
use Rattle.line.specs.Keeping.{then_asked}

pub then_left : (r s : ℕ) → then_asked r s ≡ 0 → r ≡ 0
then_left r s e = go (eqb r 0) refl e
  where
    go : (b : Bool) → eqb r 0 ≡ b → cond b s r ≡ 0 → r ≡ 0
    go true t z = eqb-true r 0 t
    go false f z = z

pub then_right : (r s : ℕ) → then_asked r s ≡ 0 → s ≡ 0
then_right r s e = sym (ap (λ (b : Bool). cond b s r) (eq-eqb r 0 (then_left r s e))) ∙ e

-- nothing else is asked
pub then_none : (r : ℕ) → then_asked r 0 ≡ r
then_none r = go (eqb r 0) refl
  where
    go : (b : Bool) → eqb r 0 ≡ b → cond b 0 r ≡ r
    go true t = sym (eqb-true r 0 t)
    go false f = refl

pub then_yes : (r s : ℕ) → r ≡ 0 → then_asked r s ≡ s
then_yes r s z = ap (λ (b : Bool). cond b s r) (eq-eqb r 0 z)

pub then_no : (r s : ℕ) → (r ≡ 0 → ⊥) → then_asked r s ≡ r
then_no r s n = ap (λ (b : Bool). cond b s r) (ne_eqb r 0 n)

pub asks_append : (qs rest : List Question) → Numbered qs → asks (qs ++ rest) ≡ then_asked (asks qs) (asks rest)
asks_append [] rest n = refl
asks_append (q ∷ qs) rest n = go q.yes (asks_append qs rest n.1)
  where
    go : (b : Bool) → asks (qs ++ rest) ≡ then_asked (asks qs) (asks rest)
        → cond b (asks (qs ++ rest)) q.number ≡ then_asked (cond b (asks qs) q.number) (asks rest)
    go true e = e
    go false e = sym (ap (λ (t : Bool). cond t (asks rest) q.number) (ne_eqb q.number 0 n.0))
