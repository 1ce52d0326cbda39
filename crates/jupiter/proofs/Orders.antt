-- One order on the lists of a line's grid: two origins that stand on the lists at two good points stand in the same order there, as they do at the
-- last point that both have behind them.
use Prim.Native.Nat.{ℕ, suc, ◌≤◌, ◌<◌}
use native.Mathlib.Nat.{le_refl, le_trans}
use native.Mathlib.Omega.{arith}
use mathlib.Core.Path.{◌≡◌, refl, sym, ◌∙◌, subst}
use mathlib.Core.Logic.{◌≢◌, ◌⊎◌, inl, inr}
use mathlib.Core.Bool.{true}
use Rattle.jupiter.specs.Name.{Name, holds}
use Rattle.jupiter.specs.Algebra.{Algebra}
use Rattle.jupiter.specs.History.{History}
use Rattle.jupiter.specs.Origins.{Effect, Origins}
use Rattle.jupiter.specs.Orders.{before, SameOrder}
use Rattle.jupiter.proofs.Walk.{order_of_lem, walk}
use Rattle.jupiter.proofs.Names.{Stepped, held_before, order_after}
use Rattle.jupiter.proofs.Standing.{Moment, w, grid, GoodAt, list, In, first, ours, theirs, in_more, own_differ, oth_differ, own_oth_differ, new_own, new_oth, known_at, own_step, oth_step}

-- the lesser of two numbers
pub record Least (a b : ℕ) : Type 0 where
  pub is : ℕ
  pub left : is ≤ a
  pub right : is ≤ b
  pub most : (c : ℕ) → c ≤ a → c ≤ b → c ≤ is

pub least : (a b : ℕ) → Least a b
least a b = go (order_of_lem a b)
  where
    go : (a < b) ⊎ (b ≤ a) → Least a b
    go (inl h) = record { is = a; left = le_refl a; right = omega arith; most = λ c x y. x }
    go (inr h) = record { is = b; left = h; right = le_refl b; most = λ c x y. y }

module _ {𝓐 : Algebra} {𝓞 : Origins 𝓐} {d : 𝓐.Doc} {h : History 𝓐} (m : Moment 𝓞 d h) (l : ℕ) where
  -- ---- from one good point to a later one
  module _ (i₀ j₀ : ℕ) (good₀ : GoodAt m l i₀ j₀) (i₁ j₁ : ℕ) (good₁ : GoodAt m l i₁ j₁) (ii : i₀ ≤ i₁) (jj : j₀ ≤ j₁) where
    -- every step on the way brings a name that is not in the earlier point
    on_the_way : (P : ℕ → ℕ → Type 0)
        → ((i j i' j' : ℕ) (x : Name) (f : Effect) → Stepped x f (list m l i j) (list m l i' j') → ((o : Name) → In m l i₀ j₀ o → o ≢ x) → P i j → P i' j') → P i₀ j₀ → P i₁ j₁
    on_the_way P next p =
        (walk l (w m l) (grid m l).contexts (λ i j. (i₀ ≤ i) × (j₀ ≤ j) × P i j)
        (λ i j good hi seen q. (
          omega (arith, q.0),
          q.1,
          next i j (suc i) j _ _ (own_step m l i j good hi seen) (λ o k e. new_own m l i j hi (subst (In m l i j) e (in_more m l i₀ j₀ i j o q.0 q.1 k))) q.2,
        ))
        (λ i j good hj lag q. (
          q.0,
          omega (arith, q.1),
          next i j i (suc j) _ _ (oth_step m l i j good hj lag) (λ o k e. new_oth m l i j hj (subst (In m l i j) e (in_more m l i₀ j₀ i j o q.0 q.1 k))) q.2,
        ))
        i₁ j₁ good₁ i₀ j₀ good₀ ii jj (le_refl _, le_refl _, p)).2

    -- one step back
    held_then : (i j i' j' : ℕ) (x : Name) (f : Effect) → Stepped x f (list m l i j) (list m l i' j') → (o : Name) → o ≢ x → holds (list m l i' j') o ≡ true → holds (list m l i j) o ≡ true
    held_then i j i' j' x f step o ne t = go (held_before x f _ _ step o t)
      where
        go : (holds (list m l i j) o ≡ true) ⊎ (o ≡ x) → holds (list m l i j) o ≡ true
        go (inl t) = t
        go (inr e) = absurd (ne e)

    -- what was taken off does not come back
    pub back_then : (o : Name) → In m l i₀ j₀ o → holds (list m l i₁ j₁) o ≡ true → holds (list m l i₀ j₀) o ≡ true
    back_then o k =
        on_the_way (λ i j. holds (list m l i j) o ≡ true → holds (list m l i₀ j₀) o ≡ true)
        (λ i j i' j' x f step new p t. p (held_then i j i' j' x f step o (new o k) t)) (λ t. t)

    pub same_then : (a b : Name) → In m l i₀ j₀ a → In m l i₀ j₀ b → holds (list m l i₁ j₁) a ≡ true → holds (list m l i₁ j₁) b ≡ true
        → before a b (list m l i₁ j₁) ≡ before a b (list m l i₀ j₀)
    same_then a b ka kb =
        on_the_way (λ i j. holds (list m l i j) a ≡ true → holds (list m l i j) b ≡ true → before a b (list m l i j) ≡ before a b (list m l i₀ j₀))
        (λ i j i' j' x f step new p ta tb.
        let sa = held_then i j i' j' x f step a (new a ka) ta in
        let sb = held_then i j i' j' x f step b (new b kb) tb in
        order_after x f _ _ step a b sa sb ta tb ∙ p sa sb)
        (λ ta tb. refl)

  -- ---- any two good points, by way of the point that both have behind them
  module _ (i₁ j₁ : ℕ) (good₁ : GoodAt m l i₁ j₁) (i₂ j₂ : ℕ) (good₂ : GoodAt m l i₂ j₂) (i : Least i₁ i₂) (j : Least j₁ j₂) where
    shared : GoodAt m l i.is j.is
    shared =
        record {
          own_le = le_trans i.left good₁.own_le;
          oth_le = le_trans j.left good₁.oth_le;
          lags = λ k lt. i.most _ (good₁.lags k (le_trans lt j.left)) (good₂.lags k (le_trans lt j.right));
          seens = λ k lt. j.most _ (good₁.seens k (le_trans lt i.left)) (good₂.seens k (le_trans lt i.right));
        }

    in_shared : (o : Name) → In m l i₁ j₁ o → In m l i₂ j₂ o → In m l i.is j.is o
    in_shared o (first e) b = first e
    in_shared o (ours k lt n e) (first f) = first f
    in_shared o (ours k lt n e) (ours k' lt' n' f) = ours k (i.most (suc k) lt (subst (λ x. x < i₂) (own_differ m l k' k n' n (sym f ∙ e)) lt')) n e
    in_shared o (ours k lt n e) (theirs k' lt' n' f) = absurd (own_oth_differ m l k k' n n' (sym e ∙ f))
    in_shared o (theirs k lt n e) (first f) = first f
    in_shared o (theirs k lt n e) (ours k' lt' n' f) = absurd (own_oth_differ m l k' k n' n (sym f ∙ e))
    in_shared o (theirs k lt n e) (theirs k' lt' n' f) = theirs k (j.most (suc k) lt (subst (λ x. x < j₂) (oth_differ m l k' k n' n (sym f ∙ e)) lt')) n e

    pub same_grid : SameOrder (list m l i₁ j₁) (list m l i₂ j₂)
    same_grid a b a₁ b₁ a₂ b₂ =
        let in_a = in_shared a ((known_at m l i₁ j₁ good₁).known a a₁) ((known_at m l i₂ j₂ good₂).known a a₂) in
        let in_b = in_shared b ((known_at m l i₁ j₁ good₁).known b b₁) ((known_at m l i₂ j₂ good₂).known b b₂) in
        same_then i.is j.is shared i₁ j₁ good₁ i.left j.left a b in_a in_b a₁ b₁
        ∙ sym (same_then i.is j.is shared i₂ j₂ good₂ i.right j.right a b in_a in_b a₂ b₂)
