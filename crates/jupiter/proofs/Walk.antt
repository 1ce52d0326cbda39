-- From a good point to any later good point there is a way over good points, one edit at a time.
use Prim.Native.Nat.{ℕ, zero, suc, ◌+◌, ◌-◌, ◌≤◌, ◌<◌}
use native.Mathlib.Nat.{le_trans}
use native.Mathlib.Omega.{arith}
use mathlib.Core.Path.{◌≡◌, refl, sym, ◌∙◌, subst}
use mathlib.Core.Logic.{◌⊎◌, inl, inr}
use mathlib.Core.Bool.{Bool, true, false, true≢false}
use mathlib.Core.List.{List}
use lib.Dec.{ltb}
use lib.ListN.{length}
use Rattle.jupiter.specs.Algebra.{Algebra}
use Rattle.jupiter.specs.Made.{Made, mine, others}
use Rattle.jupiter.specs.Point.{own}
use Rattle.jupiter.proofs.Grid.{ltb_true, ltb_lt, below_suc, seen_of, lag_of, Contexts, Good}

pub order_of_lem : (a b : ℕ) → (a < b) ⊎ (b ≤ a)
order_of_lem a b = go (ltb a b) refl
  where
    go : (x : Bool) → ltb a b ≡ x → (a < b) ⊎ (b ≤ a)
    go true e = inl (ltb_lt a b e)
    go false e = inr (let k : ¬ (a < b) = λ lt. true≢false (sym (ltb_true a b lt) ∙ e) in omega arith)

module _ {𝓐 : Algebra} (l : ℕ) (w : List (Made 𝓐)) (contexts : Contexts l w) where
  pub good_own : (i j : ℕ) → Good l w i j → i < length (mine l w) → seen_of (own l w i) ≤ j → Good l w (suc i) j
  good_own i j g lt s =
      record { own_le = lt; oth_le = g.oth_le; lags = λ k h. le_trans (g.lags k h) (omega arith); seens = λ k h. go k (below_suc k i h) }
    where
      go : (k : ℕ) → (k < i) ⊎ (k ≡ i) → seen_of (own l w k) ≤ j
      go k (inl h) = g.seens k h
      go k (inr e) = subst (λ n. seen_of (own l w n) ≤ j) (sym e) s

  pub good_oth : (i j : ℕ) → Good l w i j → j < length (others l w) → lag_of l w j ≤ i → Good l w i (suc j)
  good_oth i j g lt s =
      record { own_le = g.own_le; oth_le = lt; lags = λ k h. go k (below_suc k j h); seens = λ k h. le_trans (g.seens k h) (omega arith) }
    where
      go : (k : ℕ) → (k < j) ⊎ (k ≡ j) → lag_of l w k ≤ i
      go k (inl h) = g.lags k h
      go k (inr e) = subst (λ n. lag_of l w n ≤ i) (sym e) s

  -- A property that single good steps keep holds at every later good point. Where the client's next edit knows of an edit that is not in
  -- yet, that edit goes first, and it may: it was served behind edits of the client that are in.
  module _ (P : ℕ → ℕ → Type 0) (fo : (i j : ℕ) → Good l w i j → i < length (mine l w) → seen_of (own l w i) ≤ j → P i j → P (suc i) j)
      (fg : (i j : ℕ) → Good l w i j → j < length (others l w) → lag_of l w j ≤ i → P i j → P i (suc j)) (i' j' : ℕ) (g' : Good l w i' j') where
    one_step : (i j : ℕ) → Good l w i j → i ≤ i' → j ≤ j' → ((i < i') ⊎ (j < j')) → P i j → (i < i' → Good l w (suc i) j → P (suc i) j → P i' j')
        → (j < j' → Good l w i (suc j) → P i (suc j) → P i' j') → P i' j'
    one_step i j g ii jj some p rec_own rec_oth = choose (order_of_lem i i') (order_of_lem j (seen_of (own l w i)))
      where
        by_oth : lag_of l w j ≤ i → j < j' → P i' j'
        by_oth la lt =
            let jn : j < length (others l w) = le_trans lt g'.oth_le in
            rec_oth lt (good_oth i j g jn la) (fg i j g jn la p)

        behind : (i < i') ⊎ (j < j') → i' ≤ i → j < j'
        behind (inl lt) le = absurd (omega arith)
        behind (inr lt) le = lt

        choose : (i < i') ⊎ (i' ≤ i) → (j < seen_of (own l w i)) ⊎ (seen_of (own l w i) ≤ j) → P i' j'
        choose (inl lt) (inr s) =
            let im : i < length (mine l w) = le_trans lt g'.own_le in
            rec_own lt (good_own i j g im s) (fo i j g im s p)
        choose (inl lt) (inl s) =
            let jj' : j < j' = le_trans s (g'.seens i lt) in
            by_oth (contexts.causal i j (le_trans lt g'.own_le) (le_trans jj' g'.oth_le) s) jj'
        choose (inr le) (inl s) = by_oth (le_trans (g'.lags j (behind some le)) le) (behind some le)
        choose (inr le) (inr s) = by_oth (le_trans (g'.lags j (behind some le)) le) (behind some le)

    steps : (n i j : ℕ) → Good l w i j → i ≤ i' → j ≤ j' → (i' - i) + (j' - j) ≡ n → P i j → P i' j'
    steps zero i j g ii jj e p =
        let a : i ≡ i' = omega arith in
        let b : j ≡ j' = omega arith in
        subst (λ x. P x j') a (subst (P i) b p)
    steps (suc n) i j g ii jj e p =
        one_step i j g ii jj (some (order_of_lem i i')) p (λ lt g₁ p₁. steps n (suc i) j g₁ lt jj (omega arith) p₁) (λ lt g₁ p₁. steps n i (suc j) g₁ ii lt (omega arith) p₁)
      where
        some : (i < i') ⊎ (i' ≤ i) → (i < i') ⊎ (j < j')
        some (inl lt) = inl lt
        some (inr le) = inr (omega arith)

    pub walk : (i j : ℕ) → Good l w i j → i ≤ i' → j ≤ j' → P i j → P i' j'
    walk i j g ii jj p = steps ((i' - i) + (j' - j)) i j g ii jj refl p
