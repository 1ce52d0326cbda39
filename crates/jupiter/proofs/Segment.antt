-- A stretch of values f s, f (s + 1), .. up to and not with f e; and an edit that goes past such a stretch.
use Prim.Native.Nat.{ℕ, zero, suc, ◌+◌, ◌-◌, ◌≤◌, ◌<◌}
use native.Mathlib.Nat.{le_of_suc-le-suc, not-suc-le-zero, sub_self, le_refl, add-zero}
use native.Mathlib.Omega.{arith}
use mathlib.Core.Path.{◌≡◌, refl, sym, ap, ◌∙◌, subst}
use mathlib.Core.List.{List, [], ◌∷◌, ◌++◌}
use lib.ListN.{length, get_or, drop}
use Rattle.jupiter.specs.Algebra.{Algebra}
use Rattle.jupiter.specs.Ends.{past, over}

module _ {A : Type 0} where
  up_from : (ℕ → A) → ℕ → ℕ → List A
  up_from f s zero = []
  up_from f s (suc n) = f s ∷ up_from f (suc s) n

  pub segment : (ℕ → A) → ℕ → ℕ → List A
  segment f s e = up_from f s (e - s)

  up_from_cong : (f g : ℕ → A) (s n : ℕ) → ((k : ℕ) → s ≤ k → k < s + n → f k ≡ g k) → up_from f s n ≡ up_from g s n
  unfolding up_from
  up_from_cong f g s zero h = refl
  up_from_cong f g s (suc n) h =
      let x : f s ≡ g s = h s (le_refl s) (omega arith) in
      let y : up_from f (suc s) n ≡ up_from g (suc s) n = up_from_cong f g (suc s) n (λ k a b. h k (omega arith) (omega arith)) in
      rw (x, y) refl

  up_from_snoc : (f : ℕ → A) (s n : ℕ) → up_from f s n ++ (f (s + n) ∷ []) ≡ up_from f s (suc n)
  unfolding up_from
  up_from_snoc f s zero = rw (add-zero s) refl
  up_from_snoc f s (suc n) =
      let e : s + suc n ≡ suc s + n = omega arith in
      rw e (ap {B = List A} (λ r. f s ∷ r) (up_from_snoc f (suc s) n))

  up_from_length : (f : ℕ → A) (s n : ℕ) → length (up_from f s n) ≡ n
  unfolding up_from
  up_from_length f s zero = refl
  up_from_length f s (suc n) = ap suc (up_from_length f (suc s) n)

  up_from_get : (f : ℕ → A) (d : A) (s n k : ℕ) → k < n → get_or (up_from f s n) k d ≡ f (s + k)
  unfolding up_from
  up_from_get f d s zero k h = absurd (not-suc-le-zero h)
  up_from_get f d s (suc n) zero h = ap f (sym (add-zero s))
  up_from_get f d s (suc n) (suc k) h = up_from_get f d (suc s) n k (le_of_suc-le-suc h) ∙ ap f (omega arith)

  up_from_drop : (f : ℕ → A) (s n k : ℕ) → k ≤ n → drop k (up_from f s n) ≡ up_from f (s + k) (n - k)
  unfolding up_from
  up_from_drop f s n zero h =
      let a : s + 0 ≡ s = omega arith in
      let b : n - 0 ≡ n = omega arith in
      rw (a, b) refl
  up_from_drop f s zero (suc k) h = absurd (not-suc-le-zero h)
  up_from_drop f s (suc n) (suc k) h =
      let a : s + suc k ≡ suc s + k = omega arith in
      let b : suc n - suc k ≡ n - k = omega arith in
      rw (a, b) (up_from_drop f (suc s) n k (le_of_suc-le-suc h))

  pub segment_cong : (f g : ℕ → A) (s e : ℕ) → ((k : ℕ) → s ≤ k → k < e → f k ≡ g k) → segment f s e ≡ segment g s e
  unfolding segment
  segment_cong f g s e h = up_from_cong f g s (e - s) (λ k a b. h k a (omega arith))

  pub segment_snoc : (f : ℕ → A) (s e : ℕ) → s ≤ e → segment f s e ++ (f e ∷ []) ≡ segment f s (suc e)
  unfolding segment
  segment_snoc f s e h =
      let a : e ≡ s + (e - s) = omega arith in
      let b : suc e - s ≡ suc (e - s) = omega arith in
      rw b (subst (λ x. up_from f s (e - s) ++ (f x ∷ []) ≡ up_from f s (suc (e - s))) (sym a) (up_from_snoc f s (e - s)))

  pub segment_length : (f : ℕ → A) (s e : ℕ) → length (segment f s e) ≡ e - s
  unfolding segment
  segment_length f s e = up_from_length f s (e - s)

  pub segment_get : (f : ℕ → A) (d : A) (s e k : ℕ) → s ≤ k → k < e → get_or (segment f s e) (k - s) d ≡ f k
  unfolding segment
  segment_get f d s e k h g =
      let a : k - s < e - s = omega arith in
      up_from_get f d s (e - s) (k - s) a ∙ ap f (omega arith)

  pub segment_drop : (f : ℕ → A) (s e k : ℕ) → s ≤ k → k ≤ e → drop (k - s) (segment f s e) ≡ segment f k e
  unfolding segment
  segment_drop f s e k h g =
      let a : s + (k - s) ≡ k = omega arith in
      let b : e - s - (k - s) ≡ e - k = omega arith in
      let c : k - s ≤ e - s = omega arith in
      up_from_drop f s (e - s) (k - s) c ∙ rw (a, b) refl

  pub segment_none : (f : ℕ → A) (s : ℕ) → segment f s s ≡ []
  unfolding segment up_from
  segment_none f s = rw (sub_self s) refl

-- An edit that goes past a row of edits, one cell of the grid after the other: a j is the edit when it has passed b up to and not with b j,
-- and b' j is b j past it.
module _ (𝓐 : Algebra) (a b b' : ℕ → 𝓐.Edit) where
  past_from : (s n : ℕ) → ((j : ℕ) → s ≤ j → j < s + n → a (suc j) ≡ 𝓐.transform (a j) (b j)) → past 𝓐 (a s) (up_from b s n) ≡ a (s + n)
  unfolding past up_from
  past_from s zero h = ap a (sym (add-zero s))
  past_from s (suc n) h =
      let e : 𝓐.transform (a s) (b s) ≡ a (suc s) = sym (h s (le_refl s) (omega arith)) in
      ap (λ x. past 𝓐 x (up_from b (suc s) n)) e ∙ past_from (suc s) n (λ j x y. h j (omega arith) (omega arith)) ∙ ap a (omega arith)

  over_from : (s n : ℕ) → ((j : ℕ) → s ≤ j → j < s + n → a (suc j) ≡ 𝓐.transform (a j) (b j))
      → ((j : ℕ) → s ≤ j → j < s + n → b' j ≡ 𝓐.transform (b j) (a j)) → over 𝓐 (a s) (up_from b s n) ≡ up_from b' s n
  unfolding over up_from
  over_from s zero h g = refl
  over_from s (suc n) h g =
      let e : 𝓐.transform (a s) (b s) ≡ a (suc s) = sym (h s (le_refl s) (omega arith)) in
      let f : 𝓐.transform (b s) (a s) ≡ b' s = sym (g s (le_refl s) (omega arith)) in
      let rest : over 𝓐 (a (suc s)) (up_from b (suc s) n) ≡ up_from b' (suc s) n =
      over_from (suc s) n (λ j x y. h j (omega arith) (omega arith)) (λ j x y. g j (omega arith) (omega arith)) in
      let first : over 𝓐 (a s) (b s ∷ up_from b (suc s) n) ≡ b' s ∷ over 𝓐 (a (suc s)) (up_from b (suc s) n) =
      ap {B = List 𝓐.Edit} (λ x. x ∷ over 𝓐 (𝓐.transform (a s) (b s)) (up_from b (suc s) n)) f
      ∙ ap {B = List 𝓐.Edit} (λ x. b' s ∷ over 𝓐 x (up_from b (suc s) n)) e in
      first ∙ ap {B = List 𝓐.Edit} (λ r. b' s ∷ r) rest

  pub past_segment : (s e : ℕ) → s ≤ e → ((j : ℕ) → s ≤ j → j < e → a (suc j) ≡ 𝓐.transform (a j) (b j)) → past 𝓐 (a s) (segment b s e) ≡ a e
  unfolding segment
  past_segment s e le h = past_from s (e - s) (λ j x y. h j x (omega arith)) ∙ ap a (omega arith)

  pub over_segment : (s e : ℕ) → s ≤ e → ((j : ℕ) → s ≤ j → j < e → a (suc j) ≡ 𝓐.transform (a j) (b j))
      → ((j : ℕ) → s ≤ j → j < e → b' j ≡ 𝓐.transform (b j) (a j)) → over 𝓐 (a s) (segment b s e) ≡ segment b' s e
  unfolding segment
  over_segment s e le h g = over_from s (e - s) (λ j x y. h j x (omega arith)) (λ j x y. g j x (omega arith))
