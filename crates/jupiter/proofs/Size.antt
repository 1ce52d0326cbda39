-- How large a list can be: the list at a set has at most as many items as the opening list and the set's inserts together.
use Prim.Native.Nat.{ℕ, zero, suc, ◌+◌, ◌*◌, ◌≤◌, suc-le-suc, zero-le}
use native.Mathlib.Nat.{le_refl}
use native.Mathlib.Omega.{arith}
use mathlib.Core.Path.{◌≡◌, refl, sym, ap, ◌∙◌, subst}
use mathlib.Core.Logic.{◌≢◌}
use mathlib.Core.Bool.{Bool, true, false, cond, true≢false}
use lib.Dec.{eqb}
use mathlib.Core.List.{List, [], ◌∷◌, ◌++◌}
use lib.ListN.{length}
use Rattle.jupiter.specs.Algebra.{Algebra, Laws}
use Rattle.jupiter.specs.Made.{Made, select, reject, is_by, mine, others}
use Rattle.jupiter.specs.Form.{Last, all_inside, outside, last_outside, form_by, form_in, form, grown, list_at}
use Rattle.jupiter.specs.Point.{enter, firsts, point}
use Rattle.jupiter.specs.Claims.{inserts, SizeBound}
use Rattle.jupiter.proofs.Lists.{All}
use Rattle.jupiter.proofs.Grid.{eqb_eq, eqb_same, eqb_differ}

module _ {𝓐 : Algebra} where
  form_in_grows : Laws 𝓐 → (n : ℕ) (e : Made 𝓐) (C : List (Made 𝓐)) → 𝓐.grows (form_in n e C) ≡ 𝓐.grows e.edit
  unfolding form_in form_by
  form_in_grows laws zero e C = refl
  form_in_grows laws (suc n) e C = go (last_outside e.context C) (λ C'. form_in_grows laws n e C')
    where
      go : (x : Last 𝓐) → ((C' : List (Made 𝓐)) → 𝓐.grows (form_in n e C') ≡ 𝓐.grows e.edit)
          → 𝓐.grows (form_by (λ e' C'. form_in n e' C') e x) ≡ 𝓐.grows e.edit
      go all_inside ih = refl
      go (outside before z after) ih = laws.keeps_growth _ _ ∙ ih (before ++ after)

  pub form_grows : Laws 𝓐 → (e : Made 𝓐) (C : List (Made 𝓐)) → 𝓐.grows (form e C) ≡ 𝓐.grows e.edit
  unfolding form
  form_grows laws e C = form_in_grows laws (length C) e C

  grown_size : Laws 𝓐 → (before es : List (Made 𝓐)) (d : 𝓐.Doc) → 𝓐.size (grown before es d) ≤ 𝓐.size d + inserts es
  unfolding grown inserts
  grown_size laws before [] d = omega arith
  grown_size laws before (e ∷ es) d =
      let here = laws.size_apply (form e before) d in
      let less = form_grows laws e before in
      let rest = grown_size laws (before ++ (e ∷ [])) es (𝓐.apply (form e before) d) in
      omega arith

  pub size_bound : Laws 𝓐 → SizeBound 𝓐
  unfolding list_at
  size_bound laws d C = grown_size laws [] C d

  pub inserts_append : (xs ys : List (Made 𝓐)) → inserts (xs ++ ys) ≡ inserts xs + inserts ys
  unfolding inserts
  inserts_append [] ys = omega arith
  inserts_append (x ∷ xs) ys = let ih = inserts_append xs ys in omega arith

  -- the inserts of line l and those of the others
  pub inserts_lines : (l : ℕ) (xs : List (Made 𝓐)) → inserts xs ≡ inserts (mine l xs) + inserts (others l xs)
  unfolding inserts select reject
  inserts_lines l [] = refl
  inserts_lines l (x ∷ xs) = go (is_by l x) (inserts_lines l xs)
    where
      go : (b : Bool) → inserts xs ≡ inserts (mine l xs) + inserts (others l xs)
          → 𝓐.grows x.edit + inserts xs ≡ inserts (cond b (x ∷ mine l xs) (mine l xs)) + inserts (cond b (others l xs) (x ∷ others l xs))
      go true ih = omega arith
      go false ih = omega arith

  -- a point has no more inserts than the whole order
  pub inserts_point : (l : ℕ) (xs : List (Made 𝓐)) (i j : ℕ) → inserts (point l xs i j) ≤ inserts xs
  unfolding inserts firsts enter
  inserts_point l [] i j = le_refl _
  inserts_point l (x ∷ xs) i j = go (is_by l x) i j (λ i j. inserts_point l xs i j)
    where
      go : (b : Bool) (i j : ℕ) → ((i j : ℕ) → inserts (point l xs i j) ≤ inserts xs) → inserts (enter x b i j (λ i' j'. point l xs i' j')) ≤ 𝓐.grows x.edit + inserts xs
      go true zero j ih = let k = ih 0 j in omega arith
      go true (suc i) j ih = let k = ih i j in omega arith
      go false i zero ih = let k = ih i 0 in omega arith
      go false i (suc j) ih = let k = ih i j in omega arith

-- ---- inserts of lines 1 to n

-- f 1 + .. + f n
pub sum_to : (ℕ → ℕ) → ℕ → ℕ
sum_to f zero = 0
sum_to f (suc n) = sum_to f n + f (suc n)

pub sum_to_bound : (f : ℕ → ℕ) (b : ℕ) (n : ℕ) → ((k : ℕ) → 1 ≤ k → k ≤ n → f k ≤ b) → sum_to f n ≤ n * b
unfolding sum_to
sum_to_bound f b zero h = zero-le
sum_to_bound f b (suc n) h =
    let here = h (suc n) (suc-le-suc zero-le) (le_refl _) in
    let rest = sum_to_bound f b n (λ k x y. h k x (omega arith)) in
    omega arith

-- one summand more by g
sum_to_same : (f g : ℕ → ℕ) (n : ℕ) → ((k : ℕ) → k ≤ n → f k ≡ g k) → sum_to f n ≡ sum_to g n
unfolding sum_to
sum_to_same f g zero h = refl
sum_to_same f g (suc n) h =
    let a = sum_to_same f g n (λ k le. h k (omega arith)) in
    let b = h (suc n) (le_refl _) in
    omega arith

sum_to_more : (f g : ℕ → ℕ) (j x n : ℕ) → 1 ≤ j → j ≤ n → g j ≡ x + f j → ((k : ℕ) → k ≢ j → g k ≡ f k) → sum_to g n ≡ x + sum_to f n
unfolding sum_to
sum_to_more f g j x zero a b e h = absurd (omega arith)
sum_to_more f g j x (suc n) a b e h = go (eqb j (suc n)) refl (λ le. sum_to_more f g j x n a le e h)
  where
    go : (c : Bool) → eqb j (suc n) ≡ c → (j ≤ n → sum_to g n ≡ x + sum_to f n) → sum_to g n + g (suc n) ≡ x + (sum_to f n + f (suc n))
    go true q ih =
        let j_is = eqb_eq j (suc n) q in
        let low : sum_to g n ≡ sum_to f n = sum_to_same g f n (λ k le. h k (λ r. absurd (omega arith))) in
        let top : g (suc n) ≡ x + f (suc n) = subst (λ i. g i ≡ x + f i) j_is e in
        omega arith
    go false q ih =
        let ne : j ≢ suc n = λ r. true≢false (sym (eqb_same j) ∙ ap (eqb j) r ∙ q) in
        let low = ih (omega arith) in
        let top = h (suc n) (λ r. ne (sym r)) in
        omega arith

module _ {𝓐 : Algebra} where
  -- edits of lines 1 to n alone: their inserts are those of each line, added up
  pub inserts_total : (n : ℕ) (xs : List (Made 𝓐)) → All (λ e. (1 ≤ e.name.line) × (e.name.line ≤ n)) xs → inserts xs ≡ sum_to (λ k. inserts (mine k xs)) n
  unfolding inserts select sum_to
  inserts_total n [] h = sym (zeros n)
    where
      zeros : (n : ℕ) → sum_to (λ k. 0) n ≡ 0
      zeros zero = refl
      zeros (suc n) = let z = zeros n in omega arith
  inserts_total n (x ∷ xs) h =
      let ih = inserts_total n xs h.1 in
      let more = sum_to_more (λ k. inserts (mine k xs)) (λ k. inserts (mine k (x ∷ xs))) x.name.line (𝓐.grows x.edit) n h.0.0 h.0.1
      (ap (λ b. inserts (cond b (x ∷ mine x.name.line xs) (mine x.name.line xs))) (eqb_same x.name.line))
      (λ k ne. ap (λ b. inserts (cond b (x ∷ mine k xs) (mine k xs))) (eqb_differ k x.name.line ne)) in
      ap (λ r. 𝓐.grows x.edit + r) ih ∙ sym more
