-- A ranking: each of lines 1 to n has a rank of 1 to n, and no two have the same.
use mathlib.Core.Path.{◌≡◌, refl, ap, sym, ◌∙◌}
use mathlib.Core.Bool.{Bool, true, false, not, ◌||◌, cond}
use mathlib.Core.List.{List, [], ◌∷◌}
use Prim.Native.Nat.{ℕ, zero, suc, ◌+◌, ◌-◌, ◌≤◌, ◌<◌}
use native.Mathlib.Omega.{arith}
use lib.Dec.{eqb}
use lib.ListN.{length, get_or}
use borrow.Author.Tests.{eqb-true, eq-eqb, ne_eqb}
use Rattle.model.specs.Questions.{between}
use Rattle.model.specs.Ranks.{rank_of, among, each_once, ranking, count_from, line_ranks}
use Rattle.model.specs.Edits.{any_rank}
use Rattle.model.proofs.Tests.{never, both, three, and_left, and_right, between_true, true_between}

-- question 16 as facts
pub record Ranking (n : ℕ) (ranks : List ℕ) : Type 0 where
  pub count : length ranks ≡ n
  pub each : (l : ℕ) → 1 ≤ l → l ≤ n → (1 ≤ rank_of ranks l) × (rank_of ranks l ≤ n)
  pub apart : (l k : ℕ) → 1 ≤ l → l ≤ n → 1 ≤ k → k ≤ n → (l ≡ k → ⊥) → rank_of ranks l ≡ rank_of ranks k → ⊥

not_or : (a b : Bool) → not (a || b) ≡ true → (a ≡ true → ⊥) × (not b ≡ true)
not_or true b e = never e
not_or false b e = (λ z. never z, e)

not_among : (rs : List ℕ) (r : ℕ) → not (among rs r) ≡ true → (i : ℕ) → i < length rs → r ≡ get_or rs i 0 → ⊥
unfolding among
not_among [] r a i lt e = omega arith
not_among (k ∷ ks) r a zero lt e = (not_or (eqb r k) (among ks r) a).0 (eq-eqb r k e)
not_among (k ∷ ks) r a (suc i) lt e = not_among ks r (not_or (eqb r k) (among ks r) a).1 i (omega arith) e

-- the first of them, and the rest
record Once (n r : ℕ) (rs : List ℕ) : Type 0 where
  low : 1 ≤ r
  high : r ≤ n
  alone : (i : ℕ) → i < length rs → r ≡ get_or rs i 0 → ⊥
  rest : each_once n rs ≡ true

once : (n r : ℕ) (rs : List ℕ) → each_once n (r ∷ rs) ≡ true → Once n r rs
unfolding each_once
once n r rs a =
    let t = three _ _ _ a in
    let in_it = between_true 1 n r t.0 in
    record { low = in_it.0; high = in_it.1; alone = not_among rs r t.1; rest = t.2 }

once_in : (n : ℕ) (rs : List ℕ) → each_once n rs ≡ true → (i : ℕ) → i < length rs → (1 ≤ get_or rs i 0) × (get_or rs i 0 ≤ n)
once_in n [] a i lt = absurd (omega arith)
once_in n (r ∷ rs) a zero lt = ((once n r rs a).low, (once n r rs a).high)
once_in n (r ∷ rs) a (suc i) lt = once_in n rs (once n r rs a).rest i (omega arith)

once_apart : (n : ℕ) (rs : List ℕ) → each_once n rs ≡ true → (i j : ℕ) → i < length rs → j < length rs → (i ≡ j → ⊥) → get_or rs i 0 ≡ get_or rs j 0 → ⊥
once_apart n [] a i j lt lt' d e = omega arith
once_apart n (r ∷ rs) a zero zero lt lt' d e = d refl
once_apart n (r ∷ rs) a zero (suc j) lt lt' d e = (once n r rs a).alone j (omega arith) e
once_apart n (r ∷ rs) a (suc i) zero lt lt' d e = (once n r rs a).alone i (omega arith) (sym e)
once_apart n (r ∷ rs) a (suc i) (suc j) lt lt' d e = once_apart n rs (once n r rs a).rest i j (omega arith) (omega arith) (λ z. d (ap suc z)) e

pub ranking_facts : (n : ℕ) (ranks : List ℕ) → ranking n ranks ≡ true → Ranking n ranks
unfolding ranking
ranking_facts n ranks a =
    let count : length ranks ≡ n = eqb-true (length ranks) n (and_left (eqb (length ranks) n) (each_once n ranks) a) in
    let each = and_right (eqb (length ranks) n) (each_once n ranks) a in
    record {
      count = count;
      each = λ l lo hi. once_in n ranks each (l - 1) (omega arith);
      apart = λ l k lo hi lo' hi' d e. once_apart n ranks each (l - 1) (k - 1) (omega arith) (omega arith) (λ z. d (omega arith)) e;
    }

-- ---- every number as a line

pub any_rank_lem : {n : ℕ} {ranks : List ℕ} → Ranking n ranks → (l : ℕ) → 1 ≤ l → l ≤ n → any_rank ranks l ≡ rank_of ranks l
any_rank_lem {n} {ranks} f l lo hi = rw (true_between 1 (length ranks) l lo (omega (arith, f.count)))

pub any_apart : {n : ℕ} {ranks : List ℕ} → Ranking n ranks → (l k : ℕ) → (l ≡ k → ⊥) → any_rank ranks l ≡ any_rank ranks k → ⊥
any_apart {n} {ranks} f l k d = go (between 1 (length ranks) l) (between 1 (length ranks) k) refl refl
  where
    outside : (i j : ℕ) → between 1 (length ranks) i ≡ true → between 1 (length ranks) j ≡ false → rank_of ranks i ≡ j → ⊥
    outside i j a b e =
        let in_it = between_true 1 (length ranks) i a in
        let r = f.each i in_it.0 (omega (arith, f.count)) in
        never (sym b ∙ true_between 1 (length ranks) j (omega arith) (omega (arith, f.count)))

    go : (a b : Bool) → between 1 (length ranks) l ≡ a → between 1 (length ranks) k ≡ b → cond a (rank_of ranks l) l ≡ cond b (rank_of ranks k) k → ⊥
    go true true p q e =
        let x = between_true 1 (length ranks) l p in
        let y = between_true 1 (length ranks) k q in
        f.apart l k x.0 (omega (arith, f.count)) y.0 (omega (arith, f.count)) d e
    go true false p q e = outside l k p q e
    go false true p q e = outside k l q p (sym e)
    go false false p q e = d e

-- ---- line numbers as ranks

count_length : (l k : ℕ) → length (count_from l k) ≡ k
count_length l zero = refl
count_length l (suc k) = ap suc (count_length (suc l) k)

count_past : (l k r : ℕ) → r < l → not (among (count_from l k) r) ≡ true
unfolding among
count_past l zero r lt = refl
count_past l (suc k) r lt = rw (ne_eqb r l (λ z. omega arith)) (count_past (suc l) k r (omega arith))

count_once : (n l k : ℕ) → 1 ≤ l → l + k ≤ suc n → each_once n (count_from l k) ≡ true
unfolding each_once
count_once n l zero lo hi = refl
count_once n l (suc k) lo hi = rw (true_between 1 n l lo (omega arith), count_past (suc l) k l (omega arith)) (count_once n (suc l) k (omega arith) (omega arith))

pub line_ranking : (n : ℕ) → ranking n (line_ranks n) ≡ true
unfolding ranking
line_ranking n = both (eqb (length (line_ranks n)) n) (each_once n (line_ranks n)) (eq-eqb (length (line_ranks n)) n (count_length 1 n)) (count_once n 1 n (omega arith) (omega arith))
