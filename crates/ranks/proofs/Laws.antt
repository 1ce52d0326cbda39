-- What the ends know of ranks: a ranking stored in the places of an end and read back, and places that passed question 2. What a ranking
-- says of each line is model's `Ranking`.
use Prim.Native.Nat.{ℕ, zero, suc, ◌+◌, ◌-◌, ◌≤◌, ◌<◌}
use native.Mathlib.Omega.{arith}
use mathlib.Core.Path.{◌≡◌, ap, sym, ◌∙◌}
use mathlib.Core.Bool.{true}
use mathlib.Core.List.{List}
use lib.ListN.{length, get_or, take, drop, replicate, length-take, length-drop}
use lib.Seq.{take_all, get_or-take}
use Rattle.limits.specs.Limits.{max_lines}
use Rattle.list.specs.Items.{padded, all_zero}
use Rattle.list.proofs.Items.{zeros, all_zero_lem}
use Rattle.list.proofs.Pad.{pad_get_or, pad_length, pad_take, pad_drop, pad_of}
use Rattle.model.specs.Ranks.{rank_of, ranking, count_from, line_ranks}
use Rattle.model.proofs.Tests.{both, and_left, and_right}
pub use Rattle.model.proofs.Ranks.{Ranking, ranking_facts, line_ranking}
use Rattle.ranks.specs.Stored.{stored, sound_ranks}

-- ---- line numbers as ranks

count_at : (l k i : ℕ) → i < k → get_or (count_from l k) i 0 ≡ l + i
count_at l zero i h = absurd (omega arith)
count_at l (suc k) zero h = omega arith
count_at l (suc k) (suc i) h = count_at (suc l) k i (omega arith) ∙ (let e : suc l + i ≡ l + suc i = omega arith in e)

pub line_rank : (n l : ℕ) → 1 ≤ l → l ≤ n → rank_of (line_ranks n) l ≡ l
line_rank n l lo hi = count_at 1 n (l - 1) (omega arith) ∙ (let e : 1 + (l - 1) ≡ l = omega arith in e)

-- ---- any ranks, stored

cut : (ranks : List ℕ) → length (take max_lines ranks) ≤ max_lines
cut ranks = omega (arith, length-take max_lines ranks)

pub stored_length : (ranks : List ℕ) → length (stored ranks) ≡ max_lines
stored_length ranks = pad_length max_lines 0 (take max_lines ranks) (cut ranks)

-- ---- a ranking, stored

pub ranking_length : (n : ℕ) (ranks : List ℕ) → ranking n ranks ≡ true → length ranks ≡ n
ranking_length n ranks ok = (ranking_facts n ranks ok).count

module _ (n : ℕ) (ranks : List ℕ) (room : n ≤ max_lines) (ok : ranking n ranks ≡ true) where
  long : length ranks ≡ n
  long = ranking_length n ranks ok

  -- nothing is cut
  whole : take max_lines ranks ≡ ranks
  whole = take_all max_lines ranks (omega (arith, long))

  pub stored_padded : stored ranks ≡ padded 0 max_lines ranks
  stored_padded = ap (padded 0 max_lines) whole

  pub stored_take : take n (stored ranks) ≡ ranks
  stored_take = ap (take n) stored_padded ∙ ap (λ (k : ℕ). take k (padded 0 max_lines ranks)) (sym long) ∙ pad_take max_lines 0 ranks

  pub stored_drop : drop n (stored ranks) ≡ replicate (max_lines - n) 0
  stored_drop = ap (drop n) stored_padded ∙ pad_drop max_lines 0 ranks n (omega (arith, long))

  pub stored_rank : (l : ℕ) → rank_of (stored ranks) l ≡ rank_of ranks l
  stored_rank l = ap (λ (p : List ℕ). rank_of p l) stored_padded ∙ pad_get_or max_lines 0 ranks (l - 1)

  pub stored_sound : sound_ranks n (stored ranks) ≡ true
  unfolding sound_ranks
  stored_sound =
      both (ranking n (take n (stored ranks))) (all_zero (drop n (stored ranks))) (ap (ranking n) stored_take ∙ ok)
      (ap all_zero stored_drop ∙ all_zero_lem (max_lines - n))

-- ---- places that passed question 2

pub take_rank : (n : ℕ) (places : List ℕ) (l : ℕ) → 1 ≤ l → l ≤ n → rank_of (take n places) l ≡ rank_of places l
take_rank n places l lo hi = get_or-take n places (l - 1) 0 (omega arith)

module _ (n : ℕ) (places : List ℕ) (ok : sound_ranks n places ≡ true) where
  pub sound_ranking : ranking n (take n places) ≡ true
  unfolding sound_ranks
  sound_ranking = and_left (ranking n (take n places)) (all_zero (drop n places)) ok

  pub sound_zero : all_zero (drop n places) ≡ true
  unfolding sound_ranks
  sound_zero = and_right (ranking n (take n places)) (all_zero (drop n places)) ok

  pub sound_facts : Ranking n (take n places)
  sound_facts = ranking_facts n (take n places) sound_ranking

  pub sound_each : (l : ℕ) → 1 ≤ l → l ≤ n → (1 ≤ rank_of places l) × (rank_of places l ≤ n)
  sound_each l lo hi = rw (take_rank n places l lo hi) at (sound_facts.each l lo hi)

  pub sound_apart : (l k : ℕ) → 1 ≤ l → l ≤ n → 1 ≤ k → k ≤ n → (l ≡ k → ⊥) → rank_of places l ≡ rank_of places k → ⊥
  sound_apart l k lo hi lo' hi' d e = sound_facts.apart l k lo hi lo' hi' d (take_rank n places l lo hi ∙ e ∙ sym (take_rank n places k lo' hi'))

  pub sound_stored : length places ≡ max_lines → n ≤ max_lines → places ≡ stored (take n places)
  sound_stored size room =
      let rest : length (drop n places) ≡ max_lines - n = length-drop n places ∙ ap (λ (k : ℕ). k - n) size in
      pad_of max_lines 0 places n size room (zeros (drop n places) sound_zero ∙ ap (λ (k : ℕ). replicate k 0) rest)
      ∙ sym (stored_padded n (take n places) room sound_ranking)
