-- The questions of a taking that the server asks itself: 4, 10 and 12.
use Prim.Native.Nat.{ℕ, zero, suc, ◌+◌, ◌-◌, ◌≤◌, ◌<◌}
use native.Mathlib.Nat.{zero-add}
use native.Mathlib.Omega.{arith}
use mathlib.Core.Path.{◌≡◌, refl, ap, sym, ◌∙◌}
use mathlib.Core.Bool.{Bool, true, ◌&&◌, ◌||◌}
use mathlib.Core.List.{List, map}
use lib.Dec.{ltb, eqb}
use lib.ListN.{take}
use borrow.Author.Tests.{ltb-true, eq-eqb, ne_eqb}
use Rattle.limits.specs.Limits.{max_pending}
use Rattle.model.specs.Questions.{every, between}
use Rattle.model.specs.Ranks.{rank_of}
use Rattle.model.specs.Line as line
use Rattle.model.specs.Server as model
use Rattle.model.proofs.Tests.{and_left, and_right, between_true}
use Rattle.ranks.proofs.Laws.{take_rank}
use Rattle.pending.specs.Slots.{all_from}
use Rattle.line.proofs.All.{all_each}
use Rattle.line.specs.declared.taking.Arrival.{Arrival}
use Rattle.server.specs.declared.Counts.{Counts}
use Rattle.server.specs.View.{counts_at, lines_from}
use Rattle.server.specs.Decides.{is_own, made_here, up_to, roomy_at}

-- ---- question 4

pub up_line : (k : Counts) (a : Arrival) → up_to k a ≡ true → (1 ≤ a.line) × (a.line ≤ k.n)
up_line k a u =
    let up : Bool = eqb a.direction 0 in
    let used : Bool = between 1 k.n a.line in
    let own : Bool = is_own (rank_of k.ranks a.line) a.form in
    between_true 1 k.n a.line (and_right up used (and_left (up && used) own (and_left (up && used && own) (made_here a) u)))

-- a line in use has the rank that is stored for it
pub own_rank_lem : (k : Counts) (l : ℕ) → between 1 k.n l ≡ true → rank_of (take k.n k.ranks) l ≡ rank_of k.ranks l
own_rank_lem k l t = let b = between_true 1 k.n l t in take_rank k.n k.ranks l b.0 b.1

-- ---- question 12: every line but one

-- what it says of a line
pub roomy_each : (k : Counts) (at : ℕ) → all_from (roomy_at k at) 0 k.n ≡ true → (i : ℕ) → i < k.n → (i ≡ at → ⊥)
    → (counts_at k i).made - (counts_at k i).acked < max_pending
roomy_each k at a i h n =
    let room : ℕ = (counts_at k i).made - (counts_at k i).acked in
    ltb-true room max_pending
    (sym (ap (λ (b : Bool). b || ltb room max_pending) (ne_eqb i at n))
    ∙ ap (roomy_at k at) (sym (zero-add i)) ∙ all_each (roomy_at k at) 0 k.n a i h)

module _ (k : Counts) (words : List ℕ) where
  abbrev room : ℕ → Bool
  room i = ltb ((counts_at k i).made - (counts_at k i).acked) max_pending

  past_it : (at i count : ℕ) → at < i → all_from (roomy_at k at) i count ≡ every (map line.roomy (lines_from k words i count))
  unfolding all_from lines_from
  past_it at i zero h = refl
  past_it at i (suc count) h =
      ap (λ (b : Bool). (b || room i) && all_from (roomy_at k at) (suc i) count) (ne_eqb i at (λ e. omega arith))
      ∙ ap (λ (b : Bool). room i && b) (past_it at (suc i) count (omega arith))

  up_to_lem : (at i count : ℕ) → all_from (roomy_at k (i + at)) i count ≡ model.others_roomy at (lines_from k words i count)
  unfolding all_from lines_from model.others_roomy
  up_to_lem at i zero = refl
  up_to_lem zero i (suc count) =
      ap (λ (b : Bool). (b || room i) && all_from (roomy_at k (i + 0)) (suc i) count) (eq-eqb i (i + 0) (omega arith))
      ∙ past_it (i + 0) (suc i) count (omega arith)
  up_to_lem (suc at) i (suc count) =
      let e : i + suc at ≡ suc i + at = omega arith in
      ap (λ (b : Bool). (b || room i) && all_from (roomy_at k (i + suc at)) (suc i) count) (ne_eqb i (i + suc at) (λ z. omega arith))
      ∙ ap (λ (n : ℕ). room i && all_from (roomy_at k n) (suc i) count) e
      ∙ ap (λ (b : Bool). room i && b) (up_to_lem at (suc i) count)

  -- it is the model's
  pub roomy_model : (at n : ℕ) → all_from (roomy_at k at) 0 n ≡ model.others_roomy at (lines_from k words 0 n)
  roomy_model at n = ap (λ (a : ℕ). all_from (roomy_at k a) 0 n) (sym (zero-add at)) ∙ up_to_lem at 0 n
