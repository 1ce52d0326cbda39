-- The loop that looks at the ranks from the first on and notes those that it has seen.
use Prim.Native.Nat.{ℕ, ◌+◌, ◌≤◌, ◌<◌}
use native.Mathlib.Numerals.{add-one}
use native.Mathlib.Omega.{arith}
use mathlib.Core.Path.{◌≡◌, refl, ap, ap₂, sym, ◌∙◌}
use mathlib.Core.Bool.{Bool, true, false, not, ◌&&◌, ◌||◌, or_assoc, or-false, and_assoc}
use mathlib.Core.List.{List, [], ◌∷◌, ◌++◌}
use lib.Dec.{eqb}
use lib.ListN.{length, get_or, take, drop, set, replicate, length-set, length-replicate, get_or-replicate}
use lib.Seq.{take_all, take-suc, length-take-le, get_or-set_same, get_or-set_other}
use borrow.Author.Tests.{eqb-true, eqb-false, eq-eqb, ne_eqb}
use Rattle.list.specs.Items.{all_zero}
use Rattle.model.specs.Questions.{between}
use Rattle.model.specs.Ranks.{among, each_once, ranking}
use Rattle.ranks.specs.Stored.{sound_ranks}

-- ---- one rank more behind others

among_more : (rs : List ℕ) (r k : ℕ) → among (rs ++ (r ∷ [])) k ≡ (among rs k || eqb k r)
unfolding among
among_more [] r k = or-false (eqb k r)
among_more (x ∷ rs) r k = ap (λ (b : Bool). eqb k x || b) (among_more rs r k) ∙ sym (or_assoc (eqb k x) (among rs k) (eqb k r))

turned : (x r : ℕ) → eqb x r ≡ eqb r x
turned x r = go (eqb r x) refl
  where
    go : (b : Bool) → eqb r x ≡ b → eqb x r ≡ b
    go true e = eq-eqb x r (sym (eqb-true r x e))
    go false e = ne_eqb x r (λ same. eqb-false r x e (sym same))

-- the tests of x, in front of the others, and those of r, behind them, in the other order
tests_turned : (bx ax q e br ar : Bool) → (bx && not (ax || q) && (e && br && not ar)) ≡ (bx && not ax && e && br && not (q || ar))
tests_turned false ax q e br ar = refl
tests_turned true true q e br ar = refl
tests_turned true false true false br ar = refl
tests_turned true false true true false ar = refl
tests_turned true false true true true ar = refl
tests_turned true false false e br ar = refl

once_more : (n : ℕ) (rs : List ℕ) (r : ℕ) → each_once n (rs ++ (r ∷ [])) ≡ (each_once n rs && between 1 n r && not (among rs r))
unfolding each_once among
once_more n [] r = go (between 1 n r)
  where
    go : (b : Bool) → (b && true && true) ≡ (true && b && true)
    go true = refl
    go false = refl
once_more n (x ∷ rs) r =
    ap₂ (λ (a e : Bool). between 1 n x && not a && e) (among_more rs r x) (once_more n rs r)
    ∙ tests_turned (between 1 n x) (among rs x) (eqb x r) (each_once n rs) (between 1 n r) (among rs r)
    ∙ ap (λ (q : Bool). between 1 n x && not (among rs x) && each_once n rs && between 1 n r && not (q || among rs r)) (turned x r)

-- ---- the loop

-- with the first i ranks looked at: which of the numbers below m were seen, and what was found
pub record Scan (n m : ℕ) (ranks : List ℕ) (seen : List Bool) (well : Bool) (i : ℕ) : Type 0 where
  pub size : length seen ≡ m
  pub noted : (k : ℕ) → k < m → get_or seen k false ≡ among (take i ranks) k
  pub found : well ≡ each_once n (take i ranks)

module _ (n m : ℕ) (ranks : List ℕ) where
  pub scan_start : Scan n m ranks (replicate m false) true 0
  unfolding among each_once
  scan_start = record { size = length-replicate m false; noted = λ k h. get_or-replicate m k false false h; found = refl }

  -- the numbers seen after a turn
  noting : (seen : List Bool) (rs : List ℕ) (r k : ℕ) → r < length seen → get_or seen k false ≡ among rs k
      → get_or (set seen r true) k false ≡ among (rs ++ (r ∷ [])) k
  noting seen rs r k h e = go (eqb k r) refl ∙ sym (among_more rs r k)
    where
      last : (a : Bool) → true ≡ (a || true)
      last true = refl
      last false = refl

      go : (b : Bool) → eqb k r ≡ b → get_or (set seen r true) k false ≡ (among rs k || b)
      go true q = ap (λ (j : ℕ). get_or (set seen r true) j false) (eqb-true k r q) ∙ get_or-set_same seen r true false h ∙ last (among rs k)
      go false q = get_or-set_other seen r k true false (eqb-false k r q) ∙ e ∙ sym (or-false (among rs k))

  pub scan_turn : (seen : List Bool) (well : Bool) (i : ℕ) → i < length ranks → get_or ranks i 0 < m → Scan n m ranks seen well i
      → Scan n m ranks (set seen (get_or ranks i 0) true) (well && (between 1 n (get_or ranks i 0) && not (get_or seen (get_or ranks i 0) false))) (i + 1)
  scan_turn seen well i some low s =
      let r = get_or ranks i 0 in
      let split : take i ranks ++ (r ∷ []) ≡ take (i + 1) ranks = sym (take-suc ranks i 0 some) ∙ ap (λ (j : ℕ). take j ranks) (sym (add-one i)) in
      record {
        size = length-set seen r true ∙ s.size;
        noted = λ k h. noting seen (take i ranks) r k (omega (arith, s.size)) (s.noted k h) ∙ ap (λ (l : List ℕ). among l k) split;
        found =
            ap₂ (λ (w b : Bool). w && (between 1 n r && not b)) s.found (s.noted r low)
            ∙ sym (and_assoc (each_once n (take i ranks)) (between 1 n r) (not (among (take i ranks) r)))
            ∙ sym (once_more n (take i ranks) r) ∙ ap (each_once n) split;
      }

  pub scan_end : (seen : List Bool) (well : Bool) (i : ℕ) → length ranks ≤ i → Scan n m ranks seen well i → well ≡ each_once n ranks
  scan_end seen well i h s = s.found ∙ ap (each_once n) (take_all i ranks h)

-- ---- question 2: the ranks of n lines in the first places, and nothing behind them

pub sound_parts : (n : ℕ) (ranks : List ℕ) (well none : Bool) → n ≤ length ranks → well ≡ each_once n (take n ranks) → none ≡ all_zero (drop n ranks)
    → (well && none) ≡ sound_ranks n ranks
unfolding ranking sound_ranks
sound_parts n ranks well none h e z =
    let count : eqb (length (take n ranks)) n ≡ true = eq-eqb (length (take n ranks)) n (length-take-le n ranks h) in
    ap₂ (λ (a b : Bool). a && b) e z ∙ ap (λ (b : Bool). b && each_once n (take n ranks) && all_zero (drop n ranks)) (sym count)
