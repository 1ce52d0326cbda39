-- A test of each of some numbers: what a loop computes, and what it says of each.
use Prim.Native.Nat.{ℕ, zero, suc, ◌+◌, ◌-◌, ◌≤◌, ◌<◌}
use native.Mathlib.Nat.{le_of_suc-le-suc, not-suc-le-zero, suc-add, zero-add}
use native.Mathlib.Numerals.{add-one}
use native.Mathlib.Omega.{arith}
use mathlib.Core.Path.{◌≡◌, refl, ap, ap₂, ◌∙◌, sym}
use mathlib.Core.Bool.{Bool, true, false, ◌&&◌, and-true, and_assoc}
use mathlib.Core.List.{List}
use lib.Dec.{eqb}
use lib.ListN.{length, get_or, drop, drop_of_length-le}
use lib.Seq.{drop-cons}
use Rattle.list.specs.Items.{all_zero}
use Rattle.model.proofs.Tests.{both, and_left, and_right}
use Rattle.pending.specs.Slots.{all_from}

module _ (test : ℕ → Bool) where
  -- One turn of a loop: what was found so far, with what is still to be looked at, stays the same.
  pub all_turn : (i to : ℕ) (flag t : Bool) → i < to → t ≡ test i → ((flag && t) && all_from test (i + 1) (to - (i + 1))) ≡ (flag && all_from test i (to - i))
  unfolding all_from
  all_turn i to flag t h e =
      let more : suc (to - (i + 1)) ≡ to - i = omega arith in
      and_assoc flag t (all_from test (i + 1) (to - (i + 1)))
      ∙ ap (λ (b : Bool). flag && (b && all_from test (i + 1) (to - (i + 1)))) e
      ∙ ap (λ (k : ℕ). flag && (test i && all_from test k (to - (i + 1)))) (add-one i)
      ∙ ap (λ (k : ℕ). flag && all_from test i k) more

  pub all_end : (i to : ℕ) (flag : Bool) → to ≤ i → flag ≡ (flag && all_from test i (to - i))
  unfolding all_from
  all_end i to flag h =
      let none' : 0 ≡ to - i = omega arith in
      sym (and-true flag) ∙ ap (λ (k : ℕ). flag && all_from test i k) none'

  pub all_start : (to : ℕ) → all_from test 0 (to - 0) ≡ all_from test 0 to
  all_start to =
      let all : to - 0 ≡ to = omega arith in
      ap (all_from test 0) all

  -- the first so many, and the rest
  pub all_split : (from count rest : ℕ) → all_from test from (count + rest) ≡ (all_from test from count && all_from test (from + count) rest)
  unfolding all_from
  all_split from zero rest =
      let e : from ≡ from + 0 = omega arith in
      ap (all_from test from) (zero-add rest) ∙ ap (λ (k : ℕ). all_from test k rest) e
  all_split from (suc count) rest =
      let e : suc from + count ≡ from + suc count = omega arith in
      ap (all_from test from) (suc-add count rest)
      ∙ ap (λ (b : Bool). test from && b)
      (all_split (suc from) count rest ∙ ap (λ (k : ℕ). all_from test (suc from) count && all_from test k rest) e)
      ∙ sym (and_assoc (test from) (all_from test (suc from) count) (all_from test (from + suc count) rest))

  pub all_each : (from count : ℕ) → all_from test from count ≡ true → (i : ℕ) → i < count → test (from + i) ≡ true
  unfolding all_from
  all_each from zero a i h = absurd (not-suc-le-zero h)
  all_each from (suc count) a zero h =
      let e : from + 0 ≡ from = omega arith in
      ap test e ∙ and_left (test from) (all_from test (suc from) count) a
  all_each from (suc count) a (suc i) h =
      let e : from + suc i ≡ suc from + i = omega arith in
      ap test e ∙ all_each (suc from) count (and_right (test from) (all_from test (suc from) count) a) i (le_of_suc-le-suc h)

  pub each_all : (from count : ℕ) → ((i : ℕ) → i < count → test (from + i) ≡ true) → all_from test from count ≡ true
  unfolding all_from
  each_all from zero f = refl
  each_all from (suc count) f =
      both (test from) (all_from test (suc from) count)
      (let e : from ≡ from + 0 = omega arith in
      ap test e ∙ f 0 (omega arith))
      (each_all (suc from) count
      (λ i h.
      let e : suc from + i ≡ from + suc i = omega arith in
      ap test e ∙ f (suc i) (omega arith)))

-- two tests that say the same of those numbers
pub all_same : (s t : ℕ → Bool) (from count : ℕ) → ((i : ℕ) → i < count → s (from + i) ≡ t (from + i)) → all_from s from count ≡ all_from t from count
unfolding all_from
all_same s t from zero f = refl
all_same s t from (suc count) f =
    ap₂ (λ (a b : Bool). a && b)
    (let e : from ≡ from + 0 = omega arith in
    ap s e ∙ f 0 (omega arith) ∙ ap t (sym e))
    (all_same s t (suc from) count
    (λ i h.
    let e : suc from + i ≡ from + suc i = omega arith in
    ap s e ∙ f (suc i) (omega arith) ∙ ap t (sym e)))

-- two tests of the same numbers
pub all_both : (s t : ℕ → Bool) (from count : ℕ) → all_from (λ i. s i && t i) from count ≡ (all_from s from count && all_from t from count)
unfolding all_from
all_both s t from zero = refl
all_both s t from (suc count) =
    ap (λ (b : Bool). (s from && t from) && b) (all_both s t (suc from) count)
    ∙ cross (s from) (t from) (all_from s (suc from) count) (all_from t (suc from) count)
  where
    cross : (a b c d : Bool) → ((a && b) && (c && d)) ≡ ((a && c) && (b && d))
    cross false b c d = refl
    cross true false false d = refl
    cross true false true d = refl
    cross true true c d = refl

-- the same numbers counted from k on
pub all_shifted : (test : ℕ → Bool) (k from count : ℕ) → all_from (λ i. test (k + i)) from count ≡ all_from test (k + from) count
unfolding all_from
all_shifted test k from zero = refl
all_shifted test k from (suc count) =
    let e : k + suc from ≡ suc (k + from) = omega arith in
    ap (λ (b : Bool). test (k + from) && b) (all_shifted test k (suc from) count ∙ ap (λ (j : ℕ). all_from test j count) e)

-- words that are zero, by their indices
abbrev pub is_zero : List ℕ → ℕ → Bool
is_zero words i = eqb (get_or words i 0) 0

pub all_zeros : (words : List ℕ) (from count : ℕ) → from + count ≡ length words → all_zero (drop from words) ≡ all_from (is_zero words) from count
unfolding all_zero all_from
all_zeros words from zero e = ap all_zero (drop_of_length-le words {i = from} (omega arith))
all_zeros words from (suc count) e =
    ap all_zero (drop-cons words from 0 (omega arith)) ∙ ap (λ (b : Bool). is_zero words from && b) (all_zeros words (suc from) count (omega arith))

-- a test of all numbers below n, as one of the first so many and another of those behind them
pub all_parted : (test first rest : ℕ → Bool) (few n : ℕ) → few ≤ n → ((i : ℕ) → i < few → test i ≡ first i)
    → ((i : ℕ) → few ≤ i → i < n → test i ≡ rest i)
    → all_from test 0 n ≡ (all_from first 0 few && all_from rest few (n - few))
all_parted test first rest few n most f r =
    let all : n ≡ few + (n - few) = omega arith in
    ap (all_from test 0) all ∙ all_split test 0 few (n - few)
    ∙ ap₂ (λ (a b : Bool). a && b)
    (all_same test first 0 few (λ i h. ap test (zero-add i) ∙ f i h ∙ ap first (sym (zero-add i))))
    (ap (λ (k : ℕ). all_from test k (n - few)) (zero-add few)
    ∙ all_same test rest few (n - few) (λ i h. r (few + i) (omega arith) (omega arith)))
