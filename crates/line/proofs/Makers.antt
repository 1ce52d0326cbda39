-- The origins that the server keeps beside a line's pending edits: what the loops compute, and what question 2 says of them.
use Prim.Native.Nat.{ℕ, zero, suc, ◌+◌, ◌≤◌, ◌<◌}
use native.Mathlib.Nat.{zero-add, div-add-mod', mod-lt}
use native.Mathlib.Omega.{arith}
use mathlib.Core.Path.{◌≡◌, refl, ap, ap₂, ◌∙◌, sym}
use mathlib.Core.Bool.{Bool, true, false, not, ◌&&◌}
use mathlib.Core.List.{List, [], ◌∷◌, map}
use lib.Dec.{eqb, lit<}
use lib.ListN.{length, get_or, take, drop, length-map, get_or-eq_default}
use lib.Seq.{drop-cons, get_or-take}
use Rattle.limits.specs.Limits.{max_pending, max_edits}
use Rattle.list.specs.declared.Origin.{Origin}
use Rattle.list.specs.Items.{padded, all_zero}
use Rattle.list.specs.Places.{word_of, origin_at}
use Rattle.list.proofs.Items.{zero_end, padded_of, padded_zero}
use Rattle.list.proofs.Pad.{pad_length, pad_take}
use Rattle.list.proofs.Places.{words_of_at, origin_at_of}
use Rattle.model.specs.Questions.{between}
use Rattle.model.specs.Line.{other}
use Rattle.model.specs.Server.{other_maker, other_makers}
use Rattle.model.proofs.Tests.{both, and_left, and_right, between_true}
use Rattle.pending.specs.Slots.{all_from}
use Rattle.line.specs.Sound.{maker_at, makers_sound}
use Rattle.line.proofs.All.{all_each, all_same}

-- ---- what the code computes

module _ (n line : ℕ) (words : List ℕ) (count : ℕ) (long : length words ≡ max_pending) where
  -- a word past the last would be the origin of an edit
  pub makers_many : max_pending < count → false ≡ makers_sound n line count words
  unfolding makers_sound
  makers_many h = go (all_from (maker_at n line words) 0 count) refl
    where
      past : get_or words (0 + max_pending) 0 ≡ 0
      past = get_or-eq_default words 0 (omega arith)

      go : (b : Bool) → all_from (maker_at n line words) 0 count ≡ b → false ≡ (b && all_zero (drop count words))
      go false e = refl
      go true e =
          sym (ap (λ (w : ℕ). other_maker n line (origin_at w)) past) ∙ all_each (maker_at n line words) 0 count e max_pending h
          ∙ zero_end words count true (omega arith)

  -- the loop over the words in use, and the words behind them
  pub makers_parted : (used unused : Bool) → count ≤ max_pending → used ≡ all_from (maker_at n line (take count words)) 0 count
      → unused ≡ all_zero (drop count words) → (used && unused) ≡ makers_sound n line count words
  unfolding makers_sound
  makers_parted used unused few eu ez =
      ap₂ (λ (a b : Bool). a && b)
      (eu
      ∙ all_same (maker_at n line (take count words)) (maker_at n line words) 0 count
      (λ i h. ap (λ (w : ℕ). other_maker n line (origin_at w)) (get_or-take count words (0 + i) 0 (omega arith))))
      ez

-- ---- as the model has them

others_from : (n line : ℕ) (words : List ℕ) (from count : ℕ) → from + count ≤ length words
    → all_from (maker_at n line words) from count ≡ other_makers n line (map origin_at (take count (drop from words)))
unfolding all_from other_makers
others_from n line words from zero h = refl
others_from n line words from (suc count) h =
    ap (λ (b : Bool). maker_at n line words from && b) (others_from n line words (suc from) count (omega arith))
    ∙ ap (λ (l : List ℕ). other_makers n line (map origin_at (take (suc count) l))) (sym (drop-cons words from 0 (omega arith)))

pub makers_are : (n line count : ℕ) (words : List ℕ) → count ≤ length words
    → makers_sound n line count words ≡ (other_makers n line (map origin_at (take count words)) && all_zero (drop count words))
unfolding makers_sound
makers_are n line count words h = ap (λ (b : Bool). b && all_zero (drop count words)) (others_from n line words 0 count (omega arith))

-- a word in use is an origin: its line has 8 bits
pub maker_small : (n line count : ℕ) (words : List ℕ) → n ≤ 255 → makers_sound n line count words ≡ true → (i : ℕ) → i < count → get_or words i 0 < 16777216
unfolding makers_sound
maker_small n line count words most h i k =
    let o : Origin = origin_at (get_or words i 0) in
    let t : other_maker n line o ≡ true =
    ap (maker_at n line words) (sym (zero-add i))
    ∙ all_each (maker_at n line words) 0 count (and_left (all_from (maker_at n line words) 0 count) (all_zero (drop count words)) h) i k in
    let b = between_true 1 n o.line (and_left (between 1 n o.line) (not (eqb o.line line)) (and_left (other n line o.line) (between 1 max_edits o.number) t)) in
    let small : o.number < 65536 = mod-lt (get_or words i 0) (lit< tt) in
    omega (arith, b, div-add-mod' (get_or words i 0) 65536)

-- the words of a line that passed, by its origins
pub makers_whole : (count : ℕ) (words : List ℕ) → length words ≡ max_pending → count ≤ max_pending → all_zero (drop count words) ≡ true
    → words ≡ padded 0 max_pending (map word_of (map origin_at (take count words)))
makers_whole count words long few z = padded_of max_pending words count long few z ∙ ap (padded 0 max_pending) (sym (words_of_at (take count words)))

-- ---- origins of the model, stored

words_back : (n line : ℕ) (os : List Origin) → other_makers n line os ≡ true → map origin_at (map word_of os) ≡ os
unfolding other_makers
words_back n line [] h = refl
words_back n line (o ∷ os) h =
    let t = and_left (other_maker n line o) (other_makers n line os) h in
    let b = between_true 1 max_edits o.number (and_right (other n line o.line) (between 1 max_edits o.number) t) in
    ap₂ (λ (x : Origin) (l : List Origin). x ∷ l) (origin_at_of o (omega (arith, b)))
    (words_back n line os (and_right (other_maker n line o) (other_makers n line os) h))

module _ (n line : ℕ) (os : List Origin) (right : other_makers n line os ≡ true) where
  abbrev words : List ℕ
  words = padded 0 max_pending (map word_of os)

  long : length (map word_of os) ≡ length os
  long = length-map os word_of

  pub makers_back : map origin_at (take (length os) (padded 0 max_pending (map word_of os))) ≡ os
  makers_back =
      ap (λ (k : ℕ). map origin_at (take k words)) (sym long) ∙ ap (map origin_at) (pad_take max_pending 0 (map word_of os)) ∙ words_back n line os right

  pub makers_stored : length os ≤ max_pending → makers_sound n line (length os) (padded 0 max_pending (map word_of os)) ≡ true
  makers_stored few =
      makers_are n line (length os) words (omega (arith, long, pad_length max_pending 0 (map word_of os) (omega (arith, long))))
      ∙ both (other_makers n line (map origin_at (take (length os) words))) (all_zero (drop (length os) words)) (ap (other_makers n line) makers_back ∙ right)
      (ap (λ (k : ℕ). all_zero (drop k words)) (sym long) ∙ padded_zero max_pending (map word_of os))
