-- The ranks of an end in its bytes, and the bytes of an end in parts with the ranks between its words.
use Prim.Native.Nat.{ℕ, ◌+◌, ◌*◌, ◌≤◌}
use native.Mathlib.Omega.{arith}
use mathlib.Core.Path.{◌≡◌, refl, ap, ap₂, sym, ◌∙◌}
use mathlib.Core.List.{List, [], ◌∷◌, ◌++◌, append_assoc}
use lib.ListN.{length, take, drop, length-drop, length-append, take-append-drop}
use lib.Seq.{take_at, drop_at, drop-drop, get_or-drop, length-take-le}
use Rattle.limits.specs.Limits.{max_lines}
use Rattle.c_layout.specs.Words.{low_first, word_at, words_by, words_of, bytes_of, put_at, Bytes}
use Rattle.c_layout.specs.Ranks.{ranks_in, ranked}
use Rattle.c_layout.proofs.Words.{bytes_length}
use Rattle.c_layout.proofs.Parts.{words_drop, read_front, written_front, bytes_append}

-- ---- an end that was written reads back

-- eight bytes are two words
eight_words : (ranks rest : List ℕ) → length ranks ≡ max_lines → words_of (ranks ++ rest) ≡ word_at low_first ranks 0 ∷ word_at low_first ranks 4 ∷ words_of rest
unfolding words_by
eight_words (a ∷ b ∷ c ∷ d ∷ e ∷ f ∷ g ∷ h ∷ []) rest z = refl
eight_words (a ∷ b ∷ c ∷ d ∷ e ∷ f ∷ g ∷ h ∷ i ∷ l) rest z = absurd (omega arith)
eight_words [] rest z = absurd (omega arith)
eight_words (a ∷ []) rest z = absurd (omega arith)
eight_words (a ∷ b ∷ []) rest z = absurd (omega arith)
eight_words (a ∷ b ∷ c ∷ []) rest z = absurd (omega arith)
eight_words (a ∷ b ∷ c ∷ d ∷ []) rest z = absurd (omega arith)
eight_words (a ∷ b ∷ c ∷ d ∷ e ∷ []) rest z = absurd (omega arith)
eight_words (a ∷ b ∷ c ∷ d ∷ e ∷ f ∷ []) rest z = absurd (omega arith)
eight_words (a ∷ b ∷ c ∷ d ∷ e ∷ f ∷ g ∷ []) rest z = absurd (omega arith)

module _ (a b c : ℕ) (ranks ws rest : List ℕ) (eight : length ranks ≡ max_lines) where
  abbrev first : List ℕ
  first = a ∷ b ∷ c ∷ []

  grouped : ranked first ranks ws ++ rest ≡ bytes_of first ++ (ranks ++ (bytes_of ws ++ rest))
  grouped =
      append_assoc (bytes_of first) (ranks ++ bytes_of ws) rest ∙ ap (λ (l : List ℕ). bytes_of first ++ l) (append_assoc ranks (bytes_of ws) rest)

  pub ranked_words : words_of (ranked first ranks ws ++ rest) ≡ a ∷ b ∷ c ∷ word_at low_first ranks 0 ∷ word_at low_first ranks 4 ∷ (ws ++ words_of rest)
  ranked_words =
      ap words_of grouped ∙ read_front first (ranks ++ (bytes_of ws ++ rest))
      ∙ ap (λ (l : List ℕ). first ++ l)
      (eight_words ranks (bytes_of ws ++ rest) eight
      ∙ ap (λ (l : List ℕ). word_at low_first ranks 0 ∷ word_at low_first ranks 4 ∷ l) (read_front ws rest))

  pub ranked_ranks : ranks_in (ranked first ranks ws ++ rest) ≡ ranks
  unfolding bytes_of
  ranked_ranks = ap ranks_in grouped ∙ take_at ranks (bytes_of ws ++ rest) max_lines eight

  pub ranked_length : length (ranked first ranks ws) ≡ 20 + 4 * length ws
  ranked_length =
      omega
      (arith, length-append (bytes_of first) (ranks ++ bytes_of ws), bytes_length first, length-append ranks (bytes_of ws), bytes_length ws)

-- ---- bytes that were read are written back

pub ranked_again : (n size : ℕ) (first ws s : List ℕ) → size ≡ 20 + 4 * n → size ≤ length s → Bytes s → first ≡ take 3 (words_of s)
    → ws ≡ take n (drop 5 (words_of s)) → ranked first (ranks_in s) ws ++ drop size s ≡ s
ranked_again n size first ws s e long b ef ew =
    let front : bytes_of first ++ drop 12 s ≡ s = ap (λ (l : List ℕ). bytes_of l ++ drop 12 s) ef ∙ written_front 3 12 s refl (omega arith) b in
    let far : drop size s ≡ drop (4 * n) (drop 20 s) = ap (λ (k : ℕ). drop k s) (let k : size ≡ 20 + 4 * n = e in k) ∙ sym (drop-drop (4 * n) 20 s) in
    let behind : bytes_of ws ++ drop size s ≡ drop 20 s =
    ap₂ (λ (l r : List ℕ). bytes_of l ++ r) (ew ∙ ap (take n) (sym (words_drop low_first 5 s))) far
    ∙ written_front n (4 * n) (drop 20 s) refl (omega (arith, length-drop 20 s)) (λ i. let at = get_or-drop 20 s i 0 in rw at (b (20 + i))) in
    let eight : ranks_in s ++ drop 20 s ≡ drop 12 s = ap (λ (l : List ℕ). ranks_in s ++ l) (sym (drop-drop 8 12 s)) ∙ take-append-drop 8 (drop 12 s) in
    append_assoc (bytes_of first) (ranks_in s ++ bytes_of ws) (drop size s)
    ∙ ap (λ (l : List ℕ). bytes_of first ++ l)
    (append_assoc (ranks_in s) (bytes_of ws) (drop size s) ∙ ap (λ (l : List ℕ). ranks_in s ++ l) behind ∙ eight)
    ∙ front

-- ---- writing

-- the numbers are written with room for the ranks, and then the ranks
pub numbers_written : (at a b c x y : ℕ) (ns ranks s b₁ b₂ : List ℕ) → length ranks ≡ max_lines → at ≡ 20 + 4 * length ns
    → b₁ ≡ put_at 0 (bytes_of (a ∷ b ∷ c ∷ x ∷ y ∷ ns)) s → b₂ ≡ put_at 12 ranks b₁ → b₂ ≡ ranked (a ∷ b ∷ c ∷ []) ranks ns ++ drop at s
unfolding bytes_of
numbers_written at a b c x y ns ranks s b₁ b₂ eight e e₁ e₂ =
    let plain : List ℕ = bytes_of (a ∷ b ∷ c ∷ x ∷ y ∷ ns) in
    let all : 0 + length plain ≡ at = omega (arith, bytes_length (a ∷ b ∷ c ∷ x ∷ y ∷ ns)) in
    let far : 12 + length ranks ≡ 20 = omega arith in
    e₂ ∙ ap (put_at 12 ranks) (e₁ ∙ ap (λ (k : ℕ). plain ++ drop k s) all)
    ∙ ap (λ (k : ℕ). bytes_of (a ∷ b ∷ c ∷ []) ++ (ranks ++ drop k (plain ++ drop at s))) far
    ∙ sym (grouped a b c ranks ns (drop at s) eight)

-- they are written in front of words
pub words_behind : (size at : ℕ) (first ranks ns ws s b : List ℕ) → size ≡ at + 4 * length ws → size ≤ length s → b ≡ put_at at (bytes_of ws) s
    → ranked first ranks ns ++ drop at b ≡ ranked first ranks (ns ++ ws) ++ drop size s
words_behind size at first ranks ns ws s b e h eb =
    let far : at + length (bytes_of ws) ≡ size = omega (arith, bytes_length ws) in
    let behind : drop at b ≡ bytes_of ws ++ drop size s =
    ap (drop at) eb ∙ drop_at (take at s) (bytes_of ws ++ drop (at + length (bytes_of ws)) s) at (length-take-le at s (omega arith))
    ∙ ap (λ (k : ℕ). bytes_of ws ++ drop k s) far in
    let joined : ranked first ranks ns ++ bytes_of ws ≡ ranked first ranks (ns ++ ws) =
    append_assoc (bytes_of first) (ranks ++ bytes_of ns) (bytes_of ws)
    ∙ ap (λ (l : List ℕ). bytes_of first ++ l)
    (append_assoc ranks (bytes_of ns) (bytes_of ws) ∙ ap (λ (l : List ℕ). ranks ++ l) (sym (bytes_append ns ws))) in
    ap (λ (l : List ℕ). ranked first ranks ns ++ l) behind ∙ sym (append_assoc (ranked first ranks ns) (bytes_of ws) (drop size s))
    ∙ ap (λ (l : List ℕ). l ++ drop size s) joined
