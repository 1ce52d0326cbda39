-- Numbers in words: words too wide for their field, and the counts of lines.
use Prim.Native.Nat.{ℕ, zero, suc, ◌+◌, ◌*◌, ◌≤◌, ◌<◌}
use native.Mathlib.Omega.{arith}
use mathlib.Core.Path.{◌≡◌, refl, ap, ap₂, ◌∙◌}
use mathlib.Core.List.{List, [], ◌∷◌, ◌++◌, map}
use lib.ListN.{length, get_or, take}
use lib.Seq.{get_or-take}
use Rattle.line.specs.declared.Line.{Line}
use Rattle.c_layout.specs.Numbers.{capped, counted, capped_line, line_at, line_words, lines_at, lines_words}

-- ---- words too wide

-- a number that is below the widest, as it is or once it is read, is read as it is
pub in_field : (most x : ℕ) → x < most → capped most x ≡ x
in_field most x h = omega arith

pub was_in_field : (most x : ℕ) → capped most x < most → capped most x ≡ x
was_in_field most x h = omega arith

-- counts below the widest
pub record Small (v : Line) : Type 0 where
  pub made : v.made < 65535
  pub taken : v.taken < 65535
  pub acked : v.acked < 65535
  pub inserts : v.inserts < 65535

module _ (v : Line) where
  pub small_same : Small v → capped_line v ≡ v
  small_same h =
      let e₀ = in_field 65535 v.made h.made in
      let e₁ = in_field 65535 v.taken h.taken in
      let e₂ = in_field 65535 v.acked h.acked in
      let e₃ = in_field 65535 v.inserts h.inserts in
      λ i. counted (e₀ i) (e₁ i) (e₂ i) (e₃ i)

  pub small_was : Small (capped_line v) → capped_line v ≡ v
  small_was h =
      let e₀ = was_in_field 65535 v.made h.made in
      let e₁ = was_in_field 65535 v.taken h.taken in
      let e₂ = was_in_field 65535 v.acked h.acked in
      let e₃ = was_in_field 65535 v.inserts h.inserts in
      λ i. counted (e₀ i) (e₁ i) (e₂ i) (e₃ i)

module _ (d : Line) where
  pub all_same : (vs : List Line) → ((i : ℕ) → i < length vs → Small (get_or vs i d)) → map capped_line vs ≡ vs
  all_same [] h = refl
  all_same (v ∷ vs) h =
      ap₂ (λ (u : Line) (us : List Line). u ∷ us) (small_same v (h 0 (omega arith))) (all_same vs (λ i l. h (suc i) (omega arith)))

  pub all_was : (vs : List Line) → ((i : ℕ) → i < length vs → Small (get_or (map capped_line vs) i d)) → map capped_line vs ≡ vs
  all_was [] h = refl
  all_was (v ∷ vs) h =
      ap₂ (λ (u : Line) (us : List Line). u ∷ us) (small_was v (h 0 (omega arith))) (all_was vs (λ i l. h (suc i) (omega arith)))

-- ---- one line

-- counts as they were read
pub line_read : (ws : List ℕ) (at made taken acked inserts : ℕ) → made ≡ capped 65535 (get_or ws at 0) → taken ≡ capped 65535 (get_or ws (at + 1) 0)
    → acked ≡ capped 65535 (get_or ws (at + 2) 0) → inserts ≡ capped 65535 (get_or ws (at + 3) 0)
    → counted made taken acked inserts ≡ capped_line (line_at ws at)
line_read ws at made taken acked inserts e₀ e₁ e₂ e₃ = λ i. counted (e₀ i) (e₁ i) (e₂ i) (e₃ i)

-- ---- lines one behind the other

line_skip : (ws : List ℕ) (x at : ℕ) → line_at (x ∷ ws) (suc at) ≡ line_at ws at
line_skip ws x at =
    let g : (k : ℕ) → get_or (x ∷ ws) (suc at + k) 0 ≡ get_or ws (at + k) 0 =
    λ k. ap (λ (j : ℕ). get_or (x ∷ ws) j 0) (let e : suc at + k ≡ suc (at + k) = omega arith in e) in
    λ i. counted (get_or ws at 0) (g 1 i) (g 2 i) (g 3 i)

lines_skip : (ws : List ℕ) (x at n : ℕ) → lines_at (x ∷ ws) (suc at) n ≡ lines_at ws at n
unfolding lines_at
lines_skip ws x at zero = refl
lines_skip ws x at (suc n) =
    let e : suc at + 4 ≡ suc (at + 4) = omega arith in
    ap₂ (λ (v : Line) (l : List Line). v ∷ l) (line_skip ws x at) (ap (λ (k : ℕ). lines_at (x ∷ ws) k n) e ∙ lines_skip ws x (at + 4) n)

lines_next : (a b c d : ℕ) (ws : List ℕ) (n : ℕ) → lines_at (a ∷ b ∷ c ∷ d ∷ ws) 4 n ≡ lines_at ws 0 n
lines_next a b c d ws n =
    lines_skip (b ∷ c ∷ d ∷ ws) a 3 n ∙ lines_skip (c ∷ d ∷ ws) b 2 n ∙ lines_skip (d ∷ ws) c 1 n ∙ lines_skip ws d 0 n

-- behind the first five words
pub lines_behind : (a b c d e : ℕ) (ws : List ℕ) (n : ℕ) → lines_at (a ∷ b ∷ c ∷ d ∷ e ∷ ws) 5 n ≡ lines_at ws 0 n
lines_behind a b c d e ws n = lines_skip (b ∷ c ∷ d ∷ e ∷ ws) a 4 n ∙ lines_next b c d e ws n

pub lines_length : (ws : List ℕ) (at n : ℕ) → length (lines_at ws at n) ≡ n
unfolding lines_at
lines_length ws at zero = refl
lines_length ws at (suc n) = ap suc (lines_length ws (at + 4) n)

pub words_size : (vs : List Line) → length (lines_words vs) ≡ 4 * length vs
unfolding lines_words
words_size [] = refl
words_size (v ∷ vs) = omega (arith, words_size vs)

-- read back, whatever stands behind them
pub lines_again : (vs : List Line) (rest : List ℕ) → lines_at (lines_words vs ++ rest) 0 (length vs) ≡ vs
unfolding lines_at lines_words
lines_again [] rest = refl
lines_again (v ∷ vs) rest =
    ap (λ (l : List Line). v ∷ l) (lines_next v.made v.taken v.acked v.inserts (lines_words vs ++ rest) (length vs) ∙ lines_again vs rest)

-- and words of lines that were read
pub words_again : (ws : List ℕ) (n : ℕ) → 4 * n ≤ length ws → lines_words (lines_at ws 0 n) ≡ take (4 * n) ws
unfolding lines_at lines_words
words_again ws zero h = refl
words_again [] (suc n) h = absurd (omega arith)
words_again (a ∷ []) (suc n) h = absurd (omega arith)
words_again (a ∷ b ∷ []) (suc n) h = absurd (omega arith)
words_again (a ∷ b ∷ c ∷ []) (suc n) h = absurd (omega arith)
words_again (a ∷ b ∷ c ∷ d ∷ ws) (suc n) h =
    let four : suc (suc (suc (suc (4 * n)))) ≡ 4 * suc n = omega arith in
    ap (λ (l : List ℕ). a ∷ b ∷ c ∷ d ∷ l) (ap lines_words (lines_next a b c d ws n) ∙ words_again ws n (omega arith))
    ∙ ap (λ (k : ℕ). take k (a ∷ b ∷ c ∷ d ∷ ws)) four

-- the line at place i
pub line_of_lem : (ws : List ℕ) (at n i : ℕ) (d : Line) → i < n → get_or (lines_at ws at n) i d ≡ line_at ws (at + 4 * i)
unfolding lines_at
line_of_lem ws at zero i d h = absurd (omega arith)
line_of_lem ws at (suc n) zero d h =
    let e : at ≡ at + 4 * 0 = omega arith in
    ap (line_at ws) e
line_of_lem ws at (suc n) (suc i) d h =
    let e : at + 4 + 4 * i ≡ at + 4 * suc i = omega arith in
    line_of_lem ws (at + 4) n i d (omega arith) ∙ ap (line_at ws) e

-- lines of the first k words
pub line_front : (ws : List ℕ) (k at : ℕ) → at + 4 ≤ k → line_at (take k ws) at ≡ line_at ws at
line_front ws k at h =
    let e₀ : get_or (take k ws) at 0 ≡ get_or ws at 0 = get_or-take k ws at 0 (omega arith) in
    let e₁ : get_or (take k ws) (at + 1) 0 ≡ get_or ws (at + 1) 0 = get_or-take k ws (at + 1) 0 (omega arith) in
    let e₂ : get_or (take k ws) (at + 2) 0 ≡ get_or ws (at + 2) 0 = get_or-take k ws (at + 2) 0 (omega arith) in
    let e₃ : get_or (take k ws) (at + 3) 0 ≡ get_or ws (at + 3) 0 = get_or-take k ws (at + 3) 0 (omega arith) in
    λ i. counted (e₀ i) (e₁ i) (e₂ i) (e₃ i)

pub lines_front : (ws : List ℕ) (k at n : ℕ) → at + 4 * n ≤ k → lines_at (take k ws) at n ≡ lines_at ws at n
unfolding lines_at
lines_front ws k at zero h = refl
lines_front ws k at (suc n) h =
    ap₂ (λ (v : Line) (vs : List Line). v ∷ vs) (line_front ws k at (omega arith)) (lines_front ws k (at + 4) n (omega arith))

-- the words up to the line behind the one at place i
pub words_more : (vs : List Line) (i : ℕ) (d : Line) → i < length vs → take (4 * (i + 1)) (lines_words vs) ≡ take (4 * i) (lines_words vs) ++ line_words (get_or vs i d)
unfolding lines_words
words_more [] i d h = absurd (omega arith)
words_more (v ∷ vs) zero d h = refl
words_more (v ∷ vs) (suc i) d h =
    let l : List ℕ = line_words v ++ lines_words vs in
    let e : 4 * (suc i + 1) ≡ suc (suc (suc (suc (4 * (i + 1))))) = omega arith in
    let e' : suc (suc (suc (suc (4 * i)))) ≡ 4 * suc i = omega arith in
    ap (λ (k : ℕ). take k l) e
    ∙ ap (λ (t : List ℕ). v.made ∷ v.taken ∷ v.acked ∷ v.inserts ∷ t) (words_more vs i d (omega arith))
    ∙ ap (λ (k : ℕ). take k l ++ line_words (get_or vs i d)) e'
