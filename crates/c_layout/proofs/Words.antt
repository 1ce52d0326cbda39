-- The round trips, lengths, and what stands at a place.
use Prim.Native.Nat.{ℕ, zero, suc, ◌+◌, ◌*◌, ◌/◌, ◌%◌, ◌<◌, ◌≤◌}
use native.Mathlib.Omega.{arith}
use mathlib.Core.Path.{◌≡◌, refl, ap, ap₂, sym, ◌∙◌}
use mathlib.Core.List.{List, [], ◌∷◌, ◌++◌}
use lib.ListN.{length, get_or, take, drop}
use lib.Seq.{get_or-take, get_or-drop}
use Rattle.c_layout.specs.Words.{Order, low_first, word_at, words_by, words_of, four_of, bytes_of, Bytes, RoundTrips}

-- ---- round trips

pub read_one : (w : ℕ) → low_first (w % 256) (w / 256 % 256) (w / 65536 % 256) (w / 16777216) ≡ w
read_one w = omega arith

pub read_back : (ws : List ℕ) → words_of (bytes_of ws) ≡ ws
unfolding bytes_of words_by
read_back [] = refl
read_back (w ∷ ws) = ap₂ (λ (x : ℕ) (l : List ℕ). x ∷ l) (read_one w) (read_back ws)

low : (a b : ℕ) → a < 256 → (a + b * 256) % 256 ≡ a
low a b h = omega arith

written_one : (a b c d : ℕ) → a < 256 → b < 256 → c < 256 → four_of (low_first a b c d) ≡ a ∷ b ∷ c ∷ d ∷ []
written_one a b c d ha hb hc =
    let e₀ : low_first a b c d % 256 ≡ a = omega arith in
    let u₁ : low_first a b c d / 256 ≡ b + (c + d * 256) * 256 = omega arith in
    let u₂ : low_first a b c d / 65536 ≡ c + d * 256 = omega arith in
    let e₁ : low_first a b c d / 256 % 256 ≡ b = ap (λ (n : ℕ). n % 256) u₁ ∙ low b (c + d * 256) hb in
    let e₂ : low_first a b c d / 65536 % 256 ≡ c = ap (λ (n : ℕ). n % 256) u₂ ∙ low c d hc in
    let e₃ : low_first a b c d / 16777216 ≡ d = omega arith in
    simp (e₀, e₁, e₂, e₃)

pub written_back : (s : List ℕ) (n : ℕ) → length s ≡ 4 * n → Bytes s → bytes_of (words_of s) ≡ s
unfolding bytes_of words_by
written_back [] n e h = refl
written_back (a ∷ []) n e h = absurd (omega arith)
written_back (a ∷ b ∷ []) n e h = absurd (omega arith)
written_back (a ∷ b ∷ c ∷ []) n e h = absurd (omega arith)
written_back (a ∷ b ∷ c ∷ d ∷ s) zero e h = absurd (omega arith)
written_back (a ∷ b ∷ c ∷ d ∷ s) (suc n) e h =
    ap₂ (λ (x y : List ℕ). x ++ y) (written_one a b c d (h 0) (h 1) (h 2))
    (written_back s n (omega arith) (λ i. h (suc (suc (suc (suc i))))))

pub round_trips : RoundTrips
round_trips = record { read_back = read_back; written_back = written_back }

-- ---- lengths

pub words_length : (f : Order) (n : ℕ) (s : List ℕ) → length s ≡ 4 * n → length (words_by f s) ≡ n
unfolding words_by
words_length f zero [] e = refl
words_length f (suc n) [] e = absurd (omega arith)
words_length f n (a ∷ []) e = absurd (omega arith)
words_length f n (a ∷ b ∷ []) e = absurd (omega arith)
words_length f n (a ∷ b ∷ c ∷ []) e = absurd (omega arith)
words_length f zero (a ∷ b ∷ c ∷ d ∷ s) e = absurd (omega arith)
words_length f (suc n) (a ∷ b ∷ c ∷ d ∷ s) e = ap suc (words_length f n s (omega arith))

pub bytes_length : (ws : List ℕ) → length (bytes_of ws) ≡ 4 * length ws
unfolding bytes_of
bytes_length [] = refl
bytes_length (w ∷ ws) = omega (arith, bytes_length ws)

-- ---- what stands at a place

skip : (s : List ℕ) (i k : ℕ) → (a b c d : ℕ) → get_or (a ∷ b ∷ c ∷ d ∷ s) (4 * suc i + k) 0 ≡ get_or s (4 * i + k) 0
skip s i k a b c d =
    let e : 4 * suc i + k ≡ suc (suc (suc (suc (4 * i + k)))) = omega arith in
    ap (λ (j : ℕ). get_or (a ∷ b ∷ c ∷ d ∷ s) j 0) e

pub word_at_lem : (f : Order) (i : ℕ) (s : List ℕ) → 4 * i + 4 ≤ length s → get_or (words_by f s) i 0 ≡ word_at f s (4 * i)
unfolding words_by
word_at_lem f i [] h = absurd (omega arith)
word_at_lem f i (a ∷ []) h = absurd (omega arith)
word_at_lem f i (a ∷ b ∷ []) h = absurd (omega arith)
word_at_lem f i (a ∷ b ∷ c ∷ []) h = absurd (omega arith)
word_at_lem f zero (a ∷ b ∷ c ∷ d ∷ s) h = refl
word_at_lem f (suc i) (a ∷ b ∷ c ∷ d ∷ s) h =
    let z : 4 * suc i ≡ suc (suc (suc (suc (4 * i)))) = omega arith in
    let e : (k : ℕ) → get_or s (4 * i + k) 0 ≡ get_or (a ∷ b ∷ c ∷ d ∷ s) (4 * suc i + k) 0 = λ k. sym (skip s i k a b c d) in
    let e₀ : get_or s (4 * i) 0 ≡ get_or (a ∷ b ∷ c ∷ d ∷ s) (4 * suc i) 0 = sym (ap (λ (j : ℕ). get_or (a ∷ b ∷ c ∷ d ∷ s) j 0) z) in
    word_at_lem f i s (omega arith) ∙ rw (e₀, e 1, e 2, e 3)

-- four bytes that were lent
pub word_lent : (f : Order) (s : List ℕ) (i n : ℕ) → 3 < n → word_at f (take n (drop (4 * i) s)) 0 ≡ word_at f s (4 * i)
word_lent f s i n h =
    let lent : (k : ℕ) → k < n → get_or (take n (drop (4 * i) s)) k 0 ≡ get_or s (4 * i + k) 0 = λ k l. get_or-take n (drop (4 * i) s) k 0 l ∙ get_or-drop (4 * i) s k 0 in
    let z : 4 * i + 0 ≡ 4 * i = omega arith in
    rw (lent 0 (omega arith), lent 1 (omega arith), lent 2 (omega arith), lent 3 (omega arith), z)
