-- Parts of an end in its bytes: the words that a part holds, and parts written one behind the other.
use Prim.Native.Nat.{ℕ, zero, suc, ◌+◌, ◌-◌, ◌*◌, ◌/◌, ◌%◌, ◌≤◌}
use native.Mathlib.Omega.{arith}
use mathlib.Core.Path.{◌≡◌, refl, ap, ap₂, sym, ◌∙◌}
use mathlib.Core.List.{List, [], ◌∷◌, ◌++◌, append_assoc}
use lib.ListN.{length, take, drop, length-take, length-drop, length-append, take-append-drop}
use lib.Seq.{take_at, drop_at, drop-drop, length-take-le}
use Rattle.list.specs.Parts.{part}
use Rattle.c_layout.specs.Words.{Order, low_first, words_by, words_of, bytes_of, put_at, Bytes}
use Rattle.c_layout.proofs.Words.{written_back, words_length, read_one}

-- ---- reading

four_more : (n : ℕ) → 4 * suc n ≡ suc (suc (suc (suc (4 * n))))
four_more n = omega arith

module _ (f : Order) where
  pub words_take : (n : ℕ) (s : List ℕ) → words_by f (take (4 * n) s) ≡ take n (words_by f s)
  unfolding words_by
  words_take zero s = refl
  words_take (suc n) [] = ap (λ (m : ℕ). words_by f (take m [])) (four_more n)
  words_take (suc n) (a ∷ []) = ap (λ (m : ℕ). words_by f (take m (a ∷ []))) (four_more n)
  words_take (suc n) (a ∷ b ∷ []) = ap (λ (m : ℕ). words_by f (take m (a ∷ b ∷ []))) (four_more n)
  words_take (suc n) (a ∷ b ∷ c ∷ []) = ap (λ (m : ℕ). words_by f (take m (a ∷ b ∷ c ∷ []))) (four_more n)
  words_take (suc n) (a ∷ b ∷ c ∷ d ∷ s) =
      ap (λ (m : ℕ). words_by f (take m (a ∷ b ∷ c ∷ d ∷ s))) (four_more n) ∙ ap (λ (ws : List ℕ). f a b c d ∷ ws) (words_take n s)

  pub words_drop : (n : ℕ) (s : List ℕ) → words_by f (drop (4 * n) s) ≡ drop n (words_by f s)
  unfolding words_by
  words_drop zero s = refl
  words_drop (suc n) [] = ap (λ (m : ℕ). words_by f (drop m [])) (four_more n)
  words_drop (suc n) (a ∷ []) = ap (λ (m : ℕ). words_by f (drop m (a ∷ []))) (four_more n)
  words_drop (suc n) (a ∷ b ∷ []) = ap (λ (m : ℕ). words_by f (drop m (a ∷ b ∷ []))) (four_more n)
  words_drop (suc n) (a ∷ b ∷ c ∷ []) = ap (λ (m : ℕ). words_by f (drop m (a ∷ b ∷ c ∷ []))) (four_more n)
  words_drop (suc n) (a ∷ b ∷ c ∷ d ∷ s) = ap (λ (m : ℕ). words_by f (drop m (a ∷ b ∷ c ∷ d ∷ s))) (four_more n) ∙ words_drop n s

  -- the n words from word a on, from their bytes as they are lent
  pub words_part : (a n : ℕ) (s : List ℕ) → words_by f (take (4 * a + 4 * n - 4 * a) (drop (4 * a) s)) ≡ part a n (words_by f s)
  words_part a n s =
      let wide : 4 * a + 4 * n - 4 * a ≡ 4 * n = omega arith in
      ap (λ (k : ℕ). words_by f (take k (drop (4 * a) s))) wide ∙ words_take n (drop (4 * a) s) ∙ ap (take n) (words_drop a s)

  pub words_many : (n : ℕ) (s : List ℕ) → 4 * n ≤ length s → n ≤ length (words_by f s)
  words_many n s h =
      omega
      (arith, length-take n (words_by f s), ap length (words_take n s), words_length f n (take (4 * n) s) (length-take-le (4 * n) s h))

-- words that were written in front of other bytes
pub read_front : (ws rest : List ℕ) → words_of (bytes_of ws ++ rest) ≡ ws ++ words_of rest
unfolding bytes_of words_by
read_front [] rest = refl
read_front (w ∷ ws) rest = ap₂ (λ (x : ℕ) (l : List ℕ). x ∷ l) (read_one w) (read_front ws rest)

bytes_front : (n : ℕ) (s : List ℕ) → Bytes s → Bytes (take n s)
bytes_front zero s h i = omega arith
bytes_front (suc n) [] h i = omega arith
bytes_front (suc n) (x ∷ s) h zero = h 0
bytes_front (suc n) (x ∷ s) h (suc i) = bytes_front n s (λ j. h (suc j)) i

-- the first words, written back in front of the bytes behind them
pub written_front : (n size : ℕ) (s : List ℕ) → size ≡ 4 * n → size ≤ length s → Bytes s → bytes_of (take n (words_of s)) ++ drop size s ≡ s
written_front n size s e h b =
    let long : length (take (4 * n) s) ≡ 4 * n = length-take-le (4 * n) s (omega arith) in
    ap (λ (k : ℕ). bytes_of (take n (words_of s)) ++ drop k s) e
    ∙ ap (λ (l : List ℕ). l ++ drop (4 * n) s)
    (ap bytes_of (sym (words_take low_first n s)) ∙ written_back (take (4 * n) s) n long (bytes_front (4 * n) s b))
    ∙ take-append-drop (4 * n) s

-- ---- writing

pub bytes_append : (v w : List ℕ) → bytes_of (v ++ w) ≡ bytes_of v ++ bytes_of w
unfolding bytes_of
bytes_append [] w = refl
bytes_append (x ∷ v) w = ap (λ (l : List ℕ). x % 256 ∷ x / 256 % 256 ∷ x / 65536 % 256 ∷ x / 16777216 ∷ l) (bytes_append v w)

-- a part that was lent came back as x, which is y
pub put_lent : (a n : ℕ) (x y l : List ℕ) → x ≡ y → length y ≡ n → take a l ++ (x ++ drop (a + n - a) (drop a l)) ≡ put_at a y l
put_lent a n x y l e k =
    let far : a + (a + n - a) ≡ a + length y = omega arith in
    ap₂ (λ (p q : List ℕ). take a l ++ (p ++ q)) e (drop-drop (a + n - a) a l ∙ ap (λ (m : ℕ). drop m l) far)

-- what stands up to the end of a part that was put there
pub put_front : (a b : ℕ) (x l : List ℕ) → a ≤ length l → b ≡ a + length x → take b (put_at a x l) ≡ take a l ++ x
put_front a b x l h e =
    let rest : List ℕ = drop (a + length x) l in
    let long : length (take a l ++ x) ≡ b = omega (arith, length-append (take a l) x, length-take-le a l h) in
    ap (take b) (sym (append_assoc (take a l) x rest)) ∙ take_at (take a l ++ x) rest b long

-- and what stands behind it
pub put_behind : (a b : ℕ) (x l : List ℕ) → a ≤ length l → a + length x ≤ b → drop b (put_at a x l) ≡ drop b l
put_behind a b x l h t =
    let c : ℕ = a + length x in
    let far : b ≡ c + (b - c) = omega arith in
    let long : length (take a l ++ x) ≡ c = omega (arith, length-append (take a l) x, length-take-le a l h) in
    let here : drop c (put_at a x l) ≡ drop c l =
    ap (drop c) (sym (append_assoc (take a l) x (drop c l))) ∙ drop_at (take a l ++ x) (drop c l) c long in
    ap (λ (k : ℕ). drop k (put_at a x l)) far ∙ sym (drop-drop (b - c) c (put_at a x l)) ∙ ap (drop (b - c)) here
    ∙ drop-drop (b - c) c l ∙ ap (λ (k : ℕ). drop k l) (sym far)

pub put_length : (a : ℕ) (x l : List ℕ) → a + length x ≤ length l → length (put_at a x l) ≡ length l
put_length a x l h = simp (length-append, length-take, length-drop) (omega arith)
