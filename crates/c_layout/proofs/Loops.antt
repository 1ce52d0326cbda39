-- One turn of each loop, and its end.
use Prim.Native.Nat.{ℕ, zero, suc, ◌+◌, ◌-◌, ◌*◌, ◌/◌, ◌%◌, ◌<◌, ◌≤◌}
use native.Mathlib.Numerals.{add-one}
use native.Mathlib.Omega.{arith}
use mathlib.Core.Path.{◌≡◌, refl, ap, ap₂, sym, ◌∙◌}
use mathlib.Core.List.{List, [], ◌∷◌, ◌++◌, append_assoc}
use lib.ListN.{length, get_or, set, drop_of_length-le, take, drop}
use lib.Seq.{take_at, drop_at, drop-drop, length-take-le}
use Rattle.std.specs.Int.{w32, to_le_bytes}
use Rattle.std.specs.Simd.{first_chunks}
use Rattle.list.proofs.Sweep.{swept, swept_store, swept_to}
use Rattle.c_layout.specs.Words.{Order, word_at, words_by, four_of, bytes_of}
use Rattle.c_layout.proofs.Words.{words_length, bytes_length, word_at_lem, word_lent}

-- four bytes that the library cuts off
four_at : (k i : ℕ) (s : List ℕ) → i < k → get_or (first_chunks 4 k s) i [] ≡ take 4 (drop (4 * i) s)
four_at zero i s h = absurd (omega arith)
four_at (suc k) zero s h = refl
four_at (suc k) (suc i) s h =
    let e : 4 + 4 * i ≡ 4 * suc i = omega arith in
    four_at k i (drop 4 s) (omega arith) ∙ ap (take 4) (drop-drop (4 * i) 4 s ∙ ap (λ (j : ℕ). drop j s) e)

-- reading words, in either order
module _ (f : Order) (s ws a : List ℕ) (i : ℕ) (sized : length s ≡ 4 * length ws) where
  pub read_turn : (fours : List (List ℕ)) (v : ℕ) → fours ≡ first_chunks 4 (length s / 4) s → i < length s / 4 → v ≡ word_at f (get_or fours i []) 0
      → a ≡ swept (words_by f s) ws i → set a i v ≡ swept (words_by f s) ws (i + 1)
  read_turn fours v cut h e k =
      let lent : get_or fours i [] ≡ take 4 (drop (4 * i) s) = ap (λ (l : List (List ℕ)). get_or l i []) cut ∙ four_at (length s / 4) i s h in
      rw add-one
      (ap₂ (λ (l : List ℕ) (x : ℕ). set l i x) k
      (e ∙ ap (λ (b : List ℕ). word_at f b 0) lent ∙ word_lent f s i 4 (omega arith) ∙ sym (word_at_lem f i s (omega arith)))
      ∙ swept_store (words_by f s) ws i 0 (words_length f (length ws) s sized) (omega arith))

  pub read_end : length s / 4 ≤ i → a ≡ swept (words_by f s) ws i → a ≡ words_by f s
  read_end h e =
      e ∙ swept_to (words_by f s) ws i
      (drop_of_length-le (words_by f s) {i = i} (omega (arith, words_length f (length ws) s sized)) ∙ sym (drop_of_length-le ws {i = i} (omega arith)))

-- the bytes up to those of the word behind the one at place i
bytes_more : (ws : List ℕ) (i : ℕ) → i < length ws → take (4 * (i + 1)) (bytes_of ws) ≡ take (4 * i) (bytes_of ws) ++ four_of (get_or ws i 0)
unfolding bytes_of
bytes_more [] i h = absurd (omega arith)
bytes_more (w ∷ ws) zero h = refl
bytes_more (w ∷ ws) (suc i) h =
    let e : 4 * (suc i + 1) ≡ suc (suc (suc (suc (4 * (i + 1))))) = omega arith in
    let e' : suc (suc (suc (suc (4 * i)))) ≡ 4 * suc i = omega arith in
    ap (λ (k : ℕ). take k (bytes_of (w ∷ ws))) e ∙ ap (λ (l : List ℕ). four_of w ++ l) (bytes_more ws i (omega arith))
    ∙ ap (λ (k : ℕ). take k (bytes_of (w ∷ ws)) ++ four_of (get_or ws i 0)) e'

-- writing them
module _ (ws bs : List ℕ) (sized : length bs ≡ 4 * length ws) where
  -- the library's four bytes of the word at place i were copied into the part that was lent
  pub write_turn : (i : ℕ) (a y : List ℕ) → i < length ws → get_or ws i 0 < 4294967296 → y ≡ to_le_bytes w32 (get_or ws i 0) → a ≡ swept (bytes_of ws) bs (4 * i)
      → take (4 * i) a ++ (y ++ drop (4 * i + 4 - 4 * i) (drop (4 * i) a)) ≡ swept (bytes_of ws) bs (4 * (i + 1))
  write_turn i a y h small ey e =
      let w : ℕ = get_or ws i 0 in
      let t : List ℕ = bytes_of ws in
      let high : w / 16777216 % 256 ≡ w / 16777216 = omega arith in
      let far : 4 * i + 4 ≡ 4 * (i + 1) = omega arith in
      let long : length (take (4 * i) t) ≡ 4 * i = length-take-le (4 * i) t (omega (arith, bytes_length ws)) in
      ap (λ (l : List ℕ). take (4 * i) l ++ (y ++ drop (4 * i + 4 - 4 * i) (drop (4 * i) l))) e
      ∙ ap₂ (λ (p r : List ℕ). p ++ (y ++ r)) (take_at (take (4 * i) t) (drop (4 * i) bs) (4 * i) long)
      (ap₂ (λ (k : ℕ) (r : List ℕ). drop k r) (let k : 4 * i + 4 - 4 * i ≡ 4 = omega arith in k) (drop_at (take (4 * i) t) (drop (4 * i) bs) (4 * i) long)
      ∙ drop-drop 4 (4 * i) bs ∙ ap (λ (k : ℕ). drop k bs) far)
      ∙ ap (λ (l : List ℕ). take (4 * i) t ++ (l ++ drop (4 * (i + 1)) bs))
      (ey ∙ ap (λ (d : ℕ). w % 256 ∷ w / 256 % 256 ∷ w / 65536 % 256 ∷ d ∷ []) high)
      ∙ sym (append_assoc (take (4 * i) t) (four_of w) (drop (4 * (i + 1)) bs)) ∙ ap (λ (l : List ℕ). l ++ drop (4 * (i + 1)) bs) (sym (bytes_more ws i h))

  pub write_end : (i : ℕ) (a : List ℕ) → length ws ≤ i → a ≡ swept (bytes_of ws) bs (4 * i) → a ≡ bytes_of ws
  write_end i a h e =
      e ∙ swept_to (bytes_of ws) bs (4 * i)
      (drop_of_length-le (bytes_of ws) {i = 4 * i} (omega (arith, bytes_length ws)) ∙ sym (drop_of_length-le bs {i = 4 * i} (omega arith)))
