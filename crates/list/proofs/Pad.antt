-- Laws of a list in an array, for any kind of element.
use Prim.Native.Nat.{ℕ, zero, suc, ◌+◌, ◌-◌, ◌≤◌, ◌<◌}
use native.Mathlib.Omega.{arith}
use mathlib.Core.Path.{◌≡◌, refl, ap, ap₂, ◌∙◌, sym}
use mathlib.Core.List.{List, [], ◌∷◌, ◌++◌}
use lib.ListN.{length, get_or, take, drop, set, replicate, length-append, length-replicate, take-append-drop}
use native.Mathlib.Numerals.{add-one}
use lib.Seq.{length-take-le, take-append_seam, drop-append-add, set-append_seam, append_snoc}
use Rattle.list.specs.Items.{padded}
use Rattle.list.proofs.Sweep.{swept, swept_store, swept_to}

module _ {A : Type 0} where
  -- reading finds the list's own elements, and z past them
  zeros : (m i : ℕ) (z : A) → get_or (replicate m z) i z ≡ z
  zeros zero i z = refl
  zeros (suc m) zero z = refl
  zeros (suc m) (suc i) z = zeros m i z

  before : (l : List A) (m i : ℕ) (z : A) → get_or (l ++ replicate m z) i z ≡ get_or l i z
  before [] m i z = zeros m i z
  before (x ∷ l) m zero z = refl
  before (x ∷ l) m (suc i) z = before l m i z

  pub pad_get_or : (n : ℕ) (z : A) (l : List A) (i : ℕ) → get_or (padded z n l) i z ≡ get_or l i z
  pad_get_or n z l i = before l (n - length l) i z

  pub pad_length : (n : ℕ) (z : A) (l : List A) → length l ≤ n → length (padded z n l) ≡ n
  pad_length n z l h = simp (length-append, length-replicate) (omega arith)

  pub pad_take : (n : ℕ) (z : A) (l : List A) → take (length l) (padded z n l) ≡ l
  pad_take n z l = take-append_seam l (replicate (n - length l) z)

  -- one array for each list of a length
  pub pad_injective : (n : ℕ) (z : A) (l m : List A) → length l ≡ length m → padded z n l ≡ padded z n m → l ≡ m
  pad_injective n z l m e p =
      sym (pad_take n z l) ∙ ap (take (length l)) p ∙ ap (λ (k : ℕ). take k (padded z n m)) e ∙ pad_take n z m

  drop_zeros : (m k : ℕ) (z : A) → drop k (replicate m z) ≡ replicate (m - k) z
  drop_zeros m zero z =
      let e : m ≡ m - 0 = omega arith in
      ap (λ (j : ℕ). replicate j z) e
  drop_zeros zero (suc k) z =
      let e : 0 ≡ 0 - suc k = omega arith in
      ap (λ (j : ℕ). replicate j z) e
  drop_zeros (suc m) (suc k) z =
      let e : m - k ≡ suc m - suc k = omega arith in
      drop_zeros m k z ∙ ap (λ (j : ℕ). replicate j z) e

  -- past the list's end there are zeros only
  pub pad_drop : (n : ℕ) (z : A) (l : List A) (k : ℕ) → length l ≤ k → drop k (padded z n l) ≡ replicate (n - k) z
  pad_drop n z l k h =
      let f : length l + (k - length l) ≡ k = omega arith in
      let g : n - length l - (k - length l) ≡ n - k = omega arith in
      ap (λ (j : ℕ). drop j (padded z n l)) (sym f) ∙ drop-append-add l (replicate (n - length l) z) (k - length l)
      ∙ drop_zeros (n - length l) (k - length l) z
      ∙ ap (λ (j : ℕ). replicate j z) g

  -- an array of n places that holds zeros from c on is its first c elements, padded
  pub pad_of : (n : ℕ) (z : A) (l : List A) (c : ℕ) → length l ≡ n → c ≤ n → drop c l ≡ replicate (n - c) z
      → l ≡ padded z n (take c l)
  pad_of n z l c e h d =
      let k : length (take c l) ≡ c = length-take-le c l (omega arith) in
      sym (take-append-drop c l) ∙ ap (λ (r : List A). take c l ++ r) d
      ∙ ap (λ (j : ℕ). take c l ++ replicate (n - j) z) (sym k)

  pub pad_snoc : (n : ℕ) (z : A) (l : List A) (x : A) → length l < n → set (padded z n l) (length l) x ≡ padded z n (l ++ (x ∷ []))
  pad_snoc n z l x h =
      let one : n - length l ≡ suc (n - (length l + 1)) = omega arith in
      let more : length (l ++ (x ∷ [])) ≡ length l + 1 = length-append l (x ∷ []) in
      let rest : List A = replicate (n - (length l + 1)) z in
      ap (λ (j : ℕ). set (l ++ replicate j z) (length l) x) one ∙ set-append_seam l z rest x ∙ sym (append_snoc l x rest)
      ∙ ap (λ (j : ℕ). (l ++ (x ∷ [])) ++ replicate (n - j) z) (sym more)

-- ---- the first m elements of a list, copied to the front of an array of z

module _ {A : Type 0} where
  take_taken : (m : ℕ) (l : List A) → take (length (take m l)) l ≡ take m l
  take_taken zero l = refl
  take_taken (suc m) [] = refl
  take_taken (suc m) (x ∷ l) = ap (λ (r : List A). x ∷ r) (take_taken m l)

  pub pad_front : (n m : ℕ) (z : A) (l array part : List A) {k : ℕ} → length (take m l) ≡ k → part ≡ take k l → array ≡ replicate n z
      → part ++ drop k array ≡ padded z n (take m l)
  pad_front n m z l array part {k} size copied empty =
      ap₂ (λ (a b : List A). a ++ b) (copied ∙ ap (λ (j : ℕ). take j l) (sym size) ∙ take_taken m l)
      (ap (drop k) empty ∙ drop_zeros n k z ∙ ap (λ (j : ℕ). replicate (n - j) z) (sym size))

-- ---- a loop that puts a list into an array of z

module _ {A : Type 0} (n : ℕ) (z : A) (l : List A) (short : length l ≤ n) where
  pub fill_turn : (i : ℕ) (v : A) (a : List A) → i < n → a ≡ swept (padded z n l) (replicate n z) i → v ≡ get_or l i z
      → set a i v ≡ swept (padded z n l) (replicate n z) (i + 1)
  fill_turn i v a h e w =
      let same : length (padded z n l) ≡ length (replicate n z) = pad_length n z l short ∙ sym (length-replicate n z) in
      ap (λ (b : List A). set b i v) e ∙ ap (set (swept (padded z n l) (replicate n z) i) i) (w ∙ sym (pad_get_or n z l i))
      ∙ swept_store (padded z n l) (replicate n z) i z same (omega (arith, length-replicate n z))
      ∙ ap (swept (padded z n l) (replicate n z)) (sym (add-one i))

  pub fill_end : (i : ℕ) (a : List A) → length l ≤ i → a ≡ swept (padded z n l) (replicate n z) i → a ≡ padded z n l
  fill_end i a h e = e ∙ swept_to (padded z n l) (replicate n z) i (pad_drop n z l i h ∙ sym (drop_zeros n i z))
