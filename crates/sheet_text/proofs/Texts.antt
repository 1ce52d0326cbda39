-- Laws of words and lines.
use Prim.Native.Nat.{ℕ, suc, ◌+◌, ◌-◌, ◌<◌, ◌≤◌}
use mathlib.Core.Path.{◌≡◌, refl, sym, ap, ◌∙◌}
use mathlib.Core.Bool.{Bool, true, false, not, ◌&&◌, cond}
use mathlib.Core.List.{List, [], ◌∷◌}
use native.Mathlib.Nat.{suc-add}
use native.Mathlib.Omega.{arith}
use borrow.Author.Tests.{ltb-true, ltb-false}
use lib.Dec.{eqb, ltb}
use Rattle.std.specs.List.{position_or_len}
use lib.ListN.{length, take, drop, length-drop, drop_of_length-le}
use lib.Seq.{drop-drop, take_all}
use Rattle.sheet_text.specs.Text.{before, joined, parts, words_of, lines_of}
use Rattle.sheet_print.proofs.Sinks.{both}

-- the first separator, found by position
pub before_is : (sep : ℕ) (s : List ℕ) → length (before sep s) ≡ position_or_len (λ b. eqb b sep) s
unfolding before
before_is sep [] = refl
before_is sep (b ∷ s) = go (eqb b sep) (before_is sep s)
  where
    go : (t : Bool) → length (before sep s) ≡ position_or_len (λ x. eqb x sep) s
        → length (cond t [] (b ∷ before sep s)) ≡ cond (not t) (1 + position_or_len (λ x. eqb x sep) s) 0
    go true e = refl
    go false e = omega arith

pub and_false : (t : Bool) → (t && false) ≡ false
and_false true = refl
and_false false = refl

-- The parts of a text, by the place of the first separator.
module _ (sep : ℕ) (rest : List (List ℕ)) where
  abbrev Cut : List ℕ → ℕ → List (List ℕ) → Type 0
  Cut s n l = l ≡ take n s ∷ parts sep rest (drop (n + 1) s)

  cut_first : (t : Bool) (b : ℕ) (s : List ℕ) → length (cond t [] (b ∷ before sep s)) < suc (length s)
      → (length (before sep s) < length s → Cut s (length (before sep s)) (parts sep rest s))
      → Cut (b ∷ s) (length (cond t [] (b ∷ before sep s))) (cond t ([] ∷ parts sep rest s) (joined b (parts sep rest s)))
  cut_first true b s h ih = refl
  cut_first false b s h ih = rw (ih (omega arith), suc-add (length (before sep s)) 1)

  pub parts_more : (s : List ℕ) → length (before sep s) < length s → Cut s (length (before sep s)) (parts sep rest s)
  unfolding before parts
  parts_more [] h = absurd (omega arith)
  parts_more (b ∷ s) h = cut_first (eqb b sep) b s h (parts_more s)

  whole_first : (t : Bool) (b : ℕ) (s : List ℕ) (l : List (List ℕ)) → suc (length s) ≤ length (cond t [] (b ∷ before sep s))
      → (length s ≤ length (before sep s) → joined b l ≡ (b ∷ s) ∷ []) → cond t ([] ∷ l) (joined b l) ≡ (b ∷ s) ∷ []
  whole_first true b s l h ih = absurd (omega arith)
  whole_first false b s l h ih = ih (omega arith)

  -- with no separator the text is one part, where rest joins to a first byte
  pub parts_one : ((b : ℕ) → joined b rest ≡ (b ∷ []) ∷ []) → (b : ℕ) (s : List ℕ) → length (b ∷ s) ≤ length (before sep (b ∷ s))
      → parts sep rest (b ∷ s) ≡ (b ∷ s) ∷ []
  unfolding before parts
  parts_one join b [] h = whole_first (eqb b sep) b [] rest h (λ _. join b)
  parts_one join b (x ∷ s) h =
      whole_first (eqb b sep) b (x ∷ s) (parts sep rest (x ∷ s)) h (λ k. rw (parts_one join x s k))

pub words_one : (s : List ℕ) → length s ≤ length (before 32 s) → words_of s ≡ s ∷ []
unfolding parts
words_one [] h = refl
words_one (b ∷ s) h = parts_one 32 ([] ∷ []) (λ b'. refl) b s h

-- a part of a text that goes to its end
pub rest_part : (s : List ℕ) (k : ℕ) → take (length s - k) (drop k s) ≡ drop k s
rest_part s k = take_all (length s - k) (drop k s) (simp length-drop (omega arith))

-- the same, by what a search for the separator answers
pub words_cut : (s : List ℕ) (e : ℕ) → e ≡ length (before 32 s) → e < length s
    → words_of s ≡ take e s ∷ words_of (take (length s - (e + 1)) (drop (e + 1) s))
words_cut s e p h = rw (rest_part s (e + 1), p) (parts_more 32 ([] ∷ []) s (omega arith))

pub words_whole : (s : List ℕ) (e : ℕ) → e ≡ length (before 32 s) → length s ≤ e → words_of s ≡ s ∷ []
words_whole s e p h = words_one s (omega arith)

-- there is always a word
joined_some : (P : List (List ℕ) → Type 0) → ((w : List ℕ) (ws : List (List ℕ)) → P (w ∷ ws)) → (b : ℕ) (l : List (List ℕ)) → P (joined b l)
joined_some P h b [] = h (b ∷ []) []
joined_some P h b (w ∷ ws) = h (b ∷ w) ws

pub words_some : (P : List (List ℕ) → Type 0) → ((w : List ℕ) (ws : List (List ℕ)) → P (w ∷ ws)) → (s : List ℕ) → P (words_of s)
unfolding parts
words_some P h [] = h [] []
words_some P h (b ∷ s) =
    both P (eqb b 32) ([] ∷ words_of s) (joined b (words_of s)) (h [] (words_of s)) (joined_some P h b (words_of s))

pub before_le : (sep : ℕ) (s : List ℕ) → length (before sep s) ≤ length s
unfolding before
before_le sep [] = omega arith
before_le sep (b ∷ s) =
    both (λ (l : List ℕ). length l ≤ suc (length s)) (eqb b sep) [] (b ∷ before sep s) (omega arith) (let h = before_le sep s in omega arith)

pub take_before : (sep : ℕ) (s : List ℕ) → take (length (before sep s)) s ≡ before sep s
unfolding before
take_before sep [] = refl
take_before sep (b ∷ s) =
    both (λ (l : List ℕ). take (length l) (b ∷ s) ≡ l) (eqb b sep) [] (b ∷ before sep s) refl (ap (λ l. b ∷ l) (take_before sep s))

lines_cut : (s : List ℕ) (e : ℕ) → e ≡ length (before 10 s) → e < length s → lines_of s ≡ take e s ∷ lines_of (drop (e + 1) s)
lines_cut s e p h = rw p (parts_more 10 [] s (omega arith))

lines_whole : (s : List ℕ) (e : ℕ) → e ≡ length (before 10 s) → 0 < length s → length s ≤ e → lines_of s ≡ s ∷ []
lines_whole [] e p some h = absurd (omega arith)
lines_whole (b ∷ s) e p some h = parts_one 10 [] (λ b'. refl) b s (omega arith)

pub lines_none : (s : List ℕ) (i : ℕ) → length s ≤ i → lines_of (drop i s) ≡ []
unfolding parts
lines_none s i h = rw (drop_of_length-le s h)

-- The lines of a text from a place on: the next of them, where the search for its end answered e.
module _ (s : List ℕ) (i e : ℕ) (h : i < length s) (p : e ≡ length (before 10 (take (length s - i) (drop i s)))) where
  line_long : length (drop i s) ≡ length s - i
  line_long = length-drop i s

  line_found : e ≡ length (before 10 (drop i s))
  line_found = rw rest_part at p

  pub line_within : i + e ≤ length s
  line_within = let k = before_le 10 (drop i s) in let l = line_long in let f = line_found in omega arith

  line_at : (t : Bool) → ltb e (length (drop i s)) ≡ t → lines_of (drop i s) ≡ take (i + e - i) (drop i s) ∷ lines_of (drop (i + e + 1) s)
  line_at true q =
      let small = ltb-true e (length (drop i s)) q in
      let f = line_found in
      let a : e ≡ i + e - i = omega arith in
      let b : i + (e + 1) ≡ i + e + 1 = omega arith in
      lines_cut (drop i s) e line_found small ∙ ap (λ r. take e (drop i s) ∷ lines_of r) (drop-drop (e + 1) i s) ∙ (cc (a, b))
  line_at false q =
      let l = line_long in
      let large = ltb-false e (length (drop i s)) q in
      lines_whole (drop i s) e line_found (omega arith) large
      ∙ rw (lines_none s (i + e + 1) (omega arith)) (ap (λ l. l ∷ []) (sym (take_all (i + e - i) (drop i s) (omega arith))))

  pub line_is : take (i + e - i) (drop i s) ≡ before 10 (drop i s)
  line_is =
      let f : i + e - i ≡ length (before 10 (drop i s)) = (let k = line_found in omega arith) in
      ap (λ k. take k (drop i s)) f ∙ take_before 10 (drop i s)

  pub lines_next : lines_of (drop i s) ≡ take (i + e - i) (drop i s) ∷ lines_of (drop (i + e + 1) s)
  lines_next = line_at (ltb e (length (drop i s))) refl

-- the first of all lines
pub lines_first : (s : List ℕ) (e : ℕ) → 0 < length s → e ≡ length (before 10 s) → lines_of s ≡ take e s ∷ lines_of (drop (e + 1) s)
lines_first s e h p =
    let a : 0 + e - 0 ≡ e = omega arith in
    let b : 0 + e + 1 ≡ e + 1 = omega arith in
    lines_next s 0 e h (p ∙ ap (λ l. length (before 10 l)) (sym (rest_part s 0))) ∙ rw (a, b)
