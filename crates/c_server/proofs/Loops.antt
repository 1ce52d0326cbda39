-- The loops over the lines: how far each is, one turn, and its end.
use Prim.Native.Nat.{ℕ, suc, ◌+◌, ◌*◌, ◌≤◌, ◌<◌}
use native.Mathlib.Omega.{arith}
use native.Mathlib.Numerals.{add-one}
use mathlib.Core.Path.{◌≡◌, refl, ap, ap₂, sym, ◌∙◌}
use mathlib.Core.List.{List, [], ◌∷◌, ◌++◌, map}
use lib.ListN.{length, get_or, set, take, drop, replicate, take-append-drop, length-set, length-map, get_or-map}
use lib.Seq.{take_all, take-suc, take-suc-set, take-append-le, drop_at}
use Rattle.limits.specs.Limits.{max_lines}
use Rattle.line.specs.declared.Line.{Line}
use Rattle.server.specs.declared.Counts.{Counts}
use Rattle.c_layout.specs.Words.{put_at}
use Rattle.c_layout.specs.Numbers.{counted, capped_line, line_at, line_words, lines_at, lines_words}
use Rattle.c_layout.proofs.Parts.{put_front, put_behind, put_length}
use Rattle.c_layout.proofs.Counts.{lines_length, line_of_lem, words_more, words_size}
use Rattle.c_server.specs.Layout.{numbers}
use Rattle.c_server.specs.Reading.{numbers_in}

-- ---- reading: the first i lines are those of the words

abbrev target : List ℕ → List Line
target ns = map capped_line (lines_at ns 5 max_lines)

abbrev none' : Line
none' = counted 0 0 0 0

pub record Reading (ns : List ℕ) (lines : List Line) (i : ℕ) : Type 0 where
  pub within : i ≤ max_lines
  pub long : length lines ≡ max_lines
  pub front : take i lines ≡ take i (target ns)

target_length : (ns : List ℕ) → length (target ns) ≡ max_lines
target_length ns = length-map (lines_at ns 5 max_lines) capped_line ∙ lines_length ns 5 max_lines

pub reading_start : (ns : List ℕ) (lines : List Line) → length lines ≡ max_lines → Reading ns lines 0
reading_start ns lines e = record { within = omega arith; long = e; front = refl }

pub reading_turn : (ns : List ℕ) (lines : List Line) (i : ℕ) (v : Line) → i < max_lines → Reading ns lines i → v ≡ capped_line (line_at ns (5 + 4 * i))
    → Reading ns (set lines i v) (i + 1)
reading_turn ns lines i v h r e =
    let d : Line = capped_line none' in
    let is : v ≡ get_or (target ns) i d =
    e ∙ ap capped_line (sym (line_of_lem ns 5 max_lines i none' h)) ∙ sym (get_or-map capped_line (lines_at ns 5 max_lines) i none') in
    record {
      within = omega arith;
      long = length-set lines i v ∙ r.long;
      front =
          rw (add-one i)
          (take-suc-set lines i v (omega (arith, r.long))
          ∙ ap₂ (λ (l : List Line) (x : Line). l ++ (x ∷ [])) r.front is
          ∙ sym (take-suc (target ns) i d (omega (arith, target_length ns))));
    }

pub reading_end : (ns : List ℕ) (lines : List Line) (i : ℕ) → max_lines ≤ i → Reading ns lines i → lines ≡ target ns
reading_end ns lines i h r =
    sym (take_all i lines (omega (arith, r.long))) ∙ r.front ∙ take_all i (target ns) (omega (arith, target_length ns))

-- ---- writing: the words up to line i are the numbers, and the last is the total

pub record Writing (k : Counts) (ws : List ℕ) (i : ℕ) : Type 0 where
  pub within : i ≤ max_lines
  pub eight : length k.lines ≡ max_lines
  pub long : length ws ≡ numbers
  pub front : take (5 + 4 * i) ws ≡ take (5 + 4 * i) (numbers_in k)
  pub last : drop 37 ws ≡ k.total ∷ []

pub writing_start : (k : Counts) (ws : List ℕ) → length k.lines ≡ max_lines → ws ≡ replicate numbers 0
    → Writing k (set (set (set (set ws 0 k.n) 1 k.initial) 2 k.len) 37 k.total) 0
writing_start k ws eight e =
    record {
      within = omega arith;
      eight = eight;
      long = simp length-set (ap length e);
      front = ap (λ (l : List ℕ). take 5 (set (set (set (set l 0 k.n) 1 k.initial) 2 k.len) 37 k.total)) e;
      last = ap (λ (l : List ℕ). drop 37 (set (set (set (set l 0 k.n) 1 k.initial) 2 k.len) 37 k.total)) e;
    }

up_to_lem : (k : Counts) (i : ℕ) → length k.lines ≡ max_lines → i ≤ max_lines → take (5 + 4 * i) (numbers_in k) ≡ k.n ∷ k.initial ∷ k.len ∷ 0 ∷ 0 ∷ take (4 * i) (lines_words k.lines)
up_to_lem k i eight h =
    let e : 5 + 4 * i ≡ suc (suc (suc (suc (suc (4 * i))))) = omega arith in
    ap (λ (m : ℕ). take m (numbers_in k)) e
    ∙ ap (λ (l : List ℕ). k.n ∷ k.initial ∷ k.len ∷ 0 ∷ 0 ∷ l)
    (take-append-le (4 * i) (lines_words k.lines) (k.total ∷ []) (omega (arith, words_size k.lines)))

pub writing_turn : (k : Counts) (ws : List ℕ) (i : ℕ) (d : Line) → i < max_lines → Writing k ws i
    → Writing k (put_at (5 + 4 * i) (line_words (get_or k.lines i d)) ws) (i + 1)
writing_turn k ws i d h w =
    let v : Line = get_or k.lines i d in
    record {
      within = omega arith;
      eight = w.eight;
      long = put_length (5 + 4 * i) (line_words v) ws (omega (arith, w.long)) ∙ w.long;
      front =
          put_front (5 + 4 * i) (5 + 4 * (i + 1)) (line_words v) ws (omega (arith, w.long)) (omega arith)
          ∙ ap (λ (l : List ℕ). l ++ line_words v) (w.front ∙ up_to_lem k i w.eight w.within)
          ∙ ap (λ (l : List ℕ). k.n ∷ k.initial ∷ k.len ∷ 0 ∷ 0 ∷ l) (sym (words_more k.lines i d (omega (arith, w.eight))))
          ∙ sym (up_to_lem k (i + 1) w.eight (omega arith));
      last = put_behind (5 + 4 * i) 37 (line_words v) ws (omega (arith, w.long)) (omega arith) ∙ w.last;
    }

pub writing_end : (k : Counts) (ws : List ℕ) (i : ℕ) → max_lines ≤ i → Writing k ws i → ws ≡ numbers_in k
writing_end k ws i h w =
    let all : 5 + 4 * i ≡ 37 = omega (arith, w.within) in
    let front : take 37 ws ≡ take 37 (numbers_in k) = ap (λ (m : ℕ). take m ws) (sym all) ∙ w.front ∙ ap (λ (m : ℕ). take m (numbers_in k)) all in
    let last : drop 37 (numbers_in k) ≡ k.total ∷ [] = drop_at (lines_words k.lines) (k.total ∷ []) 32 (omega (arith, words_size k.lines, w.eight)) in
    sym (take-append-drop 37 ws) ∙ ap₂ (λ (l r : List ℕ). l ++ r) front (w.last ∙ sym last) ∙ take-append-drop 37 (numbers_in k)
