-- The lines in use of a struct and the origins of their pending edits: how many there are, each of them, and a number of each line added up.
use Prim.Native.Nat.{ℕ, zero, suc, ◌+◌, ◌-◌, ◌*◌, ◌≤◌, ◌<◌}
use native.Mathlib.Numerals.{add-one}
use native.Mathlib.Nat.{zero-add}
use native.Mathlib.Omega.{arith}
use mathlib.Core.Path.{◌≡◌, refl, ap, sym, ◌∙◌}
use mathlib.Core.List.{List, [], ◌∷◌}
use lib.ListN.{length, get_or, get_or-eq_default}
use Rattle.model.specs.Line as line
use Rattle.model.specs.Server as model
use Rattle.line.specs.declared.Line.{Line}
use Rattle.server.specs.declared.Counts.{Counts}
use Rattle.server.specs.View.{counts_at, line_at, lines_from, makers_of, makers_from}
use Rattle.server.specs.Totals.{total_of}

module _ (k : Counts) (words : List ℕ) where
  pub lines_length : (i count : ℕ) → length (lines_from k words i count) ≡ count
  unfolding lines_from
  lines_length i zero = refl
  lines_length i (suc count) = ap suc (lines_length (suc i) count)

  lines_at_lem : (i count j : ℕ) → j < count → get_or (lines_from k words i count) j line.no_line ≡ line_at k words (i + j)
  unfolding lines_from
  lines_at_lem i zero j h = absurd (omega arith)
  lines_at_lem i (suc count) zero h =
      let e : i ≡ i + 0 = omega arith in
      ap (line_at k words) e
  lines_at_lem i (suc count) (suc j) h =
      let e : suc i + j ≡ i + suc j = omega arith in
      lines_at_lem (suc i) count j (omega arith) ∙ ap (line_at k words) e

  pub line_used : (count j : ℕ) → j < count → get_or (lines_from k words 0 count) j line.no_line ≡ line_at k words j
  line_used count j h = lines_at_lem 0 count j h ∙ ap (line_at k words) (zero-add j)

  pub line_unused : (count j : ℕ) → count ≤ j → get_or (lines_from k words 0 count) j line.no_line ≡ line.no_line
  line_unused count j h = get_or-eq_default (lines_from k words 0 count) line.no_line (omega (arith, lines_length 0 count))

  -- ---- the origins

  pub makers_length : (i count : ℕ) → length (makers_from k words i count) ≡ count
  unfolding makers_from
  makers_length i zero = refl
  makers_length i (suc count) = ap suc (makers_length (suc i) count)

  makers_at_lem : (i count j : ℕ) → j < count → get_or (makers_from k words i count) j [] ≡ makers_of k words (i + j)
  unfolding makers_from
  makers_at_lem i zero j h = absurd (omega arith)
  makers_at_lem i (suc count) zero h =
      let e : i ≡ i + 0 = omega arith in
      ap (makers_of k words) e
  makers_at_lem i (suc count) (suc j) h =
      let e : suc i + j ≡ i + suc j = omega arith in
      makers_at_lem (suc i) count j (omega arith) ∙ ap (makers_of k words) e

  pub makers_used : (count j : ℕ) → j < count → get_or (makers_from k words 0 count) j [] ≡ makers_of k words j
  makers_used count j h = makers_at_lem 0 count j h ∙ ap (makers_of k words) (zero-add j)

  pub makers_unused : (count j : ℕ) → count ≤ j → get_or (makers_from k words 0 count) j [] ≡ []
  makers_unused count j h = get_or-eq_default (makers_from k words 0 count) [] (omega (arith, makers_length 0 count))

-- ---- a number of each line, added up

pub total_most : (f : line.Line → ℕ) (vs : List line.Line) (i : ℕ) → i < length vs → f (get_or vs i line.no_line) ≤ model.total f vs
total_most f [] i h = absurd (omega arith)
total_most f (v ∷ vs) zero h = omega arith
total_most f (v ∷ vs) (suc i) h = omega (arith, total_most f vs i (omega arith))

-- the words of the lines do not matter
pub total_words : (f : line.Line → ℕ) (k : Counts) (words : List ℕ) (i count : ℕ) → ((j : ℕ) → f (line_at k words j) ≡ f (line_at k [] j))
    → model.total f (lines_from k words i count) ≡ model.total f (lines_from k [] i count)
unfolding lines_from
total_words f k words i zero e = refl
total_words f k words i (suc count) e = omega (arith, e i, total_words f k words (suc i) count e)

abbrev rest : (line.Line → ℕ) → Counts → ℕ → ℕ → ℕ
rest f k n i = model.total f (lines_from k [] i (n - i))

rest_turn : (f : line.Line → ℕ) (k : Counts) (n i : ℕ) → i < n → rest f k n i ≡ f (line_at k [] i) + rest f k n (i + 1)
unfolding lines_from
rest_turn f k n i h =
    let more : n - i ≡ suc (n - (i + 1)) = omega arith in
    ap (λ (c : ℕ). model.total f (lines_from k [] i c)) more
    ∙ ap (λ (j : ℕ). f (line_at k [] i) + model.total f (lines_from k [] j (n - (i + 1)))) (sym (add-one i))

rest_end : (f : line.Line → ℕ) (k : Counts) (n i : ℕ) → n ≤ i → rest f k n i ≡ 0
unfolding lines_from
rest_end f k n i h =
    let end : n - i ≡ 0 = omega arith in
    ap (λ (c : ℕ). model.total f (lines_from k [] i c)) end

-- The loop that adds up what n lines took and how much of it are inserts, after i turns: t and s.
pub record Adding (k : Counts) (n i t s : ℕ) : Type 0 where
  pub to : i ≤ n
  pub all : n ≡ k.n
  pub taken : t + model.total (λ v. v.taken) (lines_from k [] i (n - i)) ≡ total_of (λ v. v.taken) k
  pub inserts : s + model.total (λ v. v.inserts) (lines_from k [] i (n - i)) ≡ total_of (λ v. v.inserts) k
  pub few : (t ≤ 65535 * i) × (s ≤ 65535 * i)

pub adding_turn : (k : Counts) (n i t s : ℕ) (v : Line) → i < n → v ≡ counts_at k i → v.taken ≤ 65535 → v.inserts ≤ 65535 → Adding k n i t s
    → Adding k n (i + 1) (t + v.taken) (s + v.inserts)
adding_turn k n i t s v h e ft fs a =
    record {
      to = omega arith;
      all = a.all;
      taken = omega (arith, a.taken, rest_turn (λ u. u.taken) k n i h, ap (λ (u : Line). u.taken) e);
      inserts = omega (arith, a.inserts, rest_turn (λ u. u.inserts) k n i h, ap (λ (u : Line). u.inserts) e);
      few = (omega (arith, a.few), omega (arith, a.few));
    }

pub adding_end : (k : Counts) (n i t s : ℕ) → n ≤ i → Adding k n i t s → (t ≡ total_of (λ v. v.taken) k) × (s ≡ total_of (λ v. v.inserts) k)
adding_end k n i t s h a =
    (omega (arith, a.taken, rest_end (λ v. v.taken) k n i h), omega (arith, a.inserts, rest_end (λ v. v.inserts) k n i h))
