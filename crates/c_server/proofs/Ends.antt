-- The server in bytes: both round trips, and what the code reads and writes.
use Prim.Native.Nat.{ℕ, ◌+◌, ◌*◌, ◌≤◌}
use native.Mathlib.Omega.{arith}
use mathlib.Core.Path.{◌≡◌, refl, ap, sym, ◌∙◌}
use mathlib.Core.List.{List, [], ◌∷◌, ◌++◌, append_assoc, map}
use lib.ListN.{length, get_or, take, drop, length-append}
use lib.Seq.{take_at, drop_at, get_or_at, take-add, drop-cons, drop-drop, get_or-take}
use Rattle.limits.specs.Limits.{max_lines}
use Rattle.list.specs.Parts.{part}
use Rattle.line.specs.declared.Line.{Line}
use Rattle.server.specs.declared.Counts.{Counts}
use Rattle.server.specs.declared.Server.{Server}
use Rattle.server.specs.View as server
use Rattle.server.specs.View.{server_of, Sizes}
use Rattle.c_layout.specs.Words.{low_first, word_at, words_of, bytes_of, put_at, Bytes}
use Rattle.c_layout.specs.Numbers.{capped, capped_line, lines_at, lines_words}
use Rattle.c_layout.specs.Ranks.{ranks_in, ranked}
use Rattle.c_layout.proofs.Parts.{words_many}
use Rattle.c_layout.proofs.Ranked.{ranked_words, ranked_ranks, ranked_length, ranked_again, numbers_written, words_behind}
use Rattle.c_layout.proofs.Counts as counts
use Rattle.c_server.specs.Layout.{size, numbers, counts_of, counts_in, first_in, rest_in, bytes_in, end_in, RoundTrips}
use Rattle.c_server.specs.Reading.{capped_counts, capped_end, numbers_in, front_in}

-- ---- round trips

pub bytes_size : (s : Server) → Sizes s.counts s.words → length (bytes_in s) ≡ size
unfolding bytes_in
bytes_size s z =
    omega (
      arith,
      ranked_length s.counts.n s.counts.initial s.counts.len s.counts.ranks (rest_in s) [] z.ranks,
      length-append (lines_words s.counts.lines) (s.counts.total ∷ s.words),
      counts.words_size s.counts.lines,
      z.lines,
      z.words,
    )

-- the server of words and of ranks
abbrev server_in : List ℕ → List ℕ → Server
server_in ranks ws = server_of (counts_of ranks ws) (part numbers server.size ws)

module _ (s : Server) (rest : List ℕ) (z : Sizes s.counts s.words) where
  abbrev k : Counts
  k = s.counts

  abbrev ws : List ℕ
  ws = lines_words k.lines

  ws_many : length (lines_words s.counts.lines) ≡ 32
  ws_many = omega (arith, counts.words_size k.lines, z.lines)

  -- the total and the words, with those behind the layout
  abbrev after : List ℕ
  after = k.total ∷ (s.words ++ words_of rest)

  -- all words
  abbrev all : List ℕ → List ℕ
  all behind = k.n ∷ k.initial ∷ k.len ∷ word_at low_first k.ranks 0 ∷ word_at low_first k.ranks 4 ∷ behind

  read_words : words_of (bytes_in s ++ rest) ≡ all (ws ++ after)
  unfolding bytes_in
  read_words =
      ranked_words k.n k.initial k.len k.ranks (rest_in s) rest z.ranks ∙ ap all (append_assoc ws (k.total ∷ s.words) (words_of rest))

  read_ranks : ranks_in (bytes_in s ++ rest) ≡ k.ranks
  unfolding bytes_in
  read_ranks = ranked_ranks k.n k.initial k.len k.ranks (rest_in s) rest z.ranks

  lines_back : lines_at (all (ws ++ after)) 5 max_lines ≡ k.lines
  lines_back =
      counts.lines_behind k.n k.initial k.len (word_at low_first k.ranks 0) (word_at low_first k.ranks 4) (ws ++ after) max_lines
      ∙ ap (lines_at (ws ++ after) 0) (sym z.lines) ∙ counts.lines_again k.lines after

  total_back : get_or (all (ws ++ after)) 37 0 ≡ k.total
  total_back = get_or_at ws k.total (s.words ++ words_of rest) 0 32 ws_many

  words_back : part numbers server.size (all (ws ++ after)) ≡ s.words
  words_back =
      ap (take server.size) (sym (drop-drop 1 32 (ws ++ after)) ∙ ap (drop 1) (drop_at ws after 32 ws_many))
      ∙ take_at s.words (words_of rest) server.size z.words

  pub end_read_back : end_in (bytes_in s ++ rest) ≡ s
  unfolding end_in
  end_read_back =
      (λ i. server_in (read_ranks i) (read_words i))
      ∙ (λ i. server_of (record { n = k.n; initial = k.initial; len = k.len; total = total_back i; ranks = k.ranks; lines = lines_back i }) (words_back i))

record Parts (ws : List ℕ) (k : Counts) : Type 0 where
  first : first_in k ≡ take 3 ws
  behind : lines_words k.lines ++ (k.total ∷ part numbers server.size ws) ≡ take 2593 (drop 5 ws)

parts : (ranks ws : List ℕ) → 2598 ≤ length ws → Parts ws (counts_of ranks ws)
parts ranks [] h = absurd (omega arith)
parts ranks (a ∷ []) h = absurd (omega arith)
parts ranks (a ∷ b ∷ []) h = absurd (omega arith)
parts ranks (a ∷ b ∷ c ∷ []) h = absurd (omega arith)
parts ranks (a ∷ b ∷ c ∷ d ∷ []) h = absurd (omega arith)
parts ranks (a ∷ b ∷ c ∷ d ∷ e ∷ ws) h =
    record {
      first = refl;
      behind =
          ap (λ (l : List ℕ). l ++ (get_or ws 32 0 ∷ take server.size (drop 33 ws)))
          (ap lines_words (counts.lines_behind a b c d e ws max_lines) ∙ counts.words_again ws max_lines (omega arith))
          ∙ ap (λ (l : List ℕ). take 32 ws ++ take 2561 l) (sym (drop-cons ws 32 0 (omega arith))) ∙ sym (take-add 32 2561 ws);
    }

pub end_written_back : (bytes : List ℕ) → size ≤ length bytes → Bytes bytes → bytes_in (end_in bytes) ++ drop size bytes ≡ bytes
unfolding bytes_in end_in
end_written_back bytes h b =
    let p = parts (ranks_in bytes) (words_of bytes) (words_many low_first 2598 bytes h) in
    ranked_again 2593 size (first_in (counts_in bytes)) (rest_in (server_in (ranks_in bytes) (words_of bytes))) bytes refl h b p.first p.behind

pub round_trips : RoundTrips
round_trips = record { read_back = end_read_back; written_back = end_written_back }

-- ---- what the code reads

module _ (bytes : List ℕ) where
  abbrev words_in : List ℕ
  words_in = words_of bytes

  number_front : (i : ℕ) → i + 1 ≤ numbers → get_or (take numbers words_in) i 0 ≡ get_or words_in i 0
  number_front i h = get_or-take numbers words_in i 0 (omega arith)

  counts_front : counts_of (ranks_in bytes) (take numbers words_in) ≡ counts_in bytes
  counts_front =
      let n : get_or (take numbers words_in) 0 0 ≡ get_or words_in 0 0 = number_front 0 (omega arith) in
      let initial : get_or (take numbers words_in) 1 0 ≡ get_or words_in 1 0 = number_front 1 (omega arith) in
      let len : get_or (take numbers words_in) 2 0 ≡ get_or words_in 2 0 = number_front 2 (omega arith) in
      let total : get_or (take numbers words_in) 37 0 ≡ get_or words_in 37 0 = number_front 37 (omega arith) in
      let lines : lines_at (take numbers words_in) 5 max_lines ≡ lines_at words_in 5 max_lines = counts.lines_front words_in numbers 5 max_lines (omega arith) in
      λ i. record { n = n i; initial = initial i; len = len i; total = total i; ranks = ranks_in bytes; lines = lines i }

  -- the numbers as they were read
  pub counts_read : (ns : List ℕ) (n initial len total : ℕ) (ranks : List ℕ) (lines : List Line) → ns ≡ part 0 numbers words_in → n ≡ capped 255 (get_or ns 0 0)
      → initial ≡ capped 65535 (get_or ns 1 0) → len ≡ capped 65535 (get_or ns 2 0) → total ≡ get_or ns 37 0 → ranks ≡ ranks_in bytes
      → lines ≡ map capped_line (lines_at ns 5 max_lines)
      → ◌≡◌ {A = Counts} (record { n = n; initial = initial; len = len; total = total; ranks = ranks; lines = lines }) (capped_counts (counts_in bytes))
  counts_read ns n initial len total ranks lines e en ei el et er eo =
      let read : ◌≡◌ {A = Counts} (record { n = n; initial = initial; len = len; total = total; ranks = ranks; lines = lines }) (capped_counts (counts_of (ranks_in bytes) ns)) =
      λ i. record { n = en i; initial = ei i; len = el i; total = et i; ranks = er i; lines = eo i } in
      read ∙ ap (λ (l : List ℕ). capped_counts (counts_of (ranks_in bytes) l)) e ∙ ap capped_counts counts_front

-- with words as many as were lent
pub end_read : (bytes words : List ℕ) (k : Counts) → words ≡ part numbers server.size (words_of bytes)
    → k ≡ capped_counts (counts_in bytes) → server_of k words ≡ capped_end (end_in bytes)
unfolding end_in
end_read bytes words k ew ek = λ i. server_of (ek i) (ew i)

-- ---- what the code writes

-- the numbers, and then the ranks over two words of them
pub counts_written : (k : Counts) (s b₁ b₂ : List ℕ) → length k.ranks ≡ max_lines → length k.lines ≡ max_lines
    → b₁ ≡ put_at 0 (bytes_of (numbers_in k)) s → b₂ ≡ put_at 12 k.ranks b₁ → b₂ ≡ front_in k ++ drop (4 * numbers) s
counts_written k s b₁ b₂ eight lines e₁ e₂ =
    numbers_written (4 * numbers) k.n k.initial k.len 0 0 (lines_words k.lines ++ (k.total ∷ [])) k.ranks s b₁ b₂ eight
    (omega (arith, length-append (lines_words k.lines) (k.total ∷ []), counts.words_size k.lines)) e₁ e₂

-- they are written in front of the words
pub end_written : (k : Counts) (words s b₁ b₂ : List ℕ) → size ≤ length s → length words ≡ server.size → b₁ ≡ put_at (4 * numbers) (bytes_of words) s
    → b₂ ≡ front_in k ++ drop (4 * numbers) b₁ → b₂ ≡ bytes_in (server_of k words) ++ drop size s
unfolding bytes_in
end_written k words s b₁ b₂ h e e₁ e₂ =
    let ns : List ℕ = lines_words k.lines ++ (k.total ∷ []) in
    e₂ ∙ words_behind size (4 * numbers) (first_in k) k.ranks ns words s b₁ (omega arith) h e₁
    ∙ ap (λ (l : List ℕ). ranked (first_in k) k.ranks l ++ drop size s) (append_assoc (lines_words k.lines) (k.total ∷ []) words)
