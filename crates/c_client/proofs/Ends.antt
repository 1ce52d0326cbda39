-- A client in bytes: both round trips, and what the code reads and writes.
use Prim.Native.Nat.{ℕ, ◌+◌, ◌*◌, ◌≤◌}
use native.Mathlib.Omega.{arith}
use mathlib.Core.Path.{◌≡◌, refl, ap, ◌∙◌}
use mathlib.Core.List.{List, [], ◌∷◌, ◌++◌}
use lib.ListN.{length, get_or, take, drop}
use lib.Seq.{take_at, get_or-take}
use Rattle.limits.specs.Limits.{max_lines}
use Rattle.list.specs.Parts.{part}
use Rattle.line.specs.declared.Line.{Line}
use Rattle.client.specs.declared.Counts.{Counts}
use Rattle.client.specs.declared.Client.{Client}
use Rattle.client.specs.declared.Inverse.{Inverse}
use Rattle.client.specs.View as client
use Rattle.client.specs.View.{client_of}
use Rattle.c_layout.specs.Words.{low_first, word_at, words_of, bytes_of, put_at, Bytes}
use Rattle.c_layout.specs.Numbers.{capped, capped_line, line_at, line_words}
use Rattle.c_layout.specs.Ranks.{ranks_in}
use Rattle.c_layout.proofs.Parts.{words_many}
use Rattle.c_layout.proofs.Ranked.{ranked_words, ranked_ranks, ranked_length, ranked_again, numbers_written, words_behind}
use Rattle.c_layout.proofs.Counts.{line_front}
use Rattle.c_client.specs.Layout.{size, numbers, counts_of, counts_in, first_in, rest_in, Sizes, bytes_in, end_in, RoundTrips}
use Rattle.c_client.specs.Reading.{capped_counts, capped_end}

-- ---- round trips

pub bytes_size : (c : Client) → Sizes c.counts c.words → length (bytes_in c) ≡ size
unfolding bytes_in
bytes_size c z =
    omega (arith, ranked_length c.counts.n c.counts.line c.counts.len c.counts.ranks (rest_in c) [] z.ranks, z.words)

-- the client of words and of ranks
abbrev client_in : List ℕ → List ℕ → Client
client_in ranks ws = client_of (counts_of ranks ws) (part numbers client.size ws)

module _ (c : Client) (rest : List ℕ) (z : Sizes c.counts c.words) where
  abbrev k : Counts
  k = c.counts

  read_words : words_of (bytes_in c ++ rest)
      ≡ k.n ∷ k.line ∷ k.len ∷ word_at low_first k.ranks 0 ∷ word_at low_first k.ranks 4 ∷ (rest_in c ++ words_of rest)
  unfolding bytes_in
  read_words = ranked_words k.n k.line k.len k.ranks (rest_in c) rest z.ranks

  read_ranks : ranks_in (bytes_in c ++ rest) ≡ k.ranks
  unfolding bytes_in
  read_ranks = ranked_ranks k.n k.line k.len k.ranks (rest_in c) rest z.ranks

  pub end_read_back : end_in (bytes_in c ++ rest) ≡ c
  unfolding end_in
  end_read_back = (λ i. client_in (read_ranks i) (read_words i)) ∙ ap (client_of k) (take_at c.words (words_of rest) client.size z.words)

record Parts (ws : List ℕ) (k : Counts) : Type 0 where
  first : first_in k ≡ take 3 ws
  behind : line_words k.own ++ (k.total ∷ k.inverse.place ∷ k.inverse.item ∷ part numbers client.size ws) ≡ take 1159 (drop 5 ws)

parts : (ranks ws : List ℕ) → 1164 ≤ length ws → Parts ws (counts_of ranks ws)
parts ranks [] h = absurd (omega arith)
parts ranks (a ∷ []) h = absurd (omega arith)
parts ranks (a ∷ b ∷ []) h = absurd (omega arith)
parts ranks (a ∷ b ∷ c ∷ []) h = absurd (omega arith)
parts ranks (a ∷ b ∷ c ∷ d ∷ []) h = absurd (omega arith)
parts ranks (a ∷ b ∷ c ∷ d ∷ e ∷ []) h = absurd (omega arith)
parts ranks (a ∷ b ∷ c ∷ d ∷ e ∷ f ∷ []) h = absurd (omega arith)
parts ranks (a ∷ b ∷ c ∷ d ∷ e ∷ f ∷ g ∷ []) h = absurd (omega arith)
parts ranks (a ∷ b ∷ c ∷ d ∷ e ∷ f ∷ g ∷ i ∷ []) h = absurd (omega arith)
parts ranks (a ∷ b ∷ c ∷ d ∷ e ∷ f ∷ g ∷ i ∷ j ∷ []) h = absurd (omega arith)
parts ranks (a ∷ b ∷ c ∷ d ∷ e ∷ f ∷ g ∷ i ∷ j ∷ t ∷ []) h = absurd (omega arith)
parts ranks (a ∷ b ∷ c ∷ d ∷ e ∷ f ∷ g ∷ i ∷ j ∷ t ∷ p ∷ []) h = absurd (omega arith)
parts ranks (a ∷ b ∷ c ∷ d ∷ e ∷ f ∷ g ∷ i ∷ j ∷ t ∷ p ∷ x ∷ ws) h = record { first = refl; behind = refl }

pub end_written_back : (bytes : List ℕ) → size ≤ length bytes → Bytes bytes → bytes_in (end_in bytes) ++ drop size bytes ≡ bytes
unfolding bytes_in end_in
end_written_back bytes h b =
    let p = parts (ranks_in bytes) (words_of bytes) (words_many low_first 1164 bytes h) in
    ranked_again 1159 size (first_in (counts_in bytes)) (rest_in (client_in (ranks_in bytes) (words_of bytes))) bytes refl h b p.first p.behind

pub round_trips : RoundTrips
round_trips = record { read_back = end_read_back; written_back = end_written_back }

-- ---- what the code reads

module _ (bytes : List ℕ) where
  abbrev ws : List ℕ
  ws = words_of bytes

  number_front : (i : ℕ) → i + 1 ≤ numbers → get_or (take numbers ws) i 0 ≡ get_or ws i 0
  number_front i h = get_or-take numbers ws i 0 (omega arith)

  counts_front : counts_of (ranks_in bytes) (take numbers ws) ≡ counts_in bytes
  counts_front =
      let own : line_at (take numbers ws) 5 ≡ line_at ws 5 = line_front ws numbers 5 (omega arith) in
      let len : get_or (take numbers ws) 2 0 ≡ get_or ws 2 0 = number_front 2 (omega arith) in
      let total : get_or (take numbers ws) 9 0 ≡ get_or ws 9 0 = number_front 9 (omega arith) in
      let n : get_or (take numbers ws) 0 0 ≡ get_or ws 0 0 = number_front 0 (omega arith) in
      let line : get_or (take numbers ws) 1 0 ≡ get_or ws 1 0 = number_front 1 (omega arith) in
      let place : get_or (take numbers ws) 10 0 ≡ get_or ws 10 0 = number_front 10 (omega arith) in
      let item : get_or (take numbers ws) 11 0 ≡ get_or ws 11 0 = number_front 11 (omega arith) in
      λ i. record { own = own i; len = len i; total = total i; inverse = record { place = place i; item = item i }; n = n i; line = line i; ranks = ranks_in bytes }

  -- the numbers as they were read
  abbrev with : Line → ℕ → ℕ → Inverse → ℕ → ℕ → List ℕ → Counts
  with own len total inverse n line ranks =
      record { own = own; len = len; total = total; inverse = inverse; n = n; line = line; ranks = ranks }

  pub counts_read : (ns : List ℕ) (own : Line) (len total place item n line : ℕ) (ranks : List ℕ) → ns ≡ part 0 numbers ws → own ≡ capped_line (line_at ns 5)
      → len ≡ capped 65535 (get_or ns 2 0) → total ≡ get_or ns 9 0 → place ≡ get_or ns 10 0 → item ≡ get_or ns 11 0
      → n ≡ capped 255 (get_or ns 0 0) → line ≡ capped 255 (get_or ns 1 0) → ranks ≡ ranks_in bytes
      → with own len total (record { place = place; item = item }) n line ranks ≡ capped_counts (counts_in bytes)
  counts_read ns own len total place item n line ranks e eo el et ep ex en ei er =
      let read : with own len total (record { place = place; item = item }) n line ranks ≡ capped_counts (counts_of (ranks_in bytes) ns) =
      λ i. with (eo i) (el i) (et i) (record { place = ep i; item = ex i }) (en i) (ei i) (er i) in
      read ∙ ap (λ (l : List ℕ). capped_counts (counts_of (ranks_in bytes) l)) e ∙ ap capped_counts counts_front

-- with words as many as were lent
pub end_read : (bytes words₀ words : List ℕ) (k : Counts) → length words₀ ≡ client.size → words ≡ part numbers (length words₀) (words_of bytes)
    → k ≡ capped_counts (counts_in bytes) → client_of k words ≡ capped_end (end_in bytes)
unfolding end_in
end_read bytes words₀ words k e ew ek =
    let all : words ≡ part numbers client.size (words_of bytes) = ew ∙ ap (λ (n : ℕ). part numbers n (words_of bytes)) e in
    λ i. client_of (ek i) (all i)

-- ---- what the code writes

-- the words, the numbers, and then the ranks over two words of the numbers
pub end_written : (k : Counts) (words s b₁ b₂ b₃ : List ℕ) → length k.ranks ≡ max_lines → length words ≡ client.size → size ≤ length s
    → b₁ ≡ put_at (4 * numbers) (bytes_of words) s
    → b₂ ≡ put_at 0 (bytes_of (k.n ∷ k.line ∷ k.len ∷ 0 ∷ 0 ∷ (line_words k.own ++ (k.total ∷ k.inverse.place ∷ k.inverse.item ∷ [])))) b₁
    → b₃ ≡ put_at 12 k.ranks b₂ → b₃ ≡ bytes_in (client_of k words) ++ drop size s
unfolding bytes_in
end_written k words s b₁ b₂ b₃ eight e h e₁ e₂ e₃ =
    let ns : List ℕ = line_words k.own ++ (k.total ∷ k.inverse.place ∷ k.inverse.item ∷ []) in
    numbers_written (4 * numbers) k.n k.line k.len 0 0 ns k.ranks b₁ b₂ b₃ eight (omega arith) e₂ e₃
    ∙ words_behind size (4 * numbers) (k.n ∷ k.line ∷ k.len ∷ []) k.ranks ns words s b₁ (omega arith) h e₁
