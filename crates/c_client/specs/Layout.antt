-- A client (01: bay) as lent bytes: where each part stands, and both round trips.
use Rattle.std.specs.Prelude.{ℕ, ◌≤◌, ◌≡◌, List, [], ◌∷◌, ◌++◌, length, get_or, drop}
use Rattle.limits.specs.Limits.{max_lines}
use Rattle.list.specs.Parts.{part}
use Rattle.client.specs.declared.Counts.{Counts}
use Rattle.client.specs.declared.Client.{Client}
use Rattle.client.specs.View as client
use Rattle.client.specs.View.{client_of}
use Rattle.c_layout.specs.Words.{words_of, Bytes}
use Rattle.c_layout.specs.Numbers.{line_at, line_words}
use Rattle.c_layout.specs.Ranks.{ranks_in, ranked}

-- the bytes of a client: 1,164 words
abbrev pub size : ℕ
size = 4656

-- how many words are its numbers, the ranks among them
abbrev pub numbers : ℕ
numbers = 12

-- Words 0 to 2 are n, line and the length of the list. Then come the ranks, eight bytes, in words 5 to 8 the counts of its line, in word 9 the
-- total, and in words 10 and 11 the inverse, its place and its item; then the words of the client.
abbrev pub counts_of : List ℕ → List ℕ → Counts
counts_of ranks ws =
    record {
      own = line_at ws 5;
      len = get_or ws 2 0;
      total = get_or ws 9 0;
      inverse = record { place = get_or ws 10 0; item = get_or ws 11 0 };
      n = get_or ws 0 0;
      line = get_or ws 1 0;
      ranks = ranks;
    }

abbrev pub counts_in : List ℕ → Counts
counts_in bytes = counts_of (ranks_in bytes) (words_of bytes)

abbrev pub first_in : Counts → List ℕ
first_in k = k.n ∷ k.line ∷ k.len ∷ []

abbrev pub rest_in : Client → List ℕ
rest_in c = line_words c.counts.own ++ (c.counts.total ∷ c.counts.inverse.place ∷ c.counts.inverse.item ∷ c.words)

-- the bytes of an end, and the end that bytes are; those past the layout do not matter
unfoldable pub bytes_in : Client → List ℕ
bytes_in c = ranked (first_in c.counts) c.counts.ranks (rest_in c)

unfoldable pub end_in : List ℕ → Client
end_in bytes = client_of (counts_in bytes) (part numbers client.size (words_of bytes))

-- the arrays of a client have the lengths of their types
pub record Sizes (k : Counts) (ws : List ℕ) : Type 0 where
  pub words : length ws ≡ client.size
  pub ranks : length k.ranks ≡ max_lines

-- An end that was written reads back as it was, whatever stands behind it. Bytes that were read are what writing the end gives, so an end
-- has one byte form.
pub record RoundTrips : Type 0 where
  pub read_back : (c : Client) (rest : List ℕ) → Sizes c.counts c.words → end_in (bytes_in c ++ rest) ≡ c
  pub written_back : (bytes : List ℕ) → size ≤ length bytes → Bytes bytes → bytes_in (end_in bytes) ++ drop size bytes ≡ bytes
