-- The server as lent bytes: where each part stands, and both round trips.
use Rattle.std.specs.Prelude.{ℕ, ◌≤◌, ◌≡◌, List, [], ◌∷◌, ◌++◌, length, get_or, drop}
use Rattle.limits.specs.Limits.{max_lines}
use Rattle.list.specs.Parts.{part}
use Rattle.server.specs.declared.Counts.{Counts}
use Rattle.server.specs.declared.Server.{Server}
use Rattle.server.specs.View as server
use Rattle.server.specs.View.{server_of, Sizes}
use Rattle.c_layout.specs.Words.{words_of, Bytes}
use Rattle.c_layout.specs.Numbers.{lines_at, lines_words}
use Rattle.c_layout.specs.Ranks.{ranks_in, ranked}

-- the bytes of the server: 2,598 words
abbrev pub size : ℕ
size = 10392

-- how many words are its numbers, the ranks among them
abbrev pub numbers : ℕ
numbers = 38

-- Words 0 to 2 are n, how many items it was opened with, and the length of its list. Then come the ranks, eight bytes, from word 5 on the
-- counts of eight lines, four words each, and in word 37 the total; then the words of the server.
abbrev pub counts_of : List ℕ → List ℕ → Counts
counts_of ranks ws =
    record { n = get_or ws 0 0; initial = get_or ws 1 0; len = get_or ws 2 0; total = get_or ws 37 0; ranks = ranks; lines = lines_at ws 5 max_lines }

abbrev pub counts_in : List ℕ → Counts
counts_in bytes = counts_of (ranks_in bytes) (words_of bytes)

abbrev pub first_in : Counts → List ℕ
first_in k = k.n ∷ k.initial ∷ k.len ∷ []

abbrev pub rest_in : Server → List ℕ
rest_in s = lines_words s.counts.lines ++ (s.counts.total ∷ s.words)

-- the bytes of an end, and the end that bytes are; those past the layout do not matter
unfoldable pub bytes_in : Server → List ℕ
bytes_in s = ranked (first_in s.counts) s.counts.ranks (rest_in s)

unfoldable pub end_in : List ℕ → Server
end_in bytes = server_of (counts_in bytes) (part numbers server.size (words_of bytes))

-- An end that was written reads back as it was, whatever stands behind it. Bytes that were read are what writing the end gives, so an end
-- has one byte form.
pub record RoundTrips : Type 0 where
  pub read_back : (s : Server) (rest : List ℕ) → Sizes s.counts s.words → end_in (bytes_in s ++ rest) ≡ s
  pub written_back : (bytes : List ℕ) → size ≤ length bytes → Bytes bytes → bytes_in (end_in bytes) ++ drop size bytes ≡ bytes
