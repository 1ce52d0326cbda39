-- An end as it is read and written: a number too wide for its field becomes the widest, and a rank is a byte. No call's promise mentions this.
use Rattle.std.specs.Prelude.{ℕ, List, [], ◌∷◌, ◌++◌, map}
use Rattle.server.specs.declared.Counts.{Counts}
use Rattle.server.specs.declared.Server.{Server}
use Rattle.server.specs.View.{server_of}
use Rattle.c_layout.specs.Numbers.{capped, capped_line, lines_words}
use Rattle.c_layout.specs.Ranks.{ranked}
use Rattle.c_server.specs.Layout.{first_in}

abbrev pub capped_counts : Counts → Counts
capped_counts k =
    record {
      n = capped 255 k.n;
      initial = capped 65535 k.initial;
      len = capped 65535 k.len;
      total = k.total;
      ranks = k.ranks;
      lines = map capped_line k.lines;
    }

abbrev pub capped_end : Server → Server
capped_end s = server_of (capped_counts s.counts) s.words

-- the numbers as words, before the ranks come over two of them
abbrev pub numbers_in : Counts → List ℕ
numbers_in k = first_in k ++ (0 ∷ 0 ∷ (lines_words k.lines ++ (k.total ∷ [])))

-- the bytes of an end in front of its words
abbrev pub front_in : Counts → List ℕ
front_in k = ranked (first_in k) k.ranks (lines_words k.lines ++ (k.total ∷ []))
