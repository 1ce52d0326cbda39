-- The ranks of the lines in an end's bytes: eight of them, a byte each, behind the first three words. Line 1's is the first.
use Rattle.std.specs.Prelude.{ℕ, List, ◌++◌}
use Rattle.limits.specs.Limits.{max_lines}
use Rattle.list.specs.Parts.{part}
use Rattle.c_layout.specs.Words.{bytes_of}

abbrev pub ranks_in : List ℕ → List ℕ
ranks_in bytes = part 12 max_lines bytes

-- the bytes of an end: its first three words, the ranks, and the words behind them
abbrev pub ranked : List ℕ → List ℕ → List ℕ → List ℕ
ranked first ranks rest = bytes_of first ++ (ranks ++ bytes_of rest)
