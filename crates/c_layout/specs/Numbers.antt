-- The numbers of an end in its words: a word that is too wide, and the counts of lines, four words each.
use Rattle.std.specs.Prelude.{ℕ, zero, suc, ◌+◌, min, List, [], ◌∷◌, ◌++◌, get_or}
use Rattle.line.specs.declared.Line.{Line}

-- A word too wide for its number's field is read as the widest, which no sound end has.
abbrev pub capped : ℕ → ℕ → ℕ
capped most x = min x most

-- ---- the counts of a line: made, taken, acked and inserts

abbrev pub counted : ℕ → ℕ → ℕ → ℕ → Line
counted made taken acked inserts = record { made = made; taken = taken; acked = acked; inserts = inserts }

abbrev pub capped_line : Line → Line
capped_line v = counted (capped 65535 v.made) (capped 65535 v.taken) (capped 65535 v.acked) (capped 65535 v.inserts)

abbrev pub line_at : List ℕ → ℕ → Line
line_at ws at = counted (get_or ws at 0) (get_or ws (at + 1) 0) (get_or ws (at + 2) 0) (get_or ws (at + 3) 0)

abbrev pub line_words : Line → List ℕ
line_words v = v.made ∷ v.taken ∷ v.acked ∷ v.inserts ∷ []

-- so many lines one behind the other, the first of them at a word
unfoldable pub lines_at : List ℕ → ℕ → ℕ → List Line
lines_at ws at zero = []
lines_at ws at (suc count) = line_at ws at ∷ lines_at ws (at + 4) count

unfoldable pub lines_words : List Line → List ℕ
lines_words [] = []
lines_words (v ∷ vs) = line_words v ++ lines_words vs
