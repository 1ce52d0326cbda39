-- Lines and words of a text.
use Rattle.std.specs.Prelude.{ℕ, Bool, cond, List, [], ◌∷◌, eqb, Option, Some, None}
use Rattle.std.specs.Str.{bytes_eq}

-- the bytes before the first separator, or all of them
unfoldable pub before : ℕ → List ℕ → List ℕ
before sep [] = []
before sep (b ∷ bs) = cond (eqb b sep) [] (b ∷ before sep bs)

-- a byte in front of the first part
abbrev pub joined : ℕ → List (List ℕ) → List (List ℕ)
joined b [] = (b ∷ []) ∷ []
joined b (w ∷ ws) = (b ∷ w) ∷ ws

-- The parts of a text between separators; what is left after the last separator, if it is empty, gives the parts end.
unfoldable pub parts : ℕ → List (List ℕ) → List ℕ → List (List ℕ)
parts sep end [] = end
parts sep end (b ∷ bs) = cond (eqb b sep) ([] ∷ parts sep end bs) (joined b (parts sep end bs))

-- Each line ends in byte 10; a last line without it counts.
abbrev pub lines_of : List ℕ → List (List ℕ)
lines_of = parts 10 []

-- Between two single spaces stands a word; a second space, or one at either end, leaves an empty word.
abbrev pub words_of : List ℕ → List (List ℕ)
words_of = parts 32 ([] ∷ [])

-- the words of what stands behind a word, if anything does
abbrev pub words_in : Option (List ℕ) → List (List ℕ)
words_in None = []
words_in (Some s) = words_of s

unfoldable pub same : List ℕ → List ℕ → Bool
same = bytes_eq
