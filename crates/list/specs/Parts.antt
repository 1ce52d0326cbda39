-- An array in parts: so many words from a place on.
use Rattle.std.specs.Prelude.{ℕ, List, take, drop}

-- the n words from a on
abbrev pub part : ℕ → ℕ → List ℕ → List ℕ
part a n ws = take n (drop a ws)
