-- The order of steps on lists of places (02: N13).
use Rattle.std.specs.Prelude.{ℕ, ◌<◌, ◌≡◌, List, ltb, length, get_or}
use Rattle.list.specs.Places.{Place, place_of}
use Rattle.model.specs.Edits.{no_origin}

abbrev pub no_place : Place
no_place = place_of no_origin 0

-- The step at place i of the list xs and that at place k of the list ys, counted from 0, have one origin.
pub record SameStep (xs ys : List Place) (i k : ℕ) : Type 0 where
  pub here : i < length xs
  pub there : k < length ys
  pub origin : (get_or xs i no_place).origin ≡ (get_or ys k no_place).origin

-- Two steps that stand on both lists, at i and j of the one, at k and m of the other: i is before j exactly if k is before m.
abbrev pub SameOrder : List Place → List Place → Type 0
SameOrder xs ys = (i j k m : ℕ) → SameStep xs ys i k → SameStep xs ys j m → ltb i j ≡ ltb k m
