-- The name of an edit. It is also the origin of the place that an insert makes.
use Rattle.std.specs.Prelude.{ℕ, Bool, false, ◌&&◌, ◌||◌, List, [], ◌∷◌, eqb}

-- The line of the client that made the edit, and its number among that client's edits, from 1. It never changes, whatever form the edit
-- takes. As an origin, line 0 stands for the opening list: the number is then the item's place there.
pub record Name : Type 0 where
  pub line : ℕ
  pub number : ℕ

abbrev pub same : Name → Name → Bool
same x y = eqb x.line y.line && eqb x.number y.number

-- the name is one of the list's
unfoldable pub holds : List Name → Name → Bool
holds [] x = false
holds (y ∷ ys) x = same x y || holds ys x
