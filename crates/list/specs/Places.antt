-- A place of a list holds an item and its origin (02: N4). An array has items and origins in two parts, an origin as one word.
use Rattle.std.specs.Prelude.{ℕ, suc, ◌+◌, ◌*◌, ◌/◌, ◌%◌, Bool, true, ◌&&◌, List, [], ◌∷◌, map, ltb}
use Rattle.ot.specs.Edit.{Edit, applied_as}
use Rattle.list.specs.declared.Origin.{Origin}

pub record Place : Type 0 where
  pub item : ℕ
  -- the line and the number of the edit that put the item there
  pub origin : Origin

abbrev pub place_of : Origin → ℕ → Place
place_of o x = record { item = x; origin = o }

-- the places of an initial list, the first of them place k: line 0, and the place as number
unfoldable pub initial_from : ℕ → List ℕ → List Place
initial_from k [] = []
initial_from k (x ∷ xs) = place_of (record { line = 0; number = k }) x ∷ initial_from (suc k) xs

abbrev pub initial_places : List ℕ → List Place
initial_places xs = initial_from 1 xs

-- an edit of that origin, applied: its item stands there with the origin
abbrev pub applied_by : Origin → Edit → List Place → List Place
applied_by o e l = applied_as (place_of o) e l

-- ---- as words

-- every word is the origin of one line and one number
abbrev pub word_of : Origin → ℕ
word_of o = o.line * 65536 + o.number

abbrev pub origin_at : ℕ → Origin
origin_at w = record { line = w / 65536; number = w % 65536 }

abbrev pub items_of : List Place → List ℕ
items_of l = map (λ p. p.item) l

abbrev pub origins_of : List Place → List ℕ
origins_of l = map (λ p. word_of p.origin) l

-- the places with these items and these origins
unfoldable pub places_of : List ℕ → List ℕ → List Place
places_of [] ws = []
places_of (x ∷ xs) [] = []
places_of (x ∷ xs) (w ∷ ws) = place_of (origin_at w) x ∷ places_of xs ws

-- an origin's number has 16 bits, as in a word
unfoldable pub numbered : List Place → Bool
numbered [] = true
numbered (p ∷ l) = ltb p.origin.number 65536 && numbered l
