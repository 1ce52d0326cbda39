-- The running time of a list (02: N6): the low 12 bits of an item are its seconds, the other 20 its code.
use Rattle.std.specs.Prelude.{ℕ, ◌+◌, ◌%◌, List, [], ◌∷◌}
use Rattle.list.specs.Places.{Place, items_of}

abbrev pub seconds_of : ℕ → ℕ
seconds_of item = item % 4096

-- the seconds of all items, from the front
unfoldable pub total_seconds : List ℕ → ℕ
total_seconds [] = 0
total_seconds (x ∷ l) = seconds_of x + total_seconds l

abbrev pub running_time : List Place → ℕ
running_time l = total_seconds (items_of l)
