-- Taking back an edit (02: N7): its inverse, which the client carries past each edit that it takes meanwhile.
use Rattle.std.specs.Prelude.{ℕ, ◌+◌, ◌-◌, Bool, true, false, not, ◌&&◌, ◌||◌, List, eqb, get_or}
use Rattle.ot.specs.Edit.{Edit, Nothing, Delete, Insert}
use Rattle.ot.specs.Laws.{within}
use Rattle.list.specs.Places.{Place, items_of}
use Rattle.model.specs.Limits.{max_items}
use Rattle.model.specs.Cross.{priority}

-- Of an edit of that list, by a client of that rank: an insert's deletes that place, a delete's inserts the lost item there.
abbrev pub inverse_of : ℕ → List Place → Edit → Edit
inverse_of rank l Nothing = Nothing
inverse_of rank l (Delete p) = Insert p (get_or (items_of l) (p - 1) 0) rank
inverse_of rank l (Insert p x r) = Delete p

-- there is nothing to take back: no edit was made yet, or the inverse became nothing
abbrev pub is_nothing : Edit → Bool
is_nothing Nothing = true
is_nothing (Delete p) = false
is_nothing (Insert p x r) = false

-- a stored inverse stands at 1 to 513, if it has a position
abbrev pub inverse_stands : Edit → Bool
inverse_stands e = within (max_items + 1) e

-- Question 2 of the inverse that a client of that rank stores which has made so many edits.
abbrev pub sound_inverse : ℕ → ℕ → Edit → Bool
sound_inverse rank made e = inverse_stands e && priority (eqb rank) e && (not (eqb made 0) || is_nothing e)
