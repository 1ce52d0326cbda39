-- An arriving edit meets the pending ones (01: "Taking").
use Rattle.std.specs.Prelude.{ℕ, Bool, true, ◌&&◌, List, [], ◌∷◌}
use Rattle.ot.specs.Edit.{Edit, Nothing, Delete, Insert, transformed}
use Rattle.ot.specs.Laws.{within}
use Rattle.model.specs.Limits.{max_items}

-- the arriving edit past the pending ones, in order
unfoldable pub past : Edit → List Edit → Edit
past e [] = e
past e (p ∷ ps) = past (transformed e p) ps

-- each pending edit past the arriving edit as it stood before that one
unfoldable pub over : Edit → List Edit → List Edit
over e [] = []
over e (p ∷ ps) = transformed p e ∷ over (transformed e p) ps

-- a pending edit's position is 1 to 512, if it has one
abbrev pub placed : Edit → Bool
placed e = within max_items e

unfoldable pub all_placed : List Edit → Bool
all_placed [] = true
all_placed (e ∷ es) = placed e && all_placed es

-- the priority of an insert passes the test; other edits have none
abbrev pub priority : (ℕ → Bool) → Edit → Bool
priority good Nothing = true
priority good (Delete p) = true
priority good (Insert p x r) = good r

unfoldable pub priorities : (ℕ → Bool) → List Edit → Bool
priorities good [] = true
priorities good (e ∷ es) = priority good e && priorities good es

-- 1 for an insert, else 0
abbrev pub inserts_of : Edit → ℕ
inserts_of Nothing = 0
inserts_of (Delete p) = 0
inserts_of (Insert p x r) = 1
