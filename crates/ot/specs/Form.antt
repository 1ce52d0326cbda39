-- The form of an edit (kind, position, priority), and what it becomes after another (01: "Edits and carrying").
use Rattle.std.specs.Prelude.{ℕ, ◌+◌, ◌-◌, cond, ltb, leb}
use Rattle.ot.specs.declared.Form.{Form}
use Rattle.ot.specs.declared.Form.TheVariants.{Nothing, Delete, Insert}
use Rattle.ot.specs.declared.Move.{Move}
use Rattle.ot.specs.declared.Moved.{Moved}
use Rattle.ot.specs.declared.Move.TheVariants.{Still, Down, Up, Gone}

-- 0 for nothing, which has no position
abbrev pub position_of : Form → ℕ
position_of Nothing = 0
position_of (Delete p) = p
position_of (Insert p r) = p

-- 01's word: A carried past B. At equal positions the smaller priority stays; equal priorities leave A.
unfoldable pub moved : Form → Form → Form
moved Nothing b = Nothing
moved (Delete p) Nothing = Delete p
moved (Delete p) (Delete q) = cond (ltb p q) (Delete p) (cond (ltb q p) (Delete (p - 1)) Nothing)
moved (Delete p) (Insert q s) = cond (ltb p q) (Delete p) (Delete (p + 1))
moved (Insert p r) Nothing = Insert p r
moved (Insert p r) (Delete q) = cond (leb p q) (Insert p r) (Insert (p - 1) r)
moved (Insert p r) (Insert q s) =
    cond (ltb p q) (Insert p r) (cond (ltb q p) (Insert (p + 1) r) (cond (ltb s r) (Insert (p + 1) r) (Insert p r)))

-- how the position moves (02: N1): not at all, down one, up one, or the edit is gone
unfoldable pub how : Form → Form → Move
how Nothing b = Still
how (Delete p) Nothing = Still
how (Delete p) (Delete q) = cond (ltb p q) Still (cond (ltb q p) Down Gone)
how (Delete p) (Insert q s) = cond (ltb p q) Still Up
how (Insert p r) Nothing = Still
how (Insert p r) (Delete q) = cond (leb p q) Still Down
how (Insert p r) (Insert q s) = cond (ltb p q) Still (cond (ltb q p) Up (cond (ltb s r) Up Still))

-- a position after a move; 0 for an edit that is gone
unfoldable pub shifted : Move → ℕ → ℕ
shifted Still p = p
shifted Down p = p - 1
shifted Up p = p + 1
shifted Gone p = 0

-- a delete at p after a move
abbrev pub delete_after : ℕ → Move → Form
delete_after p Still = Delete p
delete_after p Down = Delete (p - 1)
delete_after p Up = Delete (p + 1)
delete_after p Gone = Nothing

-- the form after another edit, with the move
abbrev pub moved_so : Form → Form → Moved
moved_so a b = record { form = moved a b; how = how a b }
