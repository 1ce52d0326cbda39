-- `list::total_after` meets its contract: by the form of the edit.
use native.Mathlib.Omega.{arith}
use Prim.Native.Nat.{◌+◌, ◌-◌, ◌≤◌}
use mathlib.Core.Path.{◌≡◌}
use lib.ListN.{length}
use Rattle.ot.specs.declared.Form.{Form}
use Rattle.ot.specs.Edit.{edit, applied}
use Rattle.list.specs.Seconds.{total_seconds}
use Rattle.list.proofs.Seconds.{seconds_in, seconds_out, delete_fits, total_at, total_few, total_moved}
use Rattle.list.proofs.total_after.Goals as goal
use Rattle.list.proofs.total_after.Goals.{In-Delete, Start}

delete_room : (c : In-Delete) → (1 ≤ c.in-Delete.p) × (c.in-Delete.p ≤ length (c.args.items.now))
delete_room c =
    delete_fits c.args.x c.in-Delete.is c.requires.1.0

-- what the total becomes, once the form is known
moved : {g : Form} (c : Start) → c.args.f ≡ g → total_seconds (applied (edit c.args.f c.args.x) (c.args.items.now)) + seconds_out (edit g c.args.x) (c.args.items.now) ≡ c.args.total + seconds_in (edit g c.args.x)
moved c q = omega (arith, c.requires.1.1, total_moved c.args.x (c.args.items.now) q c.requires.1.0)

pub overflow_sub-result : goal.overflow_sub-result
overflow_sub-result c = omega (arith, delete_room c)

pub bounds-items-p : goal.bounds-items-p
bounds-items-p c = omega (arith, delete_room (goal.at.bounds-items-p c).In-Delete)

pub overflow_sub-result-in-Delete : goal.overflow_sub-result-in-Delete
overflow_sub-result-in-Delete c = omega (arith, c.requires.1.1, total_at c.args.items.now (c.in-Delete.p - 1) (omega (arith, delete_room (goal.at.overflow_sub-result-in-Delete c).In-Delete)))

pub overflow_add-result : goal.overflow_add-result
overflow_add-result c =
    omega (arith, c.requires, total_few (c.args.items.now))

pub returns-in-Nothing : goal.returns-in-Nothing
returns-in-Nothing c = omega (arith, moved (goal.at.returns-in-Nothing c).Start c.in-Nothing.is)

pub returns-in-Delete : goal.returns-in-Delete
returns-in-Delete c = omega (arith, moved (goal.at.returns-in-Delete c).Start c.in-Delete.is)

pub returns-in-Insert : goal.returns-in-Insert
returns-in-Insert c = omega (arith, moved (goal.at.returns-in-Insert c).Start c.in-Insert.is)
