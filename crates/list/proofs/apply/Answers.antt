-- `list::apply` meets its contract: the part that changes, put back, is the edited list.
use native.Mathlib.Omega.{arith}
use Prim.Native.Nat.{◌+◌, ◌-◌, ◌≤◌}
use lib.ListN.{length}
use Rattle.list.proofs.Array.{room_delete, room_insert, part_some, part_deleted, part_inserted, edited_nothing, edited_delete, edited_insert}
use Rattle.list.proofs.apply.Goals as goal
use Rattle.list.proofs.apply.Goals.{In-Delete, In-Insert}

delete_room : (c : In-Delete) → (1 ≤ c.in-Delete.p) × (c.in-Delete.p ≤ c.args.len) × (c.args.len ≤ length (c.args.items.now))
delete_room c =
    let h = room_delete (c.args.x) c.in-Delete.is c.requires.1 in
    (h.0, h.1, omega (arith, c.requires.0))

insert_room : (c : In-Insert) → (1 ≤ c.in-Insert.p) × (c.in-Insert.p ≤ c.args.len + 1) × (c.args.len + 1 ≤ length (c.args.items.now))
insert_room c =
    let h = room_insert (c.args.x) c.in-Insert.is c.requires.1 in
    (h.0, h.1, omega (arith, c.requires.0))

pub overflow_sub-from : goal.overflow_sub-from
overflow_sub-from c = omega (arith, delete_room c)

pub slice_bounds-delete_front-count : goal.slice_bounds-delete_front-count
slice_bounds-delete_front-count c = omega (arith, delete_room c)

pub slice_bounds-delete_front-start : goal.slice_bounds-delete_front-start
slice_bounds-delete_front-start c = omega (arith, delete_room c)

pub slice_bounds-delete_front-end : goal.slice_bounds-delete_front-end
slice_bounds-delete_front-end c = omega (arith, delete_room c)

pub delete_front-requires : goal.delete_front-requires
delete_front-requires c =
    let h = delete_room (goal.at.delete_front-requires c).In-Delete in
    part_some (c.in-Delete.p - 1) (c.args.len) (c.args.items.now) (omega arith) h.2

pub overflow_sub-result : goal.overflow_sub-result
overflow_sub-result c = omega (arith, delete_room (goal.at.overflow_sub-result c).In-Delete)

pub overflow_sub-from-in-Insert : goal.overflow_sub-from-in-Insert
overflow_sub-from-in-Insert c = omega (arith, insert_room c)

pub slice_bounds-insert_front-count : goal.slice_bounds-insert_front-count
slice_bounds-insert_front-count c = omega (arith, insert_room c)

pub slice_bounds-insert_front-start : goal.slice_bounds-insert_front-start
slice_bounds-insert_front-start c = omega (arith, insert_room c)

pub slice_bounds-insert_front-end : goal.slice_bounds-insert_front-end
slice_bounds-insert_front-end c = omega (arith, insert_room c)

pub insert_front-requires : goal.insert_front-requires
insert_front-requires c =
    let h = insert_room (goal.at.insert_front-requires c).In-Insert in
    part_some (c.in-Insert.p - 1) (c.args.len + 1) (c.args.items.now) (omega arith) h.2

pub overflow_add-result : goal.overflow_add-result
overflow_add-result c = omega (arith, insert_room (goal.at.overflow_add-result c).In-Insert, c.requires.0)

pub returns-in-Nothing : goal.returns-in-Nothing
returns-in-Nothing c = edited_nothing (c.args.x) c.in-Nothing.is

pub returns-in-Delete : goal.returns-in-Delete
returns-in-Delete c =
    let h = delete_room (goal.at.returns-in-Delete c).In-Delete in
    edited_delete (c.args.x) c.in-Delete.is
    (part_deleted (c.in-Delete.p - 1) (c.args.len) (c.args.items.now) c.delete_front.new.part (omega arith) h.2 c.delete_front.ensures)

pub returns-in-Insert : goal.returns-in-Insert
returns-in-Insert c =
    let h = insert_room (goal.at.returns-in-Insert c).In-Insert in
    edited_insert (c.args.x) c.in-Insert.is
    (part_inserted (c.in-Insert.p - 1) (c.args.len) (c.args.x) (c.args.items.now) c.insert_front.new.part (omega arith) (omega arith)
    c.insert_front.ensures)
