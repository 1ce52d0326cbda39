-- `Message::is_in_range` meets its contract.
use Rattle.std.proofs.Common.{rules}
use Rattle.wire.specs.Message.{in_range}
use Rattle.wire.proofs.Message.is_in_range.Goals as goal

pub returns-then-is_position : goal.returns-then-is_position
unfolding in_range
returns-then-is_position c = search rules

pub returns-else-is_position : goal.returns-else-is_position
unfolding in_range
returns-else-is_position c = search rules

pub returns-then-is_in_range-2 : goal.returns-then-is_in_range-2
unfolding in_range
returns-then-is_in_range-2 c = search rules

pub returns-else-is_in_range-2 : goal.returns-else-is_in_range-2
unfolding in_range
returns-else-is_in_range-2 c = search rules

pub returns-in-Nothing : goal.returns-in-Nothing
unfolding in_range
returns-in-Nothing c = search rules

pub returns-then-is_line : goal.returns-then-is_line
unfolding in_range
returns-then-is_line c = search rules

pub returns-else-is_line : goal.returns-else-is_line
unfolding in_range
returns-else-is_line c = search rules

pub returns-then-is_line-2 : goal.returns-then-is_line-2
unfolding in_range
returns-then-is_line-2 c = search rules

pub returns-else-is_line-2 : goal.returns-else-is_line-2
unfolding in_range
returns-else-is_line-2 c = search rules

pub returns-in-Ack : goal.returns-in-Ack
unfolding in_range
returns-in-Ack c = search rules
