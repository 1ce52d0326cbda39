-- `wire_packet::message_end` meets its contract: what it adds is the size of the next message (proofs/Ends.antt).
use Rattle.std.proofs.Common.{rules}
use Rattle.wire_packet.proofs.Ends.{end_past, found}
use Rattle.wire_packet.proofs.message_end.Goals as goal

pub returns-in_default : goal.returns-in_default
returns-in_default c = search (rules, end_past)

pub returns : goal.returns
returns c = search (rules, found c.args.bytes.now c.args.at (search rules))
