-- `message_at` meets its contract: the word of the pending edit's origin has 24 bits, and the message is that of its number.
use native.Mathlib.Omega.{arith}
use Rattle.line.proofs.Packets.{message_is}
use Rattle.line.proofs.packing.message_at.Goals as goal

pub origin_at-origin-requires : goal.origin_at-origin-requires
origin_at-origin-requires c =
    c.requires.0.narrow _ (omega (arith, c.requires.1))

pub message-requires : goal.message-requires
message-requires c = (c.requires.1, c.requires.0.kept)

pub returns : goal.returns
returns c =
    message_is c.args.line c.args.direction c.args.v c.args.words.now c.args.origins.now c.args.number c.origin_at-origin.result c.message.result
    c.origin_at-origin.ensures c.message.ensures
