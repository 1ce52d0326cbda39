-- What a message says, and the ranges of its fields (01: "Message bytes").
use Rattle.std.specs.Prelude.{ℕ, Bool, ◌&&◌, ◌||◌, leb, eqb}
use Rattle.limits.specs.Limits.{max_lines, max_edits, max_others, max_items}
use Rattle.ot.specs.Edit.{Edit}
use Rattle.ot.specs.Edit as edit
use Rattle.list.specs.declared.Origin.{Origin}
use Rattle.wire.specs.declared.Header.{Header}
use Rattle.wire.specs.declared.Message.{Message}
use Rattle.wire.specs.declared.Message.TheVariants.{Insert, Delete, Nothing, Ack}

-- the message of an edit
abbrev pub message_of : Header → Edit → Message
message_of h edit.Nothing = Nothing h
message_of h (edit.Delete p) = Delete h p
message_of h (edit.Insert p x r) = Insert h p x r

abbrev pub between : ℕ → ℕ → ℕ → Bool
between low high n = leb low n && leb n high

abbrev pub origin_in_range : Origin → Bool
origin_in_range o = between 1 max_lines o.line && between 1 max_edits o.number

-- direction 0: number to 400 and seen to 2,800; direction 1: the other way round
abbrev pub header_in_range : Header → Bool
header_in_range h =
    between 1 max_lines h.line && (eqb h.direction 0 && (between 1 max_edits h.number && leb h.seen max_others)
    || eqb h.direction 1 && (between 1 max_others h.number && leb h.seen max_edits))
    && origin_in_range h.origin

unfoldable pub in_range : Message → Bool
in_range (Insert h p x r) = header_in_range h && between 1 max_items p && leb x 4294967295 && between 1 max_lines r
in_range (Delete h p) = header_in_range h && between 1 max_items p
in_range (Nothing h) = header_in_range h
in_range (Ack l d s) = between 1 max_lines l && (eqb d 0 && leb s max_others || eqb d 1 && leb s max_edits)
