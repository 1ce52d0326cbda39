-- What the calls on packets (02: N2) answer at a client: the model's, over its struct.
use Rattle.std.specs.Prelude.{ℕ, ◌+◌, ◌-◌, ◌<◌, ◌≡◌, List, length, get_or}
use Rattle.list.specs.Places.{word_of}
use Rattle.model.specs.Questions as model
use Rattle.model.specs.Client.{pack_client}
use Rattle.model.specs.Packets.{handed_over, unpacked}
use Rattle.wire_packet.specs.Packet.{message_taken}
use Rattle.client.specs.declared.Client.{Client}
use Rattle.client.specs.View.{view, sound}
use Rattle.client.specs.Answers.{taken, guarded_sending}

-- ---- writing

-- the packet of its pending edits
abbrev pub packed_edits : Client → ℕ → List ℕ → ℕ → model.Sent
packed_edits c line lent offset = guarded_sending c (pack_client (view c) line lent offset) lent

-- A word for the origin of each pending edit: the line, and the numbers behind those acknowledged.
pub record OwnOrigins (line acked made : ℕ) (words : List ℕ) : Type 0 where
  pub each : (i : ℕ) → i < made - acked → get_or words i 0 ≡ word_of (record { line = line; number = acked + 1 + i })

-- ---- taking

-- the messages of a packet that has its length, one after another
abbrev pub messages_taken : Client → List ℕ → model.Answer Client
messages_taken c bytes = handed_over taken (length bytes) 0 c bytes

-- a packet
abbrev pub packet_taken : Client → List ℕ → model.Answer Client
packet_taken c bytes = unpacked sound taken c bytes

-- one message of a packet, the one that begins at a place
abbrev pub taken_at : Client → List ℕ → ℕ → model.Answer Client
taken_at c bytes at = message_taken sound taken c bytes at
