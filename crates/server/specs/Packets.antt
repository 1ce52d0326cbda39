-- What the calls on packets (02: N2) answer at the server: the model's, over its struct.
use Rattle.std.specs.Prelude.{ℕ, List, [], ◌∷◌, length}
use Rattle.limits.specs.Limits.{max_packet}
use Rattle.model.specs.Questions as model
use Rattle.model.specs.Questions.{Question, ask, between}
use Rattle.model.specs.Server.{pack_server}
use Rattle.model.specs.Packets.{handed_over, unpacked}
use Rattle.wire_packet.specs.Packet.{message_taken}
use Rattle.server.specs.declared.Server.{Server}
use Rattle.server.specs.View.{view, sound}
use Rattle.server.specs.Answers.{taken, guarded_sending}

-- ---- writing

-- the packet of a line's pending edits
abbrev pub packed_edits : Server → ℕ → List ℕ → ℕ → model.Sent
packed_edits s line lent offset = guarded_sending s (pack_server (view s) line lent offset) lent

-- ---- taking

-- questions 2 and 15
abbrev pub packet_asked : Server → List ℕ → List Question
packet_asked s bytes = ask 2 (sound s) ∷ ask 15 (between 1 max_packet (length bytes)) ∷ []

-- the messages of a packet that has its length, one after another
abbrev pub messages_taken : Server → List ℕ → model.Answer Server
messages_taken s bytes = handed_over taken (length bytes) 0 s bytes

-- a packet
abbrev pub packet_taken : Server → List ℕ → model.Answer Server
packet_taken s bytes = unpacked sound taken s bytes

-- one message of a packet, the one that begins at a place
abbrev pub taken_at : Server → List ℕ → ℕ → model.Answer Server
taken_at s bytes at = message_taken sound taken s bytes at
