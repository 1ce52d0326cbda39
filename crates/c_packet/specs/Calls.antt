-- The calls on packets (02: N2) over lent bytes: question 18, then the call of the end that the bytes are. Unless a message was taken, no byte
-- of the end changes.
use Rattle.std.specs.Prelude.{ℕ, List, drop, Result, Ok, Err}
use Rattle.refusal.specs.declared.Refusal.{Refusal}
use Rattle.refusal.specs.Number.{number}
use Rattle.model.specs.Questions.{Answer}
use Rattle.line.specs.declared.taking.Stopped.{Stopped}
use Rattle.model.specs.Packets.{next_size}
use Rattle.client.specs.declared.Client.{Client}
use Rattle.client.specs.Packets as clients
use Rattle.server.specs.declared.Server.{Server}
use Rattle.server.specs.Packets as servers
use Rattle.c_layout.specs.Called.{Called, packed, packed_read, report_of, laid_out, taking_some, taking_one, sending}
pub use Rattle.c_layout.specs.Called.{returned}
use Rattle.c_client.specs.Layout.{size as client_size, bytes_in as client_bytes, end_in as client_in}
use Rattle.c_server.specs.Layout.{size as server_size, bytes_in as server_bytes, end_in as server_in}
use Rattle.c_packet.specs.declared.Taken.{Taken}

-- how many messages of a packet were taken
abbrev pub taken_by : Result ℕ Stopped → ℕ
taken_by (Ok n) = n
taken_by (Err s) = s.taken

-- what the code answers of one message, as a number
abbrev pub reported : Result Taken Refusal → ℕ
reported (Ok t) = packed_read 0 (report_of t.report) t.bytes
reported (Err r) = packed (number r) 0

-- ---- a client

-- the answer of a packet, and of one message of it
unfoldable pub client_some : Answer Client → List ℕ → Called
client_some a bytes = taking_some client_size a.refusal a.report (client_bytes a.end) bytes

unfoldable pub client_one : Answer Client → ℕ → List ℕ → Called
client_one a read bytes = taking_one client_size a.refusal a.report read (client_bytes a.end) bytes

-- its pending edits, from an offset of the buffer on
unfoldable pub client_packed_in : List ℕ → ℕ → List ℕ → ℕ → Called
client_packed_in bytes line out offset = laid_out client_size bytes out (sending (clients.packed_edits (client_in bytes) line out offset))

-- the messages of a packet
unfoldable pub client_packet_in : List ℕ → List ℕ → Called
client_packet_in bytes packet = laid_out client_size bytes bytes (client_some (clients.packet_taken (client_in bytes) packet) bytes)

-- the one that begins at an offset, with the bytes that it has
unfoldable pub client_taken_at_in : List ℕ → List ℕ → ℕ → Called
client_taken_at_in bytes packet offset =
    laid_out client_size bytes bytes (client_one (clients.taken_at (client_in bytes) packet offset) (next_size (drop offset packet)) bytes)

-- ---- the server

unfoldable pub server_some : Answer Server → List ℕ → Called
server_some a bytes = taking_some server_size a.refusal a.report (server_bytes a.end) bytes

unfoldable pub server_one : Answer Server → ℕ → List ℕ → Called
server_one a read bytes = taking_one server_size a.refusal a.report read (server_bytes a.end) bytes

-- the pending edits of a line
unfoldable pub server_packed_in : List ℕ → ℕ → List ℕ → ℕ → Called
server_packed_in bytes line out offset = laid_out server_size bytes out (sending (servers.packed_edits (server_in bytes) line out offset))

unfoldable pub server_packet_in : List ℕ → List ℕ → Called
server_packet_in bytes packet = laid_out server_size bytes bytes (server_some (servers.packet_taken (server_in bytes) packet) bytes)

unfoldable pub server_taken_at_in : List ℕ → List ℕ → ℕ → Called
server_taken_at_in bytes packet offset =
    laid_out server_size bytes bytes (server_one (servers.taken_at (server_in bytes) packet offset) (next_size (drop offset packet)) bytes)
