-- The sheet of the exported calls: an end is the bytes that were lent for it, as the last call on that end left them.
use Rattle.std.specs.Prelude.{ℕ, ◌≤◌, List, length}
use Rattle.model.specs.Questions.{Answer, Sent}
use Rattle.model.specs.Sheet.{Sheet}
use Rattle.model.specs.SheetOf.{ClientCalls, ServerCalls, sheet_of}
use Rattle.c_layout.specs.Called.{Called, refusal_of, count_of, arrived_of, applied_of}
use Rattle.c_layout.specs.ItemBytes.{item_bytes}
use Rattle.c_client.specs.Layout as clients
use Rattle.c_client.specs.Calls as client
use Rattle.c_server.specs.Layout as servers
use Rattle.c_server.specs.Calls as server
use Rattle.c_packet.specs.Calls as packets
use Rattle.convergence.specs.Built.{client_calls, server_calls, built, Carried}

-- An answer, taken apart.
abbrev pub answer_of : Called → Answer (List ℕ)
answer_of k =
    record {
      refusal = refusal_of k.answer;
      end = k.bytes;
      report = record { passed = count_of k.answer; arrived = arrived_of k.answer; applied = applied_of k.answer };
    }

abbrev pub sent_of : Called → Sent
sent_of k = record { refusal = refusal_of k.answer; written = count_of k.answer; buffer = k.bytes }

-- An opening gets the bytes lent for its line, a byte for each rank and four for each item. Lists and counts are those of the end that the
-- bytes are.
abbrev pub clients_lent : (ℕ → List ℕ) → ClientCalls
clients_lent lent =
    record {
      Client = List ℕ;
      items = λ b. client_calls.items (clients.end_in b);
      total = λ b. client_calls.total (clients.end_in b);
      made = λ b. client_calls.made (clients.end_in b);
      taken = λ b. client_calls.taken (clients.end_in b);
      opens = λ n l ranks items. answer_of (client.opened_in (lent l) n l ranks (item_bytes items));
      insert = λ b p x. answer_of (client.inserted_in b p x);
      delete = λ b p. answer_of (client.deleted_in b p);
      take_back = λ b. answer_of (client.taken_back_in b);
      send = λ b l number out. sent_of (client.sent_in b l number out);
      tell = λ b l out. sent_of (client.acknowledged_in b l out);
      take = λ b message. answer_of (client.taken_in b message);
      pack = λ b l out offset. sent_of (packets.client_packed_in b l out offset);
      take_packet = λ b packet. answer_of (packets.client_packet_in b packet);
    }

abbrev pub server_lent : List ℕ → ServerCalls
server_lent lent =
    record {
      Server = List ℕ;
      items = λ b. server_calls.items (servers.end_in b);
      total = λ b. server_calls.total (servers.end_in b);
      made = λ b. server_calls.made (servers.end_in b);
      taken = λ b. server_calls.taken (servers.end_in b);
      opens = λ n ranks items. answer_of (server.opened_in lent n ranks (item_bytes items));
      send = λ b l number out. sent_of (server.sent_in b l number out);
      tell = λ b l out. sent_of (server.acknowledged_in b l out);
      take = λ b message. answer_of (server.taken_in b message);
      pack = λ b l out offset. sent_of (packets.server_packed_in b l out offset);
      take_packet = λ b packet. answer_of (packets.server_packet_in b packet);
    }

-- the bytes lent for the client on each line, and for the server
abbrev pub lent : (ℕ → List ℕ) → List ℕ → Sheet
lent for_clients for_server = sheet_of (clients_lent for_clients) (server_lent for_server)

-- Demands 2 and 3 of the lent bytes, if they are at least as many as the layouts have, whatever stood in them. No list of calls tells
-- them from the structs.
abbrev pub LentCarried : Type 0
LentCarried =
    (for_clients : ℕ → List ℕ) (for_server : List ℕ) → ((l : ℕ) → clients.size ≤ length (for_clients l)) → servers.size ≤ length for_server
    → Carried (lent for_clients for_server) built
