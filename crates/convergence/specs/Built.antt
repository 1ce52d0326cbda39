-- The sheet of the structs that run: each call is what the contract of its method says that it answers.
use Rattle.std.specs.Prelude.{ℕ, ◌-◌, ◌≡◌, true, List}
use Rattle.model.specs.Questions.{Answer}
use Rattle.model.specs.Sheet.{Sheet}
use Rattle.model.specs.SheetOf as sheets
use Rattle.model.specs.SheetOf.{ClientCalls, ServerCalls, End, answer_as, sheet_of}
use Rattle.model.specs.Run.{are_bytes}
use Rattle.model.specs.Claim.{Opened, Converges}
use Rattle.model.specs.Consequences.{Consistent, OneOrder, TakingRefusals, TakesBack, Agree}
use Rattle.model.specs.Ours.{ours}
use Rattle.client.specs.declared.Client.{Client}
use Rattle.client.specs.View as client_view
use Rattle.client.specs.Answers as client
use Rattle.client.specs.Packets as client_packets
use Rattle.server.specs.declared.Server.{Server}
use Rattle.server.specs.View as server_view
use Rattle.server.specs.Answers as server
use Rattle.server.specs.Packets as server_packets

-- Lists and counts are read off the structs.
abbrev pub client_calls : ClientCalls
client_calls =
    record {
      Client = Client;
      items = λ c. client_view.list_in c.counts.len c.words;
      total = λ c. c.counts.total;
      made = λ c. c.counts.own.made;
      taken = λ c. c.counts.own.taken;
      opens = client.opened;
      insert = client.inserted;
      delete = client.deleted;
      take_back = client.taken_back;
      send = client.sent_edit;
      tell = client.sent_ack;
      take = client.taken;
      pack = client_packets.packed_edits;
      take_packet = client_packets.packet_taken;
    }

abbrev pub server_calls : ServerCalls
server_calls =
    record {
      Server = Server;
      items = λ s. server_view.list_in s.counts.len s.words;
      total = λ s. s.counts.total;
      made = λ s l. (server_view.counts_at s.counts (l - 1)).made;
      taken = λ s l. (server_view.counts_at s.counts (l - 1)).taken;
      opens = server.opened;
      send = server.sent_edit;
      tell = server.sent_ack;
      take = server.taken;
      pack = server_packets.packed_edits;
      take_packet = server_packets.packet_taken;
    }

abbrev pub built : Sheet
built = sheet_of client_calls server_calls

-- the ends of this sheet, and the answers of the methods about them
abbrev pub of_client : Client → End Client Server
of_client c = sheets.client c

abbrev pub of_server : Server → End Client Server
of_server s = sheets.server s

abbrev pub from_client : Answer Client → Answer (End Client Server)
from_client a = answer_as sheets.client a

abbrev pub from_server : Answer Server → Answer (End Client Server)
from_server a = answer_as sheets.server a

-- demands 2 and 3 of the structs that run
abbrev pub Claimed : Type 0
Claimed = Converges built

-- The methods and the exported calls get ranks as bytes. Those that the openings of a sheet let through are bytes.
abbrev pub RanksAreBytes : Sheet → Type 0
RanksAreBytes S = (n : ℕ) (ranks items : List ℕ) → Opened S n ranks items → are_bytes ranks ≡ true

-- The claim of a sheet, and what it gives: no list of calls tells it from another that the claim holds of.
pub record Carried (S T : Sheet) : Type 0 where
  pub claimed : Converges S
  pub ranks : RanksAreBytes S
  pub consistent : Consistent S
  pub order : OneOrder S
  pub refusals : TakingRefusals S
  pub takes_back : TakesBack S
  pub agree : Agree S T

abbrev pub BuiltCarried : Type 0
BuiltCarried = Carried built ours
