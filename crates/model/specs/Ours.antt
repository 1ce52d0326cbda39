-- The sheet that this project builds.
use Rattle.list.specs.Seconds.{running_time}
use Rattle.model.specs.Sheet.{Sheet}
use Rattle.model.specs.SheetOf as sheets
use Rattle.model.specs.SheetOf.{ClientCalls, ServerCalls, sheet_of}
use Rattle.model.specs.Client as clients
use Rattle.model.specs.Client.{Client}
use Rattle.model.specs.Server as servers
use Rattle.model.specs.Server.{Server, line_of}
pub use Rattle.model.specs.SheetOf.{client, server, answer_as}

abbrev pub End : Type 0
End = sheets.End Client Server

abbrev pub client_calls : ClientCalls
client_calls =
    record {
      Client = Client;
      items = λ c. c.items;
      total = λ c. running_time c.items;
      made = λ c. c.own.made;
      taken = λ c. c.own.taken;
      opens = clients.open_client;
      insert = clients.insert_client;
      delete = clients.delete_client;
      take_back = clients.take_back_client;
      send = clients.send_client;
      tell = clients.tell_client;
      take = clients.take_client;
      pack = clients.pack_client;
      take_packet = clients.packet_client;
    }

abbrev pub server_calls : ServerCalls
server_calls =
    record {
      Server = Server;
      items = λ s. s.items;
      total = λ s. running_time s.items;
      made = λ s l. (line_of s l).made;
      taken = λ s l. (line_of s l).taken;
      opens = servers.open_server;
      send = servers.send_server;
      tell = servers.tell_server;
      take = servers.take_server;
      pack = servers.pack_server;
      take_packet = servers.packet_server;
    }

abbrev pub ours : Sheet
ours = sheet_of client_calls server_calls
