-- A server and its clients, and what a command does to them (01: "Run program").
use Rattle.std.specs.Prelude.{ℕ, zero, suc, ◌-◌, ◌≡◌, true, cond, List, [], ◌∷◌, map, eqb, length, get_or, set, take, replicate}
use Rattle.model.specs.Questions.{every, Answer, Sent}
use Rattle.model.specs.Ranks.{line_ranks}
use Rattle.model.specs.Client.{Client, no_client, sound_client, open_client, insert_client, delete_client, send_client, tell_client, take_client}
use Rattle.model.specs.Server.{Server, sound_server, open_server, send_server, tell_server, take_server}
use Rattle.sheet_text.specs.Command.{Command, Bad, Insert, Delete, Up, Down, Ack, Told}

pub record Bench : Type 0 where
  pub server : Server
  -- lines 1 to n
  pub clients : List Client

abbrev pub client_of : Bench → ℕ → Client
client_of b l = get_or b.clients (l - 1) no_client

-- the refusal's number or 0, and what the calls left
pub record Step : Type 0 where
  pub refusal : ℕ
  pub bench : Bench

-- a call on the client of line l
abbrev pub on_client : Bench → ℕ → Answer Client → Step
on_client b l a = record { refusal = a.refusal; bench = record { server = b.server; clients = set b.clients (l - 1) a.«end» } }

-- a call on the server
abbrev pub on_server : Bench → Answer Server → Step
on_server b a = record { refusal = a.refusal; bench = record { server = a.«end»; clients = b.clients } }

-- a sending's refusal, or else the taking of what it wrote
abbrev pub delivered : Bench → Sent → (List ℕ → Step) → Step
delivered b m taking = cond (eqb m.refusal 0) (taking (take m.written m.buffer)) (record { refusal = m.refusal; bench = b })

-- room for one message
abbrev pub room : List ℕ
room = replicate 17 0

unfoldable pub step : Bench → Command → Step
step b Bad = record { refusal = 0; bench = b }
step b (Insert l p x) = on_client b l (insert_client (client_of b l) p x)
step b (Delete l p) = on_client b l (delete_client (client_of b l) p)
step b (Up l k) = delivered b (send_client (client_of b l) l k room) (λ m. on_server b (take_server b.server m))
step b (Down l k) = delivered b (send_server b.server l k room) (λ m. on_client b l (take_client (client_of b l) m))
step b (Ack l) = delivered b (tell_client (client_of b l) l room) (λ m. on_server b (take_server b.server m))
step b (Told l) = delivered b (tell_server b.server l room) (λ m. on_client b l (take_client (client_of b l) m))

-- the clients of the last k of n lines, in line order; line numbers are the ranks
abbrev pub open_clients : ℕ → List ℕ → ℕ → List Client
open_clients n items zero = []
open_clients n items (suc k) = (open_client n (n - k) (line_ranks n) items).«end» ∷ open_clients n items k

abbrev pub open_bench : ℕ → List ℕ → Bench
open_bench n items = record { server = (open_server n (line_ranks n) items).«end»; clients = open_clients n items n }

-- every end is sound, and there is a client for each line
pub record SoundBench (b : Bench) : Type 0 where
  pub server : sound_server b.server ≡ true
  pub clients : every (map sound_client b.clients) ≡ true
  pub count : length b.clients ≡ b.server.n
