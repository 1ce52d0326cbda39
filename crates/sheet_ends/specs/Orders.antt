-- What opening and an order do to the structs of a server and its clients.
use Rattle.std.specs.Prelude.{Result, ⊤, ℕ, ◌-◌, ◌≤◌, ◌≡◌, Bool, true, false, cond, List, eqb, get_or, set, take}
use Rattle.refusal.specs.declared.Refusal.{Refusal}
use Rattle.refusal.specs.Number.{refused_by}
use Rattle.limits.specs.Limits.{max_lines}
use Rattle.model.specs.Questions.{Answer, Sent}
use Rattle.model.specs.Client.{no_client}
use Rattle.client.specs.declared.Client.{Client}
use Rattle.client.specs.View.{store}
use Rattle.client.specs.Answers as client
use Rattle.server.specs.declared.Server.{Server}
use Rattle.server.specs.Answers as server
use Rattle.sheet_text.specs.declared.Order.{Order}
use Rattle.sheet_text.specs.declared.Verb.{Verb}
use Rattle.sheet_text.specs.declared.Verb.TheVariants.{Insert, Delete, Down, Told, Up, Ack}
use Rattle.sheet_ends.specs.declared.Ends.{Ends}
use Rattle.sheet_ends.specs.Bench.{room}
use Rattle.sheet_ends.specs.Ends.{opening}

-- the order's line has a place
abbrev pub Placed : Order → Type 0
Placed o = (1 ≤ o.line) × (o.line ≤ max_lines)

-- the client of the order's line
abbrev pub client_on : Ends → Order → Client
client_on e o = get_or e.clients (o.line - 1) (store no_client)

-- what the one end of an order of line l writes for the other; an edit writes nothing
unfoldable pub sent_by : Server → Client → ℕ → Verb → List ℕ → Sent
sent_by s c l (Up k) lent = client.sent_edit c l k lent
sent_by s c l Ack lent = client.sent_ack c l lent
sent_by s c l (Down k) lent = server.sent_edit s l k lent
sent_by s c l Told lent = server.sent_ack s l lent
sent_by s c l (Insert p x) lent = record { refusal = 0; written = 0; buffer = lent }
sent_by s c l (Delete p) lent = record { refusal = 0; written = 0; buffer = lent }

-- whether the server takes it
abbrev pub goes_up : Verb → Bool
goes_up (Up k) = true
goes_up Ack = true
goes_up (Down k) = false
goes_up Told = false
goes_up (Insert p x) = false
goes_up (Delete p) = false

-- the client's own edit, or what it takes
unfoldable pub changed_by : Client → Verb → List ℕ → Answer Client
changed_by c (Insert p x) bytes = client.inserted c p x
changed_by c (Delete p) bytes = client.deleted c p
changed_by c (Up k) bytes = client.taken c bytes
changed_by c Ack bytes = client.taken c bytes
changed_by c (Down k) bytes = client.taken c bytes
changed_by c Told bytes = client.taken c bytes

-- 0 or the refusal, and the ends
pub record Done : Type 0 where
  pub refusal : ℕ
  pub ends : Ends

abbrev pub done_of : Result ⊤ Refusal → Ends → Done
done_of r e = record { refusal = refused_by r; ends = e }

-- a call that answers so, but for what it reports
abbrev pub Answers : Result ⊤ Refusal → Client → Answer Client → Type 0
Answers r c a = (refused_by r ≡ a.refusal) × (c ≡ a.«end»)

-- a call on the client at place i, and one on the server
abbrev pub on_client : Ends → ℕ → Answer Client → Done
on_client e i a = record { refusal = a.refusal; ends = record { server = e.server; clients = set e.clients i a.«end» } }

abbrev pub on_server : Ends → Answer Server → Done
on_server e a = record { refusal = a.refusal; ends = record { server = a.«end»; clients = e.clients } }

-- The clients are opened where the server is; where it is refused, they are as they were.
abbrev pub opened : Ends → ℕ → List ℕ → List ℕ → Done
opened e n ranks items =
    on_server (record { server = e.server; clients = cond (eqb (server.opened n ranks items).refusal 0) (opening n ranks items 1 max_lines) e.clients })
    (server.opened n ranks items)

-- what was sent is taken by the other end; an edit sends nothing
abbrev pub taking : Ends → Order → List ℕ → Done
taking e o bytes =
    cond (goes_up o.verb) (on_server e (server.taken e.server bytes)) (on_client e (o.line - 1) (changed_by (client_on e o) o.verb bytes))

abbrev pub delivered : Ends → Order → Sent → Done
delivered e o m = cond (eqb m.refusal 0) (taking e o (take m.written m.buffer)) (record { refusal = m.refusal; ends = e })

unfoldable pub ordered : Ends → Order → Done
ordered e o = delivered e o (sent_by e.server (client_on e o) o.line o.verb room)
