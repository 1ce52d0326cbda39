-- Sheets that must not pass (01: promise c, and the slips at the bench). Each is ours with one fault.
use Rattle.std.specs.Prelude.{ℕ, zero, suc, ◌+◌, ◌-◌, not, ◌&&◌, cond, List, [], ◌∷◌, reverse, ltb, eqb, length, take, drop, Option, Some, None}
use Rattle.ot.specs.Edit.{Edit, transformed}
use Rattle.list.specs.declared.Origin.{Origin}
use Rattle.list.specs.Places.{Place, applied_by}
use Rattle.wire.specs.declared.Header.{Header}
use Rattle.wire.specs.declared.Message.{Message}
use Rattle.wire.specs.Bytes.{parsed}
use Rattle.model.specs.Questions.{asks, Report, no_report, Answer, answer}
use Rattle.model.specs.Packets.{next_size, counted, handed_over, unpacked}
use Rattle.model.specs.Ranks.{line_ranks}
use Rattle.model.specs.Line.{unacked, line_report, takes_by, reads_by}
use Rattle.model.specs.Client.{Client, sound_client, with, open_client, insert_client, client_acked, client_taken, client_takes_ack, client_edit_questions, inverse_then, take_client, packet_client}
use Rattle.model.specs.Server.{Server, sound_server, line_of, open_server, server_takes_edit, server_takes_ack, take_server, packet_server}
use Rattle.model.specs.Numbers.{all_but}
use Rattle.model.specs.Sheet.{Sheet}
use Rattle.model.specs.SheetOf.{ClientCalls, ServerCalls, sheet_of, answer_as}
use Rattle.model.specs.Claim.{Converges}
use Rattle.model.specs.Consequences.{OneOrder}
use Rattle.model.specs.Ours.{client_calls, server_calls}

-- ours, but a client opens, inserts and takes in another way, a message and a packet
abbrev pub client_as : (ℕ → ℕ → List ℕ → List ℕ → Answer Client) → (Client → ℕ → ℕ → Answer Client) → (Client → List ℕ → Answer Client) → (Client → List ℕ → Answer Client) → ClientCalls
client_as opens insert take take_packet =
    record {
      Client = Client;
      items = client_calls.items;
      total = client_calls.total;
      made = client_calls.made;
      taken = client_calls.taken;
      opens = opens;
      insert = insert;
      delete = client_calls.delete;
      take_back = client_calls.take_back;
      send = client_calls.send;
      tell = client_calls.tell;
      take = take;
      pack = client_calls.pack;
      take_packet = take_packet;
    }

abbrev pub server_as : (ℕ → List ℕ → List ℕ → Answer Server) → (Server → List ℕ → Answer Server) → (Server → List ℕ → Answer Server) → ServerCalls
server_as opens take take_packet =
    record {
      Server = Server;
      items = server_calls.items;
      total = server_calls.total;
      made = server_calls.made;
      taken = server_calls.taken;
      opens = opens;
      send = server_calls.send;
      tell = server_calls.tell;
      take = take;
      pack = server_calls.pack;
      take_packet = take_packet;
    }

abbrev pub inserting_as : (Client → ℕ → ℕ → Answer Client) → Sheet
inserting_as insert = sheet_of (client_as open_client insert take_client packet_client) server_calls

-- both ends take in another way
abbrev pub taking_as : (Client → List ℕ → Answer Client) → (Server → List ℕ → Answer Server) → Sheet
taking_as client server = sheet_of (client_as open_client insert_client client (unpacked sound_client client)) (server_as open_server server (unpacked sound_server server))

-- ---- the list

-- The list is left be while the counts rise.
abbrev pub leaving : Sheet
leaving = inserting_as (λ c p x. answer_as (showing c.items) (insert_client c p x))
  where
    showing : List Place → Client → Client
    showing l c = with c l c.own c.inverse

-- A client with something beside it.
pub record Beside (A : Type 0) : Type 0 where
  pub now : Client
  pub beside : A

-- the client with what it should have beside it
abbrev pub having : {A : Type 0} → (Client → A) → Client → Beside A
having f c = record { now = c; beside = f c }

-- the end after an answer
abbrev pub becoming : {A : Type 0} → Beside A → (Client → Beside A) → Answer Client → Answer (Beside A)
becoming e f a = record { refusal = a.refusal; end = cond (eqb a.refusal 0) (f a.end) e; report = a.report }

-- ours, with what stands beside a client after an insert and after a delete, and the list and the total that it shows
abbrev pub beside_as : {A : Type 0} → (Client → A) → (A → Client → A) → (A → Client → A) → (Beside A → List Place) → (Beside A → ℕ) → Sheet
beside_as {A} right inserted deleted items total =
    sheet_of
    (record {
      Client = Beside A;
      items = items;
      total = total;
      made = λ e. e.now.own.made;
      taken = λ e. e.now.own.taken;
      opens = λ n l ranks xs. answer_as (having right) (client_calls.opens n l ranks xs);
      insert = λ e p x. becoming e (λ c. record { now = c; beside = inserted e.beside c }) (insert_client e.now p x);
      delete = λ e p. becoming e (λ c. record { now = c; beside = deleted e.beside c }) (client_calls.delete e.now p);
      take_back = λ e. becoming e (having right) (client_calls.take_back e.now);
      send = λ e. client_calls.send e.now;
      tell = λ e. client_calls.tell e.now;
      take = λ e bytes. becoming e (having right) (take_client e.now bytes);
      pack = λ e. client_calls.pack e.now;
      take_packet = λ e bytes. becoming e (having right) (client_calls.take_packet e.now bytes);
    })
    server_calls

-- What clients show is made of their own list; after an insert, of that and the list that was shown before.
abbrev pub showing_as : (List Place → List Place) → (List Place → List Place → List Place) → Sheet
showing_as usual inserted =
    beside_as (λ c. usual c.items) (λ before c. inserted before c.items) (λ before c. usual c.items) (λ e. e.beside)
    (λ e. client_calls.total e.now)

-- An earlier list is shown again: after an insert a client shows the list that it showed before.
abbrev pub repeating : Sheet
repeating = showing_as (λ own. own) (λ before own. before)

-- Two steps change places for a moment: after an insert a client shows its list turned round.
abbrev pub turning : Sheet
turning = showing_as (λ own. own) (λ before own. reverse own)

-- Two steps stand the other way round at another end: clients always show their list turned round.
abbrev pub mirroring : Sheet
mirroring = showing_as reverse (λ before own. reverse own)

-- ---- the total

-- A delete does not subtract.
abbrev pub unsubtracted : Sheet
unsubtracted = beside_as client_calls.total (λ t c. client_calls.total c) (λ t c. t) (λ e. e.now.items) (λ e. e.beside)

-- ---- taking

-- The arriving edit is transformed past the first pending edit only, and the rest is copied.
abbrev pub past_first : Edit → List Edit → Edit
past_first e [] = e
past_first e (p ∷ ps) = transformed e p

abbrev pub over_first : Edit → List Edit → List Edit
over_first e [] = []
over_first e (p ∷ ps) = transformed p e ∷ ps

abbrev pub takes_first : Client → Header → Edit → Answer Client
takes_first c h e =
    answer (asks (client_edit_questions c h e)) c
    (with c (applied_by h.origin (past_first e (unacked c.own h.seen)) c.items)
    (record {
      made = c.own.made;
      taken = c.own.taken + 1;
      acked = h.seen;
      inserts = c.own.inserts;
      pending = over_first e (unacked c.own h.seen);
    })
    (inverse_then c h.seen e))
    (line_report c.own h.seen e)

abbrev pub reads_first : Client → Option Message → Answer Client
reads_first c None = answer 3 c c no_report
reads_first c (Some m) = takes_by (takes_first c) (client_takes_ack c) m

abbrev pub first_only : Sheet
first_only = taking_as (λ c bytes. reads_first c (parsed bytes)) take_server

-- Every message is turned down.
abbrev pub refusing : Sheet
refusing = taking_as (λ c bytes. record { refusal = 4; end = c; report = no_report }) (λ s bytes. record { refusal = 4; end = s; report = no_report })

-- The count of pending edits passed is made up: one too many.
abbrev pub miscounting : Sheet
miscounting = taking_as (λ c bytes. one (take_client c bytes)) (λ s bytes. one (take_server s bytes))
  where
    more : Report → Report
    more k = record { passed = suc k.passed; arrived = k.arrived; applied = k.applied }

    one : {A : Type 0} → Answer A → Answer A
    one a = record { refusal = a.refusal; end = a.end; report = cond (eqb a.refusal 0) (more a.report) no_report }

-- Takings report another thing than they should.
abbrev pub reporting_as : (Report → Report) → Sheet
reporting_as f = taking_as (λ c bytes. another (take_client c bytes)) (λ s bytes. another (take_server s bytes))
  where
    another : {A : Type 0} → Answer A → Answer A
    another a = record { refusal = a.refusal; end = a.end; report = f a.report }

-- The position that arrived is reported twice.
abbrev pub arrived_twice : Sheet
arrived_twice = reporting_as (λ k. record { passed = k.passed; arrived = k.arrived; applied = k.arrived })

-- An edit that is gone reports a position: the one in which it arrived.
abbrev pub gone_shown : Sheet
gone_shown = reporting_as (λ k. record { passed = k.passed; arrived = k.arrived; applied = cond (eqb k.applied 0) k.arrived k.applied })

-- A taking that is refused with number r is answered 0 instead, and changes nothing. With 3 that is: bytes that no message has are taken; with
-- 4 a message that goes elsewhere, with 5 a repeated one, with 6 one that comes too early, with 7 one whose seen is overtaken.
abbrev pub forgiving : ℕ → Sheet
forgiving r = taking_as (λ c bytes. forgive (take_client c bytes)) (λ s bytes. forgive (take_server s bytes))
  where
    forgive : {A : Type 0} → Answer A → Answer A
    forgive a = record { refusal = cond (eqb a.refusal r) 0 a.refusal; end = a.end; report = a.report }

-- The seen of a repeated message is used to drop pending edits.
abbrev pub uses_seen : Client → Answer Client → Option Message → Answer Client
uses_seen c a (Some m) = takes_by (λ h e. cond (eqb a.refusal 5) (record { refusal = 5; end = client_acked c h.seen; report = no_report }) a) (λ l d s. a) m
uses_seen c a None = a

abbrev pub listening : Sheet
listening = taking_as (λ c bytes. uses_seen c (take_client c bytes) (parsed bytes)) take_server

-- ---- room

-- Question 12 of the server with another bound: it says no where some other line has `room` pending edits.
abbrev pub room_below : ℕ → Server → ℕ → Answer Server → Answer Server
room_below room s line a =
    cond (eqb a.refusal 0 && not (all_but (λ j. ltb ((line_of s j).made - (line_of s j).acked) room) line s.n))
    (record { refusal = 12; end = s; report = no_report }) a

abbrev pub takes_below : ℕ → Server → Option Message → Answer Server
takes_below room s = reads_by sound_server s (takes_by (λ h e. room_below room s h.line (server_takes_edit s h e)) (server_takes_ack s))

abbrev pub early : ℕ → Sheet
early room = taking_as take_client (λ s bytes. takes_below room s (parsed bytes))

-- ---- editing

-- Every insert is turned down.
abbrev pub frozen : Sheet
frozen = inserting_as (λ c p x. record { refusal = 9; end = c; report = no_report })

-- ---- ranks

-- An opening that is let through gives other ranks: to the clients, and to the server.
abbrev pub client_ranked : (Client → List ℕ) → Client → Client
client_ranked ranks c = record { n = c.n; line = c.line; ranks = ranks c; items = c.items; own = c.own; inverse = c.inverse }

abbrev pub server_ranked : (Server → List ℕ) → Server → Server
server_ranked ranks s = record { n = s.n; initial = s.initial; ranks = ranks s; items = s.items; lines = s.lines; makers = s.makers }

abbrev pub ranking_as : (Client → List ℕ) → (Server → List ℕ) → Sheet
ranking_as client_ranks server_ranks =
    sheet_of
    (client_as (λ n l ranks items. answer_as (client_ranked client_ranks) (open_client n l ranks items)) insert_client take_client packet_client)
    (server_as (λ n ranks items. answer_as (server_ranked server_ranks) (open_server n ranks items)) take_server packet_server)

-- The ranks are ignored: the lower line stays in a tie.
abbrev pub by_line : Sheet
by_line = ranking_as (λ c. line_ranks c.n) (λ s. line_ranks s.n)

-- The server has other ranks than the clients.
abbrev pub other_ranks : Sheet
other_ranks = ranking_as (λ c. c.ranks) (λ s. reverse s.ranks)

-- ---- origins

-- A client gives the steps that it takes another origin than the message says.
abbrev pub takes_as : (Header → Origin) → Client → Header → Edit → Answer Client
takes_as origin c h e = answer (asks (client_edit_questions c h e)) c (client_taken c (origin h) h.seen e) (line_report c.own h.seen e)

abbrev pub reads_as : (Header → Origin) → Client → Option Message → Answer Client
reads_as origin c = reads_by sound_client c (takes_by (takes_as origin c) (client_takes_ack c))

abbrev pub origin_as : (Header → Origin) → Sheet
origin_as origin = taking_as (λ c bytes. reads_as origin c (parsed bytes)) take_server

-- The line that the message came on in place of the maker's.
abbrev pub by_sender : Sheet
by_sender = origin_as (λ h. record { line = h.line; number = h.origin.number })

-- The message's number in place of the maker's.
abbrev pub by_message : Sheet
by_message = origin_as (λ h. record { line = h.origin.line; number = h.number })

-- ---- taking back

-- A taking leaves another inverse, by the one stored, the client as it was, and the message's seen and edit.
abbrev pub carrying_as : (Client → ℕ → Edit → Edit) → Sheet
carrying_as inverse = taking_as (λ c bytes. reads_by sound_client c (takes_by (takes c) (client_takes_ack c)) (parsed bytes)) take_server
  where
    takes : Client → Header → Edit → Answer Client
    takes c h e =
        let then = client_taken c h.origin h.seen e in
        answer (asks (client_edit_questions c h e)) c (with then then.items then.own (inverse c h.seen e)) (line_report c.own h.seen e)

-- The inverse is not carried.
abbrev pub uncarried : Sheet
uncarried = carrying_as (λ c seen e. c.inverse)

-- It is carried past the form that arrived.
abbrev pub carried_past_arrived : Sheet
carried_past_arrived = carrying_as (λ c seen e. transformed c.inverse e)

-- ---- packets

abbrev pub packets_as : (Client → List ℕ → Answer Client) → (Server → List ℕ → Answer Server) → Sheet
packets_as takes_client takes_server = sheet_of (client_as open_client insert_client take_client takes_client) (server_as open_server take_server takes_server)

-- A packet goes on after a refusal: the messages behind the refused one are taken too.
unfoldable pub goes_on : {E : Type 0} → (E → List ℕ → Answer E) → ℕ → ℕ → ℕ → E → List ℕ → Answer E
goes_on taking zero count first e bytes = record { refusal = first; end = e; report = counted count }
goes_on taking (suc most) count first e bytes =
    let a = taking e (take (next_size bytes) bytes) in
    let taken = eqb a.refusal 0 in
    cond (eqb (length bytes) 0) (record { refusal = first; end = e; report = counted count })
    (goes_on taking most (cond taken (suc count) count) (cond (eqb first 0) a.refusal first) a.end (drop (next_size bytes) bytes))

abbrev pub going_on : Sheet
going_on = packets_as (λ c bytes. goes_on take_client (length bytes) 0 0 c bytes) (λ s bytes. goes_on take_server (length bytes) 0 0 s bytes)

-- What was taken before a refusal is forgotten: the end is handed back as it came.
abbrev pub forgets : {E : Type 0} → (E → List ℕ → Answer E) → E → List ℕ → Answer E
forgets taking e bytes =
    let a = handed_over taking (length bytes) 0 e bytes in
    cond (eqb a.refusal 0) a (record { refusal = a.refusal; end = e; report = no_report })

abbrev pub forgetting : Sheet
forgetting = packets_as (forgets take_client) (forgets take_server)

-- None of them has what is claimed.
pub record Refuted : Type 0 where
  pub leaving_fails : Converges leaving → ⊥
  pub repeating_fails : Converges repeating → ⊥
  pub unsubtracted_fails : Converges unsubtracted → ⊥
  pub first_only_fails : Converges first_only → ⊥
  pub refusing_fails : Converges refusing → ⊥
  pub miscounting_fails : Converges miscounting → ⊥
  pub junk_taken_fails : Converges (forgiving 3) → ⊥
  pub misdirected_taken_fails : Converges (forgiving 4) → ⊥
  pub repeat_taken_fails : Converges (forgiving 5) → ⊥
  pub gap_taken_fails : Converges (forgiving 6) → ⊥
  pub overtaken_taken_fails : Converges (forgiving 7) → ⊥
  pub listening_fails : Converges listening → ⊥
  pub early_fails : Converges (early 1) → ⊥
  -- one below the limit
  pub nearly_fails : Converges (early 63) → ⊥
  pub frozen_fails : Converges frozen → ⊥
  pub by_line_fails : Converges by_line → ⊥
  pub other_ranks_fails : Converges other_ranks → ⊥
  pub by_sender_fails : Converges by_sender → ⊥
  pub by_message_fails : Converges by_message → ⊥
  pub arrived_twice_fails : Converges arrived_twice → ⊥
  pub gone_shown_fails : Converges gone_shown → ⊥
  pub uncarried_fails : Converges uncarried → ⊥
  pub carried_past_arrived_fails : Converges carried_past_arrived → ⊥
  pub going_on_fails : Converges going_on → ⊥
  pub forgetting_fails : Converges forgetting → ⊥
  -- not what is said of the order of steps
  pub turning_fails : OneOrder turning → ⊥
  pub mirroring_fails : OneOrder mirroring → ⊥
