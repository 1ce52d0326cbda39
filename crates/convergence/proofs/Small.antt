-- What every answer of the structs has: its refusal and its report fit the number that an exported call answers, and a new end has its
-- lengths.
use Prim.Native.Nat.{ℕ, ◌+◌, ◌-◌, ◌≤◌, ◌<◌}
use native.Mathlib.Omega.{arith}
use mathlib.Core.Path.{◌≡◌, refl, sym, subst}
use mathlib.Core.Bool.{Bool, true, false, ◌&&◌, cond}
use mathlib.Core.List.{List, [], ◌∷◌, ◌++◌, map}
use lib.Dec.{eqb, leb}
use lib.ListN.{length}
use borrow.Author.Tests.{leb-true}
use Rattle.std.specs.Prelude.{Option, Some, None}
use Rattle.ot.specs.Form.{position_of}
use Rattle.ot.specs.Edit.{Edit, Nothing, Delete, Insert, fits}
use Rattle.list.specs.Places.{initial_places}
use Rattle.wire.specs.declared.Header.{Header}
use Rattle.wire.specs.declared.Message.{Message}
use Rattle.wire.specs.declared.Message.TheVariants as message
use Rattle.wire.specs.Message.{in_range}
use Rattle.wire.specs.Bytes.{bytes_of, parsed}
use Rattle.wire.proofs.Codec.{codec}
use Rattle.model.specs.Cross.{priority}
use Rattle.model.specs.Limits.{max_pending}
use Rattle.model.specs.Questions.{Question, ask, asks, between, Report, no_report, Answer, answer, Sent, sent}
use Rattle.model.specs.Ranks.{rank_of}
use Rattle.model.specs.Packets.{first_fits, packed}
use Rattle.model.specs.Line.{no_line, numbers_from, carried, position_at, line_report}
use Rattle.model.specs.Client as model
use Rattle.model.specs.Server as models
use Rattle.model.proofs.Tests.{Numbered, and_right, yes_all, between_true, four}
use Rattle.model.proofs.WritesPackets.{packed_number}
use Rattle.model.proofs.Outcome as outcomes
use Rattle.model.proofs.Outcome.{Outcome, outcome, Posted, posted}
use Rattle.model.proofs.Sound.{three}
use Rattle.model.proofs.SoundClient.{client_facts}
use Rattle.model.proofs.SoundServer.{server_facts, line_fact}
use Rattle.line.specs.Taking.{arrival_of}
use Rattle.line.proofs.Packets.{written_small}
use Rattle.line.proofs.Decisions.{arrival_position}
use Rattle.c_layout.proofs.Called.{sent_few}

-- ---- questions have small numbers

abbrev Numbers : List Question → Type 0
Numbers [] = Unit {0}
Numbers (q ∷ qs) = (q.number < 256) × Numbers qs

asks_small : (qs : List Question) → Numbers qs → asks qs < 256
asks_small [] h = omega arith
asks_small (q ∷ qs) h = go q.yes (asks_small qs h.1)
  where
    go : (b : Bool) → asks qs < 256 → cond b (asks qs) q.number < 256
    go true k = k
    go false k = h.0

-- an answer fits its number, and its report in 16 bits a number
pub record Narrow (k : Report) : Type 0 where
  pub passed : k.passed < 65536
  pub arrived : k.arrived < 65536
  pub applied : k.applied < 65536

abbrev pub Small : {E : Type 0} → Answer E → Type 0
Small a = (a.refusal < 256) × Narrow a.report

pub nothing_narrow : Narrow no_report
nothing_narrow = record { passed = omega arith; arrived = omega arith; applied = omega arith }

-- an answer whose report is narrow where nothing was refused
answer_small : {E : Type 0} (qs : List Question) (old new : E) (k : Report) → Numbers qs → (asks qs ≡ 0 → Narrow k) → Small (answer (asks qs) old new k)
answer_small {E} qs old new k h few = go (answer (asks qs) old new k) (outcome (asks qs) old new k)
  where
    go : (a : Answer E) → Outcome (asks qs) old new k a → Small a
    go a (outcomes.Outcome.no d) = (asks_small qs h, nothing_narrow)
    go a (outcomes.Outcome.yes e) = (omega arith, few e)

pub record Little (s : Sent) : Type 0 where
  pub refusal : s.refusal < 256
  pub written : s.written < 65536

sent_little : (qs : List Question) (m : Message) (lent : List ℕ) → Numbers qs → Little (sent (asks qs) (bytes_of m) lent)
sent_little qs m lent h =
    record { refusal = go (sent (asks qs) (bytes_of m) lent) (posted (asks qs) (bytes_of m) lent); written = omega (arith, sent_few (asks qs) m lent) }
  where
    go : (a : Sent) → Posted (asks qs) (bytes_of m) lent a → a.refusal < 256
    go a (outcomes.Posted.no d) = asks_small qs h
    go a (outcomes.Posted.yes e) = omega arith

-- ---- an edit's positions

-- where it arrived, of a message that was read
arrived_low : (m : Message) → in_range m ≡ true → position_of (arrival_of m).form < 65536
arrived_low m t = omega (arith, arrival_position m t)

-- where it is applied, on a list that it fits
applied_low : (e : Edit) (n : ℕ) → n < 65535 → fits e n ≡ true → position_at e < 65536
unfolding fits
applied_low Nothing n h t = omega arith
applied_low (Delete p) n h t = omega (arith, leb-true p n (and_right (leb 1 p) (leb p n) t))
applied_low (Insert p x r) n h t = omega (arith, leb-true p (n + 1) (and_right (leb 1 p) (leb p (n + 1)) t))

-- question 9 said yes
taken_low : (e : Edit) (n : ℕ) (placed short : Bool) → n ≤ 512 → (fits e n && placed && short) ≡ true → position_at e < 65536
taken_low e n placed short few t = applied_low e n (omega arith) (three (fits e n) placed short t).0

-- ---- the client's answers

pub edit_small : (m : model.Client) (e : Edit) → Small (model.edit_client m e)
unfolding model.edit_client
edit_small m e = answer_small (model.edit_questions m e) m (model.edited m e) no_report (omega arith) (λ z. nothing_narrow)

pub undo_small : (m : model.Client) → Small (model.take_back_client m)
unfolding model.take_back_client
undo_small m = answer_small (model.take_back_questions m) m (model.edited m m.inverse) no_report (omega arith) (λ z. nothing_narrow)

client_takes_edit_lem : (m : model.Client) (h : Header) (e : Edit) → position_at e < 65536 → Small (model.client_takes_edit m h e)
unfolding model.client_takes_edit
client_takes_edit_lem m h e low =
    answer_small (model.client_edit_questions m h e) m (model.client_taken m h.origin h.seen e) (line_report m.own h.seen e) (omega arith)
    (λ z.
    let y = yes_all (model.client_edit_questions m h e) (omega arith) z in
    let facts = client_facts m y.0 in
    record { passed = omega (arith, facts.own.edits); arrived = low; applied = taken_low (carried m.own h.seen e) (length m.items) _ _ facts.items y.1.1.1.1.1.1.0 })

client_takes_ack_lem : (m : model.Client) (l d s : ℕ) → Small (model.client_takes_ack m l d s)
unfolding model.client_takes_ack
client_takes_ack_lem m l d s = answer_small (model.client_ack_questions m l d s) m (model.client_acked m s) no_report (omega arith) (λ z. nothing_narrow)

client_reads_lem : (m : model.Client) (r : Option Message) → ((x : Message) → r ≡ Some x → in_range x ≡ true) → Small (model.client_reads m r)
client_reads_lem m None t = answer_small (ask 2 (model.sound_client m) ∷ ask 3 false ∷ []) m m no_report (omega arith) (λ z. nothing_narrow)
client_reads_lem m (Some (message.Insert h p x q)) t = client_takes_edit_lem m h (Insert p x q) (arrived_low (message.Insert h p x q) (t (message.Insert h p x q) refl))
client_reads_lem m (Some (message.Delete h p)) t = client_takes_edit_lem m h (Delete p) (arrived_low (message.Delete h p) (t (message.Delete h p) refl))
client_reads_lem m (Some (message.Nothing h)) t = client_takes_edit_lem m h Nothing (arrived_low (message.Nothing h) (t (message.Nothing h) refl))
client_reads_lem m (Some (message.Ack l d s)) t = client_takes_ack_lem m l d s

pub client_take_small : (m : model.Client) (bytes : List ℕ) → Small (model.take_client m bytes)
unfolding model.take_client
client_take_small m bytes = client_reads_lem m (parsed bytes) (codec.read_in_range bytes)

pub client_open_small : (n l : ℕ) (ranks items : List ℕ) → Small (model.open_client n l ranks items)
unfolding model.open_client
client_open_small n l ranks items =
    answer_small (model.open_client_questions n l ranks items) model.no_client (record { n = n; line = l; ranks = ranks; items = initial_places items; own = no_line; inverse = Nothing }) no_report
    (omega arith) (λ z. nothing_narrow)

pub client_send_little : (m : model.Client) (l number : ℕ) (lent : List ℕ) → Little (model.send_client m l number lent)
unfolding model.send_client
client_send_little m l number lent = sent_little (model.send_client_questions m l number lent) (model.client_message m number) lent (omega arith)

pub client_tell_little : (m : model.Client) (l : ℕ) (lent : List ℕ) → Little (model.tell_client m l lent)
unfolding model.tell_client
client_tell_little m l lent = sent_little (model.tell_client_questions m l lent) (message.Ack m.line 0 m.own.taken) lent (omega arith)

-- a packet: at most 64 edits are pending where question 2 says yes
packed_little : (qs : List Question) (f : ℕ → Message) (from count offset : ℕ) (lent : List ℕ) → Numbers qs → Numbered qs → (asks qs ≡ 0 → count ≤ max_pending)
    → Little (packed qs (map (λ k. bytes_of (f k)) (numbers_from from count)) offset lent)
packed_little qs f from count offset lent h numbered few =
    let ms = map (λ k. bytes_of (f k)) (numbers_from from count) in
    record {
      refusal = subst (λ (r : ℕ). r < 256) (sym (packed_number qs ms offset lent)) (asks_small (qs ++ (ask 14 (first_fits (length lent - offset) ms) ∷ [])) (numbers_append qs (ask 14 (first_fits (length lent - offset) ms) ∷ []) h (omega arith, tt)));
      written = omega (arith, written_small qs f from count offset lent numbered few);
    }
  where
    numbers_append : (qs ps : List Question) → Numbers qs → Numbers ps → Numbers (qs ++ ps)
    numbers_append [] ps h k = k
    numbers_append (q ∷ qs) ps h k = (h.0, numbers_append qs ps h.1 k)

pub client_pack_little : (m : model.Client) (l : ℕ) (lent : List ℕ) (offset : ℕ) → Little (model.pack_client m l lent offset)
unfolding model.pack_client
client_pack_little m l lent offset =
    let qs : List Question = ask 2 (model.sound_client m) ∷ ask 4 (eqb l m.line) ∷ [] in
    packed_little qs (model.client_message m) (m.own.acked + 1) (m.own.made - m.own.acked) offset lent (omega arith) (omega arith)
    (λ z. (client_facts m (yes_all qs (omega arith) z).0).own.room)

-- ---- the server's answers

server_takes_edit_lem : (m : models.Server) (h : Header) (e : Edit) → position_at e < 65536 → Small (models.server_takes_edit m h e)
unfolding models.server_takes_edit
server_takes_edit_lem m h e low =
    answer_small (models.server_edit_questions m h e) m (models.server_taken m h.line h.origin h.seen e) (line_report (models.line_of m h.line) h.seen e)
    (omega arith)
    (λ z.
    let y = yes_all (models.server_edit_questions m h e) (omega arith) z in
    let asked = four (eqb h.direction 0) (between 1 m.n h.line) (priority (eqb (rank_of m.ranks h.line)) e) (models.own_origin h) y.1.0 in
    let on = between_true 1 m.n h.line asked.1 in
    let seen = leb-true (models.line_of m h.line).acked h.seen y.1.1.1.1.0 in
    let facts = server_facts m y.0 in
    record {
      passed = omega (arith, seen, (line_fact m facts h.line on.0 on.1).line.room);
      arrived = low;
      applied = taken_low (carried (models.line_of m h.line) h.seen e) (length m.items) _ _ facts.items y.1.1.1.1.1.1.0;
    })

server_takes_ack_lem : (m : models.Server) (l d s : ℕ) → Small (models.server_takes_ack m l d s)
unfolding models.server_takes_ack
server_takes_ack_lem m l d s = answer_small (models.server_ack_questions m l d s) m (models.server_acked m l s) no_report (omega arith) (λ z. nothing_narrow)

server_reads_lem : (m : models.Server) (r : Option Message) → ((x : Message) → r ≡ Some x → in_range x ≡ true) → Small (models.server_reads m r)
server_reads_lem m None t = answer_small (ask 2 (models.sound_server m) ∷ ask 3 false ∷ []) m m no_report (omega arith) (λ z. nothing_narrow)
server_reads_lem m (Some (message.Insert h p x q)) t = server_takes_edit_lem m h (Insert p x q) (arrived_low (message.Insert h p x q) (t (message.Insert h p x q) refl))
server_reads_lem m (Some (message.Delete h p)) t = server_takes_edit_lem m h (Delete p) (arrived_low (message.Delete h p) (t (message.Delete h p) refl))
server_reads_lem m (Some (message.Nothing h)) t = server_takes_edit_lem m h Nothing (arrived_low (message.Nothing h) (t (message.Nothing h) refl))
server_reads_lem m (Some (message.Ack l d s)) t = server_takes_ack_lem m l d s

pub server_take_small : (m : models.Server) (bytes : List ℕ) → Small (models.take_server m bytes)
unfolding models.take_server
server_take_small m bytes = server_reads_lem m (parsed bytes) (codec.read_in_range bytes)

pub server_open_small : (n : ℕ) (ranks items : List ℕ) → Small (models.open_server n ranks items)
unfolding models.open_server
server_open_small n ranks items = answer_small (models.open_server_questions n ranks items) models.no_server _ no_report (omega arith) (λ z. nothing_narrow)

pub server_send_little : (m : models.Server) (l number : ℕ) (lent : List ℕ) → Little (models.send_server m l number lent)
unfolding models.send_server
server_send_little m l number lent = sent_little (models.send_server_questions m l number lent) (models.server_message m l number) lent (omega arith)

pub server_tell_little : (m : models.Server) (l : ℕ) (lent : List ℕ) → Little (models.tell_server m l lent)
unfolding models.tell_server
server_tell_little m l lent = sent_little (models.tell_server_questions m l lent) (message.Ack l 1 (models.line_of m l).taken) lent (omega arith)

pub server_pack_little : (m : models.Server) (l : ℕ) (lent : List ℕ) (offset : ℕ) → Little (models.pack_server m l lent offset)
unfolding models.pack_server
server_pack_little m l lent offset =
    let qs : List Question = ask 2 (models.sound_server m) ∷ ask 4 (between 1 m.n l) ∷ [] in
    packed_little qs (models.server_message m l) ((models.line_of m l).acked + 1) ((models.line_of m l).made - (models.line_of m l).acked) offset lent (omega arith) (omega arith)
    (λ z.
    let y = yes_all qs (omega arith) z in
    let on = between_true 1 m.n l y.1.0 in
    (line_fact m (server_facts m y.0) l on.0 on.1).line.room)
