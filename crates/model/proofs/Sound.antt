-- Question 2 is kept by every call.
use mathlib.Core.Path.{◌≡◌, refl, sym, subst}
use mathlib.Core.Bool.{Bool, true, false}
use mathlib.Core.List.{List, [], ◌∷◌}
use Prim.Native.Nat.{ℕ, zero, suc, ◌+◌, ◌-◌}
use native.Mathlib.Omega.{arith}
use lib.Dec.{leb, eqb}
use lib.ListN.{length, replicate, length-replicate}
use borrow.Author.Tests.{leb-true, ltb-true, eq-eqb, eqb-true}
use Rattle.ot.specs.Edit.{Edit, Nothing, Delete, Insert, fits}
use Rattle.ot.specs.Laws.{within}
use Rattle.list.specs.Places.{initial_places}
use Rattle.list.proofs.Places.{initial_length, initial_numbered}
use Rattle.wire.specs.declared.Header.{Header}
use Rattle.wire.specs.Message.{header_in_range}
use Rattle.wire.proofs.Ranges.{header_bounds}
use Rattle.model.specs.Limits.{max_lines, max_inserts, max_pending, max_items, max_initial}
use Rattle.model.specs.Questions.{ask, asks, between, Report, no_report, Answer, answer}
use Rattle.model.specs.Cross.{priority, inserts_of}
use Rattle.model.specs.Ranks.{rank_of}
use Rattle.model.specs.Line.{Line, no_line, other, line_report}
use Rattle.model.specs.Client.{Client, own_rank, no_client, sound_client, open_client_questions, open_client, list_then, edited, make_questions, edit_questions, edit_client, take_back_questions, take_back_client, client_taken, client_acked, client_edit_questions, client_takes_edit, client_ack_questions, client_takes_ack, take_client}
use Rattle.model.specs.Server.{Server, no_server, line_of, total, other_makers, own_origin, sound_server, open_server_questions, open_server, server_taken, server_acked, server_edit_questions, server_takes_edit, server_ack_questions, server_takes_ack, take_server}
use Rattle.model.specs.Sound.{KeepsSound}
pub use Rattle.model.proofs.Tests.{three}
use Rattle.model.proofs.Tests.{four, and_left, and_right, hold, Yes, yes_all, answer_keeps, between_true}
use Rattle.model.proofs.Outcome.{by_bytes}
use Rattle.model.proofs.SoundLine.{no_line_lem, asked}
use Rattle.model.proofs.SoundClient.{client_facts, facts_client, carry_questions, edited_sound, taken_sound, acked_sound}
use Rattle.model.proofs.SoundServer.{LinesFacts, MakersFacts, server_facts, facts_server, inserts_one, last_questions, server_taken_sound, server_acked_sound}

-- An answer with refusal 0 hands out the new end.
pub accepted : {E : Type 0} (r : ℕ) (old new : E) (k : Report) → (answer r old new k).refusal ≡ 0 → r ≡ 0
unfolding answer
accepted {E} r old new k e = go (eqb r 0) refl e
  where
    go : (b : Bool) → eqb r 0 ≡ b → (mathlib.Core.Bool.cond {A = Answer E} b (record { refusal = 0; end = new; report = k }) (record { refusal = r; end = old; report = no_report })).refusal ≡ 0 → r ≡ 0
    go true h e' = eqb-true r 0 h
    go false h e' = e'

pub new_end : {E : Type 0} (r : ℕ) (old new : E) (k : Report) → r ≡ 0 → answer r old new k ≡ record { refusal = 0; end = new; report = k }
unfolding answer
new_end r old new k e = rw e

pub opens_client : (n line : ℕ) (ranks items : List ℕ) → (open_client n line ranks items).refusal ≡ 0 → sound_client (open_client n line ranks items).end ≡ true
unfolding open_client within
opens_client n line ranks items e =
    let c : Client = record { n = n; line = line; ranks = ranks; items = initial_places items; own = no_line; inverse = Nothing } in
    let r = asks (open_client_questions n line ranks items) in
    let z : r ≡ 0 = accepted r no_client c no_report e in
    let y = yes_all (open_client_questions n line ranks items) (omega arith) z in
    let h = hold (between 1 max_lines n ∷ between 1 n line ∷ leb (length items) max_initial ∷ []) y.0 in
    let most = leb-true (length items) max_initial h.1.1.0 in
    subst (λ (a : Answer Client). sound_client a.end ≡ true) (sym (new_end r no_client c no_report z))
    (facts_client c
    (record {
      lines = between_true 1 max_lines n h.0;
      line = between_true 1 n line h.1.0;
      ranked = y.1.0;
      items = omega (arith, most, initial_length items);
      numbers = initial_numbered items most;
      taken = omega arith;
      inverse = record { stands = refl; rank = refl; none = λ z. refl };
      own = no_line_lem (eqb (own_rank c));
    }))

-- An edit of the client's own, where 9 to 12 said yes: its priority, where it has one, is the client's rank.
made_sound : (c : Client) (e : Edit) → priority (eqb (own_rank c)) e ≡ true → sound_client c ≡ true → Yes (make_questions c e) → sound_client (edited c e) ≡ true
made_sound c e p s y =
    let q9 = y.0 in
    facts_client (edited c e)
    (edited_sound c e (client_facts c s) p
    (and_left (fits e (length c.items)) (leb (length (list_then c e)) max_items) q9)
    (leb-true (length (list_then c e)) max_items (and_right (fits e (length c.items)) (leb (length (list_then c e)) max_items) q9))
    (omega (arith, leb-true (c.own.inserts + inserts_of e) _ y.1.0))
    (omega (arith, ltb-true c.own.made _ y.1.1.0))
    (ltb-true (c.own.made - c.own.acked) max_pending y.1.1.1.0)
    (inserts_one e))

pub edits_sound : (c : Client) (e : Edit) → priority (eqb (own_rank c)) e ≡ true → sound_client c ≡ true → sound_client (edit_client c e).end ≡ true
unfolding edit_client
edits_sound c e p s =
    answer_keeps (λ d. sound_client d ≡ true) (asks (edit_questions c e)) c (edited c e) no_report s
    (λ z. made_sound c e p s (yes_all (edit_questions c e) (omega arith) z).1)

pub takes_back : (c : Client) → sound_client c ≡ true → sound_client (take_back_client c).end ≡ true
unfolding take_back_client
takes_back c s =
    answer_keeps (λ d. sound_client d ≡ true) (asks (take_back_questions c)) c (edited c c.inverse) no_report s
    (λ z. made_sound c c.inverse (client_facts c s).inverse.rank s (yes_all (take_back_questions c) (omega arith) z).1.1)

pub client_takes_edit_lem : (c : Client) (h : Header) (e : Edit) → header_in_range h ≡ true → sound_client c ≡ true → sound_client (client_takes_edit c h e).end ≡ true
unfolding client_takes_edit
client_takes_edit_lem c h e range s =
    answer_keeps (λ d. sound_client d ≡ true) (asks (client_edit_questions c h e)) c (client_taken c h.origin h.seen e) _ s
    (λ z.
    let y = yes_all (client_edit_questions c h e) (omega arith) z in
    let q = asked c.own c.items h e (carry_questions c h e) y.1.1 in
    let bounds = header_bounds h range in
    facts_client (client_taken c h.origin h.seen e)
    (taken_sound c h e (client_facts c s) q (omega (arith, q.next, bounds.number_high)) bounds.made_high y.1.1.1.1.1.1.1.0))

pub client_takes_ack_lem : (c : Client) (l d seen : ℕ) → sound_client c ≡ true → sound_client (client_takes_ack c l d seen).end ≡ true
unfolding client_takes_ack
client_takes_ack_lem c l d seen s =
    answer_keeps (λ x. sound_client x ≡ true) (asks (client_ack_questions c l d seen)) c (client_acked c seen) no_report s
    (λ z.
    let y = yes_all (client_ack_questions c l d seen) (omega arith) z in
    facts_client (client_acked c seen)
    (acked_sound c seen (client_facts c s) (leb-true c.own.acked seen y.1.1.0) (leb-true seen c.own.made y.1.1.1.0)))

pub client_takes_lem : (c : Client) (bytes : List ℕ) → sound_client c ≡ true → sound_client (take_client c bytes).end ≡ true
unfolding take_client
client_takes_lem c bytes s =
    by_bytes (λ a. sound_client a.end ≡ true) sound_client c (client_takes_edit c) (client_takes_ack c)
    (answer_keeps (λ d. sound_client d ≡ true) (asks (ask 2 (sound_client c) ∷ ask 3 false ∷ [])) c c no_report s (λ z. s))
    (λ h e range. client_takes_edit_lem c h e range s) (λ l d k. client_takes_ack_lem c l d k s) bytes

-- ---- the server

fresh_lines : (n : ℕ) (ranks : List ℕ) (l k : ℕ) → LinesFacts n ranks 0 l (replicate k no_line)
fresh_lines n ranks l zero = tt
fresh_lines n ranks l (suc k) = (
  record { made = refl; line = no_line_lem (other n (rank_of ranks l)) },
  fresh_lines n ranks (suc l) k,
)

fresh_makers : (n l k : ℕ) → MakersFacts n l (replicate k no_line) (replicate k [])
unfolding other_makers
fresh_makers n l zero = tt
fresh_makers n l (suc k) = (record { count = refl; others = refl }, fresh_makers n (suc l) k)

fresh_total : (f : Line → ℕ) → f no_line ≡ 0 → (k : ℕ) → total f (replicate k no_line) ≡ 0
fresh_total f e zero = refl
fresh_total f e (suc k) = omega (arith, e, fresh_total f e k)

pub opens_server : (n : ℕ) (ranks items : List ℕ) → (open_server n ranks items).refusal ≡ 0 → sound_server (open_server n ranks items).end ≡ true
unfolding open_server
opens_server n ranks items e =
    let s : Server = record { n = n; initial = length items; ranks = ranks; items = initial_places items; lines = replicate n no_line; makers = replicate n [] } in
    let r = asks (open_server_questions n ranks items) in
    let z : r ≡ 0 = accepted r no_server s no_report e in
    let y = yes_all (open_server_questions n ranks items) (omega arith) z in
    let h = hold (between 1 max_lines n ∷ leb (length items) max_initial ∷ []) y.0 in
    let most = leb-true (length items) max_initial h.1.0 in
    subst (λ (a : Answer Server). sound_server a.end ≡ true) (sym (new_end r no_server s no_report z))
    (facts_server s
    (record {
      n = between_true 1 max_lines n h.0;
      initial = most;
      ranked = y.1.0;
      items = omega (arith, initial_length items);
      numbers = initial_numbered items most;
      count = length-replicate n no_line;
      lines = subst (λ (k : ℕ). LinesFacts n ranks k 1 (replicate n no_line)) (sym (fresh_total (λ v. v.taken) refl n)) (fresh_lines n ranks 1 n);
      makers = fresh_makers n 1 n;
      inserted = omega (arith, initial_length items);
    }))

pub own_origin_lem : (h : Header) → own_origin h ≡ true → (h.origin.line ≡ h.line) × (h.origin.number ≡ h.number)
own_origin_lem h e =
    let line = eqb h.origin.line h.line in
    let number = eqb h.origin.number h.number in
    (eqb-true h.origin.line h.line (and_left line number e), eqb-true h.origin.number h.number (and_right line number e))

pub server_takes_edit_lem : (s : Server) (h : Header) (e : Edit) → header_in_range h ≡ true → sound_server s ≡ true → sound_server (server_takes_edit s h e).end ≡ true
unfolding server_takes_edit
server_takes_edit_lem s h e range t =
    answer_keeps (λ d. sound_server d ≡ true) (asks (server_edit_questions s h e)) s (server_taken s h.line h.origin h.seen e) (line_report (line_of s h.line) h.seen e) t
    (λ z.
    let y = yes_all (server_edit_questions s h e) (omega arith) z in
    let v = line_of s h.line in
    let q4 = four (eqb h.direction 0) (between 1 s.n h.line) (priority (eqb (rank_of s.ranks h.line)) e) (own_origin h) y.1.0 in
    let own = own_origin_lem h q4.3 in
    let bounds = header_bounds h range in
    let lines = between_true 1 s.n h.line q4.1 in
    let q = asked v s.items h e (last_questions s h e) y.1.1 in
    let more : Yes (last_questions s h e) = y.1.1.1.1.1.1.1 in
    facts_server (server_taken s h.line h.origin h.seen e)
    (server_taken_sound s h e (server_facts s t) lines.0 lines.1 q4.2 own.0 (bounds.made_low, bounds.made_high) q
    (omega (arith, q.next, own.1, bounds.made_high))
    (leb-true (v.inserts + inserts_of e) max_inserts more.0)
    more.1.0))

pub server_takes_ack_lem : (s : Server) (l d seen : ℕ) → sound_server s ≡ true → sound_server (server_takes_ack s l d seen).end ≡ true
unfolding server_takes_ack
server_takes_ack_lem s l d seen t =
    answer_keeps (λ x. sound_server x ≡ true) (asks (server_ack_questions s l d seen)) s (server_acked s l seen) no_report t
    (λ z.
    let y = yes_all (server_ack_questions s l d seen) (omega arith) z in
    let lines = between_true 1 s.n l (and_right (eqb d 0) (between 1 s.n l) y.1.0) in
    facts_server (server_acked s l seen)
    (server_acked_sound s l seen (server_facts s t) lines.0 lines.1 (leb-true (line_of s l).acked seen y.1.1.0) (leb-true seen (line_of s l).made y.1.1.1.0)))

pub server_takes_lem : (s : Server) (bytes : List ℕ) → sound_server s ≡ true → sound_server (take_server s bytes).end ≡ true
unfolding take_server
server_takes_lem s bytes t =
    by_bytes (λ a. sound_server a.end ≡ true) sound_server s (server_takes_edit s) (server_takes_ack s)
    (answer_keeps (λ d. sound_server d ≡ true) (asks (ask 2 (sound_server s) ∷ ask 3 false ∷ [])) s s no_report t (λ z. t))
    (λ h e range. server_takes_edit_lem s h e range t) (λ l d k. server_takes_ack_lem s l d k t) bytes

pub keeps_sound : KeepsSound
keeps_sound =
    record {
      opens_client = opens_client;
      inserts = λ c p x s. edits_sound c (Insert p x (own_rank c)) (eq-eqb (own_rank c) (own_rank c) refl) s;
      deletes = λ c p s. edits_sound c (Delete p) refl s;
      takes_back = takes_back;
      client_takes_lem = client_takes_lem;
      opens_server = opens_server;
      server_takes_lem = server_takes_lem;
    }
