-- What a call leaves alone: the end that a refusal hands back, and lent bytes.
use mathlib.Core.Path.{◌≡◌, refl, ap, sym, ◌∙◌}
use mathlib.Core.Bool.{Bool, true, false, cond}
use mathlib.Core.List.{List, [], ◌∷◌, ◌++◌}
use Prim.Native.Nat.{ℕ, ◌-◌}
use native.Mathlib.Omega.{arith}
use lib.Dec.{eqb}
use lib.ListN.{length, drop}
use lib.Seq.{drop-append_seam}
use Rattle.ot.specs.Edit.{Edit, Delete, Insert}
use Rattle.wire.specs.declared.Message.TheVariants as message
use Rattle.wire.specs.Bytes.{bytes_of}
use Rattle.model.specs.Limits.{max_packet}
use Rattle.model.specs.Questions.{Question, ask, asks, between, Report, no_report, Answer, answer, Sent, sent}
use Rattle.model.specs.Packets.{joined, fitting, first_fits, put_from, packed, handed_over}
use Rattle.model.specs.Client.{Client, sound_client, own_rank, edit_client, take_back_client, client_message, send_client_questions, send_client, tell_client_questions, tell_client, client_takes_edit, client_takes_ack, take_client, pack_client, packet_client}
use Rattle.model.specs.Server.{Server, sound_server, line_of, server_message, send_server_questions, send_server, tell_server_questions, tell_server, server_takes_edit, server_takes_ack, take_server, pack_server, packet_server}
use Rattle.model.specs.Claim.{Back, Unwritten, PastStays, StretchAlone, LeavesAlone}
use Rattle.model.specs.SheetOf.{ClientCalls, ServerCalls, End, client, server, answer_as, sheet_of}
use Rattle.model.specs.Ours.{client_calls, server_calls, ours}
use Rattle.model.proofs.Outcome as outcomes
use Rattle.model.proofs.Outcome.{Outcome, outcome, Posted, posted, refusal_is, by_bytes}
use Rattle.model.proofs.Packets.{handed_as, packet_law, packet_none, fitting_room, put_before, put_behind}

back : {E : Type 0} (r : ℕ) (old new : E) (k : Report) → Back old (answer r old new k)
back r old new k = go (answer r old new k) (outcome r old new k)
  where
    go : (a : Answer _) → Outcome r old new k a → Back old a
    go a (outcomes.Outcome.no d) h = (refl, refl)
    go a (outcomes.Outcome.yes e) h = absurd (h refl)

pub sent_alone : (r : ℕ) (bytes lent : List ℕ) → Unwritten lent (sent r bytes lent) × PastStays lent (sent r bytes lent)
sent_alone r bytes lent = go (sent r bytes lent) (posted r bytes lent)
  where
    go : (a : Sent) → Posted r bytes lent a → Unwritten lent a × PastStays lent a
    go a (outcomes.Posted.no d) = (λ h. (refl, refl), refl)
    go a (outcomes.Posted.yes e) = (λ h. absurd (h refl), drop-append_seam bytes (drop (length bytes) lent))

pub edit_back : (m : Client) (e : Edit) → Back m (edit_client m e)
unfolding edit_client
edit_back m e = back _ m _ no_report

pub undo_back : (m : Client) → Back m (take_back_client m)
unfolding take_back_client
undo_back m = back _ m _ no_report

pub client_back : (m : Client) (bytes : List ℕ) → Back m (take_client m bytes)
unfolding take_client client_takes_edit client_takes_ack
client_back m = by_bytes (Back m) sound_client m (client_takes_edit m) (client_takes_ack m) (back _ m m no_report) (λ h e r. back _ m _ _) (λ l d s. back _ m _ _)

pub server_back : (m : Server) (bytes : List ℕ) → Back m (take_server m bytes)
unfolding take_server server_takes_edit server_takes_ack
server_back m = by_bytes (Back m) sound_server m (server_takes_edit m) (server_takes_ack m) (back _ m m no_report) (λ h e r. back _ m _ _) (λ l d s. back _ m _ _)

-- an end that is not sound refuses every message by question 2
refused_2 : {E : Type 0} (e : E) (a : Answer E) → Back e a → a.refusal ≡ 2 → (a.refusal ≡ 2) × (a.end ≡ e)
refused_2 e a b two = (two, (b (λ z. omega (arith, two, z))).0)

client_unsound : (m : Client) → sound_client m ≡ false → (b : List ℕ) → ((take_client m b).refusal ≡ 2) × ((take_client m b).end ≡ m)
unfolding take_client client_takes_edit client_takes_ack
client_unsound m u b =
    refused_2 m (take_client m b) (client_back m b)
    (by_bytes (λ a. a.refusal ≡ 2) sound_client m (client_takes_edit m) (client_takes_ack m) (refusal_is _ m _ _ ∙ rw u) (λ h e r. refusal_is _ m _ _ ∙ rw u) (λ l d s. refusal_is _ m _ _ ∙ rw u) b)

server_unsound : (m : Server) → sound_server m ≡ false → (b : List ℕ) → ((take_server m b).refusal ≡ 2) × ((take_server m b).end ≡ m)
unfolding take_server server_takes_edit server_takes_ack
server_unsound m u b =
    refused_2 m (take_server m b) (server_back m b)
    (by_bytes (λ a. a.refusal ≡ 2) sound_server m (server_takes_edit m) (server_takes_ack m) (refusal_is _ m _ _ ∙ rw u) (λ h e r. refusal_is _ m _ _ ∙ rw u) (λ l d s. refusal_is _ m _ _ ∙ rw u) b)

-- a packet that is written changes its stretch alone
packed_alone : (qs : List Question) (ms : List (List ℕ)) (offset : ℕ) (lent : List ℕ) → Unwritten lent (packed qs ms offset lent) × StretchAlone offset lent (packed qs ms offset lent)
unfolding packed
packed_alone qs ms offset lent = go (asks (qs ++ (ask 14 (first_fits room ms) ∷ [])))
  where
    room : ℕ
    room = length lent - offset

    bytes : List ℕ
    bytes = joined (fitting room ms)

    answers : ℕ → Bool → Sent
    answers r b = cond b (record { refusal = 0; written = length bytes; buffer = put_from offset bytes lent }) (record { refusal = r; written = 0; buffer = lent })

    by : (r : ℕ) (b : Bool) → eqb r 0 ≡ b → Unwritten lent (answers r b) × StretchAlone offset lent (answers r b)
    by r true e = (λ h. absurd (h refl), (put_before offset lent bytes (fitting_room room ms), put_behind offset lent bytes (fitting_room room ms)))
    by r false e = (λ h. (refl, refl), (refl, refl))

    go : (r : ℕ) → Unwritten lent (answers r (eqb r 0)) × StretchAlone offset lent (answers r (eqb r 0))
    go r = by r (eqb r 0) refl

-- ---- a sheet made of a client and a server

pub record ClientAlone (c : ClientCalls) : Type 0 where
  pub inserts : (e : c.Client) (p x : ℕ) → Back e (c.insert e p x)
  pub deletes : (e : c.Client) (p : ℕ) → Back e (c.delete e p)
  pub takes_back : (e : c.Client) → Back e (c.take_back e)
  pub takes : (e : c.Client) (bytes : List ℕ) → Back e (c.take e bytes)
  pub packets : (e : c.Client) (bytes : List ℕ) → between 1 max_packet (length bytes) ≡ true → c.take_packet e bytes ≡ handed_over c.take (length bytes) 0 e bytes
  pub no_packets : (e : c.Client) (bytes : List ℕ) → between 1 max_packet (length bytes) ≡ false
      → ((c.take_packet e bytes).refusal ≡ 0 → ⊥) × ((c.take_packet e bytes).end ≡ e) × ((c.take_packet e bytes).report ≡ no_report)
  pub packs : (e : c.Client) (l : ℕ) (lent : List ℕ) (offset : ℕ) → Unwritten lent (c.pack e l lent offset) × StretchAlone offset lent (c.pack e l lent offset)
  pub sends : (e : c.Client) (l number : ℕ) (lent : List ℕ) → Unwritten lent (c.send e l number lent) × PastStays lent (c.send e l number lent)
  pub tells : (e : c.Client) (l : ℕ) (lent : List ℕ) → Unwritten lent (c.tell e l lent) × PastStays lent (c.tell e l lent)

pub record ServerAlone (v : ServerCalls) : Type 0 where
  pub takes : (e : v.Server) (bytes : List ℕ) → Back e (v.take e bytes)
  pub packets : (e : v.Server) (bytes : List ℕ) → between 1 max_packet (length bytes) ≡ true → v.take_packet e bytes ≡ handed_over v.take (length bytes) 0 e bytes
  pub no_packets : (e : v.Server) (bytes : List ℕ) → between 1 max_packet (length bytes) ≡ false
      → ((v.take_packet e bytes).refusal ≡ 0 → ⊥) × ((v.take_packet e bytes).end ≡ e) × ((v.take_packet e bytes).report ≡ no_report)
  pub packs : (e : v.Server) (l : ℕ) (lent : List ℕ) (offset : ℕ) → Unwritten lent (v.pack e l lent offset) × StretchAlone offset lent (v.pack e l lent offset)
  pub sends : (e : v.Server) (l number : ℕ) (lent : List ℕ) → Unwritten lent (v.send e l number lent) × PastStays lent (v.send e l number lent)
  pub tells : (e : v.Server) (l : ℕ) (lent : List ℕ) → Unwritten lent (v.tell e l lent) × PastStays lent (v.tell e l lent)

-- an answer about the one kind of end, as one about an end
as_end : {A B : Type 0} (f : A → B) (e : A) (a : Answer A) → Back e a → Back (f e) (answer_as f a)
as_end f e a b h = (ap f (b h).0, (b h).1)

pub both_alone : (c : ClientCalls) (v : ServerCalls) → ClientAlone c → ServerAlone v → LeavesAlone (sheet_of c v)
both_alone c v f g = record { inserts = inserts; deletes = deletes; takes_back = takes_back; takes = takes; packets = packets; no_packets = no_packets; packs = packs; sends = sends; tells = tells }
  where
    inserts : (e : End c.Client v.Server) (p x : ℕ) → Back e ((sheet_of c v).insert e p x)
    inserts (client e) p x = as_end client e (c.insert e p x) (f.inserts e p x)
    inserts (server e) p x = λ h. (refl, refl)

    deletes : (e : End c.Client v.Server) (p : ℕ) → Back e ((sheet_of c v).delete e p)
    deletes (client e) p = as_end client e (c.delete e p) (f.deletes e p)
    deletes (server e) p = λ h. (refl, refl)

    takes_back : (e : End c.Client v.Server) → Back e ((sheet_of c v).take_back e)
    takes_back (client e) = as_end client e (c.take_back e) (f.takes_back e)
    takes_back (server e) = λ h. (refl, refl)

    takes : (e : End c.Client v.Server) (bytes : List ℕ) → Back e ((sheet_of c v).take e bytes)
    takes (client e) bytes = as_end client e (c.take e bytes) (f.takes e bytes)
    takes (server e) bytes = as_end server e (v.take e bytes) (g.takes e bytes)

    packets : (e : End c.Client v.Server) (bytes : List ℕ) → between 1 max_packet (length bytes) ≡ true
        → (sheet_of c v).take_packet e bytes ≡ handed_over (sheet_of c v).take (length bytes) 0 e bytes
    packets (client e) bytes ok = ap (answer_as client) (f.packets e bytes ok) ∙ sym (handed_as client c.take (sheet_of c v).take (λ d b. refl) (length bytes) 0 e bytes)
    packets (server e) bytes ok = ap (answer_as server) (g.packets e bytes ok) ∙ sym (handed_as server v.take (sheet_of c v).take (λ d b. refl) (length bytes) 0 e bytes)

    no_packets : (e : End c.Client v.Server) (bytes : List ℕ) → between 1 max_packet (length bytes) ≡ false
        → (((sheet_of c v).take_packet e bytes).refusal ≡ 0 → ⊥) × (((sheet_of c v).take_packet e bytes).end ≡ e) × (((sheet_of c v).take_packet e bytes).report ≡ no_report)
    no_packets (client e) bytes out = let z = f.no_packets e bytes out in (z.0, ap client z.1, z.2)
    no_packets (server e) bytes out = let z = g.no_packets e bytes out in (z.0, ap server z.1, z.2)

    packs : (e : End c.Client v.Server) (l : ℕ) (lent : List ℕ) (offset : ℕ)
        → Unwritten lent ((sheet_of c v).pack e l lent offset) × StretchAlone offset lent ((sheet_of c v).pack e l lent offset)
    packs (client e) = f.packs e
    packs (server e) = g.packs e

    sends : (e : End c.Client v.Server) (l number : ℕ) (lent : List ℕ) → Unwritten lent ((sheet_of c v).send e l number lent) × PastStays lent ((sheet_of c v).send e l number lent)
    sends (client e) = f.sends e
    sends (server e) = g.sends e

    tells : (e : End c.Client v.Server) (l : ℕ) (lent : List ℕ) → Unwritten lent ((sheet_of c v).tell e l lent) × PastStays lent ((sheet_of c v).tell e l lent)
    tells (client e) = f.tells e
    tells (server e) = g.tells e

-- ---- ours

pub client_alone : ClientAlone client_calls
unfolding send_client tell_client pack_client packet_client
client_alone =
    record {
      inserts = λ m p x. edit_back m (Insert p x (own_rank m));
      deletes = λ m p. edit_back m (Delete p);
      takes_back = undo_back;
      takes = client_back;
      packets = packet_law sound_client take_client client_unsound;
      no_packets = packet_none sound_client take_client client_unsound;
      packs = λ m l lent offset. packed_alone _ _ offset lent;
      sends = λ m l number lent. sent_alone (asks (send_client_questions m l number lent)) (bytes_of (client_message m number)) lent;
      tells = λ m l lent. sent_alone (asks (tell_client_questions m l lent)) (bytes_of (message.Ack m.line 0 m.own.taken)) lent;
    }

pub server_alone : ServerAlone server_calls
unfolding send_server tell_server pack_server packet_server
server_alone =
    record {
      takes = server_back;
      packets = packet_law sound_server take_server server_unsound;
      no_packets = packet_none sound_server take_server server_unsound;
      packs = λ m l lent offset. packed_alone _ _ offset lent;
      sends = λ m l number lent. sent_alone (asks (send_server_questions m l number lent)) (bytes_of (server_message m l number)) lent;
      tells = λ m l lent. sent_alone (asks (tell_server_questions m l lent)) (bytes_of (message.Ack l 1 (line_of m l).taken)) lent;
    }

pub alone : LeavesAlone ours
alone = both_alone client_calls server_calls client_alone server_alone
