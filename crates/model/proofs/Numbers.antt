-- Every call of a list is answered with the number that the questions give, asked of the log.
use mathlib.Core.Path.{◌≡◌, refl, ap, ap₂, sym, ◌∙◌, subst}
use mathlib.Core.Bool.{Bool, true, false, not, ◌&&◌, cond}
use mathlib.Core.List.{List, [], ◌∷◌, ◌++◌, map}
use Prim.Native.Nat.{ℕ, zero, suc, ◌+◌, ◌-◌, ◌≤◌, ◌<◌}
use native.Mathlib.Numerals.{add-one}
use native.Mathlib.Omega.{arith}
use lib.Dec.{eqb, leb, ltb}
use lib.ListN.{length, drop, get_elem?}
use borrow.Author.Tests.{eqb-true, leb-true, le-leb}
use Rattle.std.specs.Prelude.{Option, Some, None}
use Rattle.ot.specs.Edit.{Edit, fits}
use Rattle.list.specs.declared.Origin.{Origin}
use Rattle.list.specs.Places.{Place, applied_by}
use Rattle.wire.specs.declared.Header.{Header}
use Rattle.wire.specs.declared.Message as wire
use Rattle.wire.specs.declared.Message.TheVariants as message
use Rattle.wire.specs.Message.{between}
use Rattle.wire.specs.Bytes.{bytes_of, parsed}
use Rattle.wire.proofs.Codec.{codec}
use Rattle.jupiter.specs.Made.{mine}
use Rattle.jupiter.specs.History.{History, order}
use Rattle.jupiter.specs.Ends as ends
use Rattle.jupiter.specs.Ends.{Ends}
use Rattle.jupiter.specs.Run.{Message, up, down, up_ack, down_ack}
use Rattle.jupiter.specs.Claims.{inserts}
use Rattle.jupiter.proofs.Lists.{All}
use Rattle.jupiter.proofs.Step.{DownMessage}
use Rattle.model.specs.Limits.{max_inserts, max_edits, max_pending, max_items}
use Rattle.model.specs.Questions.{Question, ask, asks, no_report, Answer, Sent, sent}
use Rattle.model.specs.Cross.{priority, inserts_of}
use Rattle.model.specs.Line.{Line, other, take_questions, line_report}
use Rattle.model.specs.Client.{Client, sound_client, origin_here, edited, make_questions, edit_questions, edit_client, take_back_questions, take_back_client, client_message, send_client_questions, send_client, tell_client_questions, tell_client, client_taken, client_acked, client_edit_questions, client_takes_edit, client_ack_questions, client_takes_ack, client_takes, client_reads, take_client}
use Rattle.model.specs.Server.{Server, line_of, sound_server, server_message, send_server_questions, send_server, tell_server_questions, tell_server, server_taken, server_acked, others_roomy, server_edit_questions, server_takes_edit, server_ack_questions, server_takes_ack, server_takes, server_reads, take_server}
use Rattle.model.specs.Ranks.{rank_of}
use Rattle.model.specs.Inverse.{is_nothing}
use Rattle.model.specs.Edits.{edits}
use Rattle.model.specs.Log.{Log, header_of, wire_message, message_bytes, named_by, made_at, taken_at}
use Rattle.model.specs.Numbers.{room_on, all_but, editing, undoing, sending, telling, next, taking, handing, number}
use Rattle.model.specs.Run.{State, handed_number}
use Rattle.model.specs.Ours.{End, ours}
use Rattle.model.proofs.Tests.{Alike, alike, never, both, three, between_true, true_between}
use Rattle.model.proofs.SoundLine.{Asked, yes_asked}
use Rattle.model.proofs.SoundClient.{carry_questions}
use Rattle.model.proofs.SoundServer.{last_questions}
use Rattle.model.proofs.Outcome.{refusal_is}
use Rattle.model.proofs.Sim.{client_from, server_from, line_from, line_from_lem, Lined, MessageOk, Moment, Sim}
use Rattle.model.proofs.Counts.{client_made, client_taken_lem, server_made, server_taken_lem}
use Rattle.model.proofs.Rooms.{same_room}
use Rattle.model.proofs.Calls.{client_message_lem, server_message_lem, up_is, up_bytes, down_is, down_bytes}
use Rattle.model.proofs.Next.{up_4, down_asked, down_stands, up_asked, up_10}

sent_is : (r : ℕ) (bytes lent : List ℕ) → (sent r bytes lent).refusal ≡ r
unfolding sent
sent_is r bytes lent = go (eqb r 0) refl
  where
    go : (b : Bool) → eqb r 0 ≡ b → (cond {A = Sent} b (record { refusal = 0; written = length bytes; buffer = bytes ++ drop (length bytes) lent }) (record { refusal = r; written = 0; buffer = lent })).refusal ≡ r
    go true e = sym (eqb-true r 0 e)
    go false e = refl

module _ (n : ℕ) (items : List Place) {ranks : List ℕ} {from : Moment ranks} (s : State ours ranks) (sim : Sim n items from s) (few : length items ≤ 128) where
  abbrev w : Log ranks
  w = s.recorded

  abbrev h : History (edits ranks)
  h = s.recorded.history

  abbrev E : Ends (edits ranks)
  E = sim.E

  -- Questions 5 to 9 of a line whose counts are the log's: the log asks 5 to 7, and where these say yes, so do 8 and 9.
  asks_next : (a k direction : ℕ) (u : Line) (doc : List Place) (m : ends.EditMessage (edits ranks)) (more log : List Question) → u.taken ≡ taken_at h a k → u.acked ≡ w.heard a k
      → (m.number ≡ suc u.taken → u.acked ≤ m.seen → Asked u doc (header_of k direction m) m.edit.edit × Alike more log)
      → Alike (take_questions u doc (header_of k direction m) m.edit.edit more) (next w a k m log)
  asks_next a k direction u doc m more log taken acked rest =
      Alike.same (ap (λ (i : ℕ). ltb i m.number) taken) (λ y5.
      Alike.same (ap (λ (i : ℕ). eqb m.number (i + 1)) taken) (λ y6.
      Alike.same (ap (λ (i : ℕ). leb i m.seen) acked) (λ y7.
      let found = rest (eqb-true m.number (u.taken + 1) y6 ∙ add-one u.taken) (leb-true u.acked m.seen y7) in
      let yes = yes_asked u doc (header_of k direction m) m.edit.edit [] found.0 tt in
      Alike.over yes.1.1.1.0 (Alike.over yes.1.1.1.1.0 found.1))))

  -- ---- at client l
  module _ (a : ℕ) (hi : suc a ≤ n) where
    abbrev l : ℕ
    l = suc a

    abbrev c : ends.End (edits ranks)
    c = E.clients l

    abbrev C : Client
    C = client_from n l ranks c (E.docs l) (sim.ci l) (sim.bk l)

    lo : 1 ≤ l
    lo = omega arith

    made_is : c.made ≡ made_at h l l
    made_is = client_made n items s sim l lo

    taken_is : c.taken ≡ taken_at h l l
    taken_is = client_taken_lem n items s sim l lo

    acked_is : c.acked ≡ w.heard l l
    acked_is = sym (sim.client_heard l lo)

    -- 9 to 12
    make_alike : (e : Edit) → Alike (make_questions C e) (editing w l e)
    unfolding made_at
    make_alike e =
        let shown : E.docs l ≡ w.shown l = sym (sim.client_shown l lo hi) in
        let origin : origin_here C (c.made + 1) ≡ (named_by w l e).origin = ap (origin_here C) (add-one c.made ∙ ap suc made_is) in
        let count : sim.ci l ≡ inserts (mine l (order h l)) = sim.ci_is l in
        Alike.same (ap₂ (λ (o : Origin) (d : List Place). fits e (length d) && leb (length (applied_by o e d)) max_items) origin shown)
        (λ y9. Alike.same (ap (λ (i : ℕ). leb (i + inserts_of e) max_inserts) count)
        (λ y10. Alike.same (ap (λ (m : ℕ). ltb m max_edits) made_is)
        (λ y11. Alike.same (λ i. ltb (made_is i - acked_is i) max_pending) (λ y12. Alike.done))))

    edit_number : (e : Edit) → asks (edit_questions C e) ≡ asks (editing w l e)
    edit_number e = alike (edit_questions C e) (editing w l e) (Alike.over (sim.client_sound l lo hi) (make_alike e))

    -- the inverse is the log's
    undo_number : asks (take_back_questions C) ≡ asks (undoing w l)
    undo_number =
        alike (take_back_questions C) (ask 17 (not (is_nothing (sim.bk l))) ∷ editing w l (sim.bk l))
        (Alike.over (sim.client_sound l lo hi) (Alike.same refl (λ y17. make_alike (sim.bk l))))
        ∙ ap (λ (e : Edit). asks (ask 17 (not (is_nothing e)) ∷ editing w l e)) (sim.back_is l)

    -- a line that is this client's own
    heard_on : (k : ℕ) → k ≡ l → c.acked ≡ w.heard l k
    heard_on k e = acked_is ∙ ap (w.heard l) (sym e)

    client_sends : (k number : ℕ) (lent : List ℕ) → asks (send_client_questions C k number lent) ≡ asks (sending n w l k number lent)
    unfolding made_at
    client_sends k number lent =
        alike (send_client_questions C k number lent) (sending n w l k number lent) (Alike.over (sim.client_sound l lo hi) (Alike.same refl (λ y4.
        let own : k ≡ l = eqb-true k l y4 in
        Alike.same (λ i. between (heard_on k own i + 1) (made_is i) number) (λ y13.
        let in_it = between_true (c.acked + 1) c.made number y13 in
        let low : c.acked < number = omega arith in
        Alike.same (ap (λ (b : List ℕ). leb (length b) (length lent)) (up_bytes n items s sim l lo hi number low in_it.1 ∙ ap message_bytes (sym (up_is n items s sim l lo hi number low in_it.1 k))))
        (λ y14. Alike.done)))))

    client_tells : (k : ℕ) (lent : List ℕ) → asks (tell_client_questions C k lent) ≡ asks (telling n l k lent)
    client_tells k lent = alike (tell_client_questions C k lent) (telling n l k lent) (Alike.over (sim.client_sound l lo hi) (Alike.same refl (λ y4. Alike.same refl (λ y14. Alike.done))))

    -- question 4: an edit that goes down on this line is another client's
    own_edit : (k : ℕ) (m : ends.EditMessage (edits ranks)) → Lined n ranks (down k m)
        → (eqb k l && priority (other n (rank_of ranks l)) m.edit.edit && other n l m.edit.origin.line) ≡ eqb k l
    own_edit k m ok = go (eqb k l) refl
      where
        go : (b : Bool) → eqb k l ≡ b → (b && priority (other n (rank_of ranks l)) m.edit.edit && other n l m.edit.origin.line) ≡ b
        go true e =
            subst (λ (i : ℕ). (priority (other n (rank_of ranks i)) m.edit.edit && other n i m.edit.origin.line) ≡ true) (eqb-true k l e)
            (both (priority (other n (rank_of ranks k)) m.edit.edit) (other n k m.edit.origin.line) ok.2 ok.3)
        go false e = refl

    client_takes_lem : (x : Message (edits ranks)) → MessageOk n ranks items E h x → (client_takes C (wire_message x)).refusal ≡ asks (taking n w l x)
    unfolding client_takes_edit client_takes_ack taken_at
    client_takes_lem (up k m) ok =
        let hd : Header = header_of k 0 m in
        ap (λ (r : Answer Client). r.refusal) (client_message_lem C hd m.edit.edit) ∙ refusal_is (asks (client_edit_questions C hd m.edit.edit)) C (client_taken C m.edit.origin m.seen m.edit.edit) (line_report C.own m.seen m.edit.edit)
        ∙ alike (client_edit_questions C hd m.edit.edit) (taking n w l (up k m)) (Alike.over (sim.client_sound l lo hi) (Alike.same refl (λ y4. never y4)))
    client_takes_lem (down k m) ok =
        let hd : Header = header_of k 1 m in
        ap (λ (r : Answer Client). r.refusal) (client_message_lem C hd m.edit.edit) ∙ refusal_is (asks (client_edit_questions C hd m.edit.edit)) C (client_taken C m.edit.origin m.seen m.edit.edit) (line_report C.own m.seen m.edit.edit)
        ∙ alike (client_edit_questions C hd m.edit.edit) (taking n w l (down k m)) (Alike.over (sim.client_sound l lo hi) (Alike.same (own_edit k m ok.2) (λ y4.
        let own : k ≡ l = eqb-true k l (three (eqb k l) (priority (other n (rank_of ranks l)) m.edit.edit) (other n l m.edit.origin.line) y4).0 in
        let message : DownMessage items E h l m = subst (λ (i : ℕ). DownMessage items E h i m) own ok.0 in
        asks_next l k 1 C.own (E.docs l) m (carry_questions C hd m.edit.edit) [] taken_is (heard_on k own)
        (λ next cur. (
          subst (λ (i : ℕ). Asked C.own (E.docs l) (header_of i 1 m) m.edit.edit) (sym own) (down_asked n items s sim few l lo hi m message next cur),
          Alike.over (down_stands n items s sim few l lo hi m message next cur) Alike.done,
        )))))
    client_takes_lem (up_ack k seen) ok = refusal_is (asks (client_ack_questions C k 0 seen)) C (client_acked C seen) no_report ∙ alike (client_ack_questions C k 0 seen) (taking n w l (up_ack k seen)) (Alike.over (sim.client_sound l lo hi) (Alike.same refl (λ y4. never y4)))
    client_takes_lem (down_ack k seen) ok =
        refusal_is (asks (client_ack_questions C k 1 seen)) C (client_acked C seen) no_report
        ∙ alike (client_ack_questions C k 1 seen) (taking n w l (down_ack k seen)) (Alike.over (sim.client_sound l lo hi) (Alike.same refl (λ y4.
        let own : k ≡ l = eqb-true k l y4 in
        Alike.same (ap (λ (i : ℕ). leb i seen) (heard_on k own)) (λ y7.
        let most : seen ≤ (E.lines l).taken = subst (λ (i : ℕ). seen ≤ (E.lines i).taken) own ok.0 in
        Alike.over (le-leb seen c.made (omega (arith, (sim.inv.lines l).line.v_taken, (sim.inv.lines l).line.c_made))) Alike.done))))

  -- ---- at the server
  abbrev S : Server
  S = server_from n (length items) ranks E.doc E.lines sim.si

  -- the counts of a line
  module _ (k : ℕ) (lo : 1 ≤ k) (hi : k ≤ n) where
    line_is : line_of S k ≡ line_from (E.lines k) (sim.si k)
    line_is = line_from_lem n (length items) ranks E.doc E.lines sim.si k lo hi

    server_made_is : (line_of S k).made ≡ made_at h 0 k
    server_made_is = ap (λ (v : Line). v.made) line_is ∙ server_made n items s sim k

    server_taken_is : (line_of S k).taken ≡ taken_at h 0 k
    server_taken_is = ap (λ (v : Line). v.taken) line_is ∙ server_taken_lem n items s sim k

    server_acked_is : (line_of S k).acked ≡ w.heard 0 k
    server_acked_is = ap (λ (v : Line). v.acked) line_is ∙ sym (sim.server_heard k)

    room_is : others_roomy (k - 1) S.lines ≡ all_but (room_on w) k n
    room_is =
        same_room (λ j. line_from (E.lines j) (sim.si j)) (room_on w) n k lo
        (λ j i. ltb (server_made n items s sim j i - sym (sim.server_heard j) i) max_pending)

  server_sends : (k number : ℕ) (lent : List ℕ) → asks (send_server_questions S k number lent) ≡ asks (sending n w 0 k number lent)
  server_sends k number lent =
      alike (send_server_questions S k number lent) (sending n w 0 k number lent) (Alike.over sim.server_sound (Alike.same refl (λ y4.
      let there = between_true 1 n k y4 in
      let same = line_is k there.0 there.1 in
      Alike.same (λ i. between (server_acked_is k there.0 there.1 i + 1) (server_made_is k there.0 there.1 i) number) (λ y13.
      let in_it = between_true ((line_of S k).acked + 1) (line_of S k).made number y13 in
      let low : (E.lines k).acked < number = subst (λ (v : Line). v.acked < number) same (omega arith) in
      let high : number ≤ (E.lines k).made = subst (λ (v : Line). number ≤ v.made) same in_it.1 in
      Alike.same (ap (λ (b : List ℕ). leb (length b) (length lent))
      (down_bytes n items s sim k there.0 there.1 number low high ∙ ap message_bytes (sym (down_is n items s sim k there.0 there.1 number low high))))
      (λ y14. Alike.done)))))

  server_tells : (k : ℕ) (lent : List ℕ) → asks (tell_server_questions S k lent) ≡ asks (telling n 0 k lent)
  server_tells k lent = alike (tell_server_questions S k lent) (telling n 0 k lent) (Alike.over sim.server_sound (Alike.same refl (λ y4. Alike.same refl (λ y14. Alike.done))))

  server_takes_lem : (x : Message (edits ranks)) → MessageOk n ranks items E h x → (server_takes S (wire_message x)).refusal ≡ asks (taking n w 0 x)
  unfolding server_takes_edit server_takes_ack
  server_takes_lem (up k m) ok =
      let hd : Header = header_of k 0 m in
      let lo = ok.2.0 in
      let hi = ok.2.1 in
      let same = line_is k lo hi in
      ap (λ (r : Answer Server). r.refusal) (server_message_lem S hd m.edit.edit) ∙ refusal_is (asks (server_edit_questions S hd m.edit.edit)) S (server_taken S k m.edit.origin m.seen m.edit.edit) (line_report (line_of S k) m.seen m.edit.edit)
      ∙ alike (server_edit_questions S hd m.edit.edit) (taking n w 0 (up k m)) (Alike.over sim.server_sound (Alike.same (up_4 n items s sim few k lo hi m ok.0 ok.2 ∙ sym (true_between 1 n k lo hi)) (λ y4.
      asks_next 0 k 0 (line_of S k) E.doc m (last_questions S hd m.edit.edit) (ask 12 (all_but (room_on w) k n) ∷ []) (server_taken_is k lo hi) (server_acked_is k lo hi)
      (λ next cur.
      let following : m.number ≡ suc (E.lines k).taken = next ∙ ap (λ (v : Line). suc v.taken) same in
      let current : (E.lines k).acked ≤ m.seen = subst (λ (v : Line). v.acked ≤ m.seen) same cur in (
        up_asked n items s sim few k lo hi m ok.0 following current,
        Alike.over (up_10 n items s sim few k lo hi m ok.0 following current) (Alike.same (room_is k lo hi) (λ y12. Alike.done)),
      )))))
  server_takes_lem (down k m) ok =
      let hd : Header = header_of k 1 m in
      ap (λ (r : Answer Server). r.refusal) (server_message_lem S hd m.edit.edit) ∙ refusal_is (asks (server_edit_questions S hd m.edit.edit)) S (server_taken S k m.edit.origin m.seen m.edit.edit) (line_report (line_of S k) m.seen m.edit.edit)
      ∙ alike (server_edit_questions S hd m.edit.edit) (taking n w 0 (down k m)) (Alike.over sim.server_sound (Alike.same refl (λ y4. never y4)))
  server_takes_lem (up_ack k seen) ok =
      let lo = ok.2.0 in
      let hi = ok.2.1 in
      refusal_is (asks (server_ack_questions S k 0 seen)) S (server_acked S k seen) no_report
      ∙ alike (server_ack_questions S k 0 seen) (taking n w 0 (up_ack k seen)) (Alike.over sim.server_sound (Alike.same refl (λ y4.
      Alike.same (ap (λ (i : ℕ). leb i seen) (server_acked_is k lo hi)) (λ y7.
      Alike.over (subst (λ (v : Line). leb seen v.made ≡ true) (sym (line_is k lo hi))
      (le-leb seen (E.lines k).made (omega (arith, ok.0, (sim.inv.lines k).line.c_taken, (sim.inv.lines k).line.v_made)))) Alike.done))))
  server_takes_lem (down_ack k seen) ok = refusal_is (asks (server_ack_questions S k 1 seen)) S (server_acked S k seen) no_report ∙ alike (server_ack_questions S k 1 seen) (taking n w 0 (down_ack k seen)) (Alike.over sim.server_sound (Alike.same refl (λ y4. never y4)))

  -- ---- at any end
  pub edits_at : (l : ℕ) → 1 ≤ l → l ≤ n → (e : Edit) → (edit_client (client_from n l ranks (E.clients l) (E.docs l) (sim.ci l) (sim.bk l)) e).refusal ≡ asks (editing w l e)
  unfolding edit_client
  edits_at zero lo hi e = absurd (omega arith)
  edits_at (suc a) lo hi e = refusal_is (asks (edit_questions (C a hi) e)) (C a hi) (edited (C a hi) e) no_report ∙ edit_number a hi e

  pub undoes_at : (l : ℕ) → 1 ≤ l → l ≤ n → (take_back_client (client_from n l ranks (E.clients l) (E.docs l) (sim.ci l) (sim.bk l))).refusal ≡ asks (undoing w l)
  unfolding take_back_client
  undoes_at zero lo hi = absurd (omega arith)
  undoes_at (suc a) lo hi = refusal_is (asks (take_back_questions (C a hi))) (C a hi) (edited (C a hi) (sim.bk (suc a))) no_report ∙ undo_number a hi

  pub sends_at : (a l k : ℕ) (lent : List ℕ) → a ≤ n → (ours.send (s.ends a) l k lent).refusal ≡ asks (sending n w a l k lent)
  unfolding send_client send_server
  sends_at zero l k lent hi =
      ap (λ (e : End). (ours.send e l k lent).refusal) sim.server_is ∙ sent_is (asks (send_server_questions S l k lent)) (bytes_of (server_message S l k)) lent ∙ server_sends l k lent
  sends_at (suc a) l k lent hi =
      ap (λ (e : End). (ours.send e l k lent).refusal) (sim.client_is (suc a) (omega arith) hi)
      ∙ sent_is (asks (send_client_questions (C a hi) l k lent)) (bytes_of (client_message (C a hi) k)) lent ∙ client_sends a hi l k lent

  pub tells_at : (a l : ℕ) (lent : List ℕ) → a ≤ n → (ours.tell (s.ends a) l lent).refusal ≡ asks (telling n a l lent)
  unfolding tell_client tell_server
  tells_at zero l lent hi =
      ap (λ (e : End). (ours.tell e l lent).refusal) sim.server_is ∙ sent_is (asks (tell_server_questions S l lent)) (bytes_of (message.Ack l 1 (line_of S l).taken)) lent ∙ server_tells l lent
  tells_at (suc a) l lent hi =
      ap (λ (e : End). (ours.tell e l lent).refusal) (sim.client_is (suc a) (omega arith) hi)
      ∙ sent_is (asks (tell_client_questions (C a hi) l lent)) (bytes_of (message.Ack (suc a) 0 (E.clients (suc a)).taken)) lent ∙ client_tells a hi l lent

  pub takes_at : (a : ℕ) → a ≤ n → (x : Message (edits ranks)) → MessageOk n ranks items E h x → (ours.take (s.ends a) (message_bytes x)).refusal ≡ asks (taking n w a x)
  unfolding take_client take_server
  takes_at zero hi x ok =
      ap (λ (e : End). (ours.take e (message_bytes x)).refusal) sim.server_is ∙ ap (λ (r : Option wire.Message). (server_reads S r).refusal) (codec.written_read (wire_message x) ok.1) ∙ server_takes_lem x ok
  takes_at (suc a) hi x ok =
      ap (λ (e : End). (ours.take e (message_bytes x)).refusal) (sim.client_is (suc a) (omega arith) hi)
      ∙ ap (λ (r : Option wire.Message). (client_reads (C a hi) r).refusal) (codec.written_read (wire_message x) ok.1) ∙ client_takes_lem a hi x ok

  pub junk_at : (a : ℕ) (bytes : List ℕ) → a ≤ n → parsed bytes ≡ None → (ours.take (s.ends a) bytes).refusal ≡ 3
  unfolding take_client take_server
  junk_at zero bytes hi e =
      ap (λ (d : End). (ours.take d bytes).refusal) sim.server_is ∙ ap (λ (r : Option wire.Message). (server_reads S r).refusal) e
      ∙ refusal_is (asks (ask 2 (sound_server S) ∷ ask 3 false ∷ [])) S S no_report ∙ rw sim.server_sound
  junk_at (suc a) bytes hi e =
      ap (λ (d : End). (ours.take d bytes).refusal) (sim.client_is (suc a) (omega arith) hi) ∙ ap (λ (r : Option wire.Message). (client_reads (C a hi) r).refusal) e
      ∙ refusal_is (asks (ask 2 (sound_client (C a hi)) ∷ ask 3 false ∷ [])) (C a hi) (C a hi) no_report ∙ rw (sim.client_sound (suc a) (omega arith) hi)

  -- a message of the list, and the message that it is of
  pub hands_at : (a i : ℕ) → a ≤ n → handed_number ours s a (get_elem? s.messages i) ≡ handing n w a (get_elem? w.messages i)
  hands_at a i hi =
      ap (λ (ms : List (List ℕ)). handed_number ours s a (get_elem? ms i)) sim.messages ∙ go w.messages i sim.written
    where
      go : (xs : List (Message (edits ranks))) (i : ℕ) → All (MessageOk n ranks items E h) xs → handed_number ours s a (get_elem? (map message_bytes xs) i) ≡ handing n w a (get_elem? xs i)
      go [] i ok = refl
      go (x ∷ xs) zero ok = takes_at a hi x ok.0
      go (x ∷ xs) (suc i) ok = go xs i ok.1

  pub reads_back : map parsed s.messages ≡ map (λ x. Some (wire_message x)) w.messages
  reads_back = ap (map parsed) sim.messages ∙ go w.messages sim.written
    where
      go : (xs : List (Message (edits ranks))) → All (MessageOk n ranks items E h) xs → map parsed (map message_bytes xs) ≡ map (λ x. Some (wire_message x)) xs
      go [] ok = refl
      go (x ∷ xs) ok = ap₂ ◌∷◌ (codec.written_read (wire_message x) ok.0.1) (go xs ok.1)
