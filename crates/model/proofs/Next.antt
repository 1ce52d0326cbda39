-- The next message is taken: no question says no.
use mathlib.Core.Path.{◌≡◌, refl, ap, ap₂, sym, ◌∙◌, subst}
use mathlib.Core.Bool.{Bool, true, ◌&&◌, cond}
use mathlib.Core.List.{List, [], ◌∷◌, ◌++◌}
use Prim.Native.Nat.{ℕ, suc, ◌+◌, ◌-◌, ◌≤◌, ◌<◌}
use native.Mathlib.Numerals.{add-one}
use native.Mathlib.Omega.{arith}
use lib.Dec.{eqb, leb}
use lib.ListN.{length, take, drop}
use lib.Seq.{take-append_seam}
use borrow.Author.Tests.{eq-eqb, le-leb, lt-ltb}
use Rattle.ot.specs.Edit.{Edit, fits, transformed}
use Rattle.list.specs.Places.{Place, applied_by}
use Rattle.wire.specs.declared.Header.{Header}
use Rattle.wire.specs.declared.Message as message
use Rattle.wire.specs.Message.{between}
use Rattle.wire.specs.Bytes.{bytes_of, parsed}
use Rattle.wire.proofs.Codec.{codec}
use Rattle.jupiter.specs.Made.{mine, others}
use Rattle.jupiter.specs.Point.{own, oth}
use Rattle.jupiter.specs.History.{History, at, order}
use Rattle.jupiter.specs.Ends as ends
use Rattle.jupiter.specs.Ends.{Ends, takes, arrived}
use Rattle.jupiter.specs.Run.{up, down}
use Rattle.jupiter.specs.Claims.{inserts}
use Rattle.jupiter.proofs.Line.{LineAt, line_down, line_up, up_edge, up_arrives}
use Rattle.jupiter.proofs.Meeting.{server_doc}
use Rattle.jupiter.proofs.World.{first_untaken}
use Rattle.jupiter.proofs.Step.{UpMessage, DownMessage, up_message, down_message, up_fits, down_fits}
use Rattle.model.specs.Limits.{max_inserts, max_pending, max_items}
use Rattle.model.specs.Questions.{Question, asks, Answer, Sent, sent}
use Rattle.model.specs.Cross.{all_placed, priority, inserts_of}
use Rattle.model.specs.Line.{Line, other, send_questions, carried, line_report}
use Rattle.model.specs.Client.{Client, client_message, send_client_questions, send_client, inverse_then, client_taken, client_edit_questions, client_takes_edit, client_reads, take_client}
use Rattle.model.specs.Server.{Server, line_of, server_message, send_server_questions, send_server, server_taken, others_roomy, own_origin, server_edit_questions, server_takes_edit, server_reads, take_server}
use Rattle.model.specs.Ranks.{rank_of}
use Rattle.model.specs.Inverse.{inverse_stands}
use Rattle.model.specs.Edits.{applied_named, Rule, edits_by, edits}
use Rattle.model.specs.Log.{header_of, wire_message, message_bytes, edit_message}
use Rattle.model.specs.Run.{State}
use Rattle.model.specs.Ours.{client, server, ours}
use Rattle.model.specs.Claim.{Delivered}
use Rattle.model.proofs.Tests.{◌&◌, both, Yes, all_yes, true_between}
use Rattle.model.proofs.SoundLine.{Asked, yes_asked}
use Rattle.model.proofs.SoundClient.{carry_questions}
use Rattle.model.proofs.SoundServer.{last_questions}
use Rattle.model.proofs.Sound.{new_end}
use Rattle.model.proofs.Inverse.{carried_fits, fits_stands}
use Rattle.model.proofs.Table.{table_roomy}
use Rattle.model.proofs.Instance.{from_T, edits_of, past_same, over_same}
use Rattle.model.proofs.Origins.{own_origin_lem, up_origin}
use Rattle.model.proofs.Sim.{client_from, server_from, line_from, Lined, arrived_list, line_from_lem, server_taken_from, Moment, Sim, laws}
use Rattle.model.proofs.Follow.{first_inserts, inserts_cons}
use Rattle.model.proofs.Calls.{client_message_lem, server_message_lem, up_is, up_bytes, up_ok, down_is, down_bytes, down_ok}
use Rattle.model.proofs.Bounds.{inserts_most, client_most, client_more, doc_most, client_placed, server_placed}

-- a sending that no question refused
abbrev posted : List ℕ → List ℕ → Sent
posted bytes lent = record { refusal = 0; written = length bytes; buffer = bytes ++ drop (length bytes) lent }

sent_all : (qs : List Question) (bytes lent : List ℕ) → Yes qs → sent (asks qs) bytes lent ≡ posted bytes lent
unfolding sent
sent_all qs bytes lent y = rw (all_yes qs y)

-- what was sent is handed over whole
handed_on : {E : Type 0} (takes : List ℕ → Answer E) (bytes lent : List ℕ) (r : Sent) (a : Answer E) → r ≡ posted bytes lent → takes bytes ≡ a → takes (take r.written r.buffer) ≡ a
handed_on takes bytes lent r a sent taken = ap (λ (q : Sent). takes (take q.written q.buffer)) sent ∙ ap takes (take-append_seam bytes (drop (length bytes) lent)) ∙ taken

-- a pending edit for which the lent bytes are enough: questions 13 and 14
yes_sends : (v : Line) (number : ℕ) (m : message.Message) (lent : List ℕ) → v.acked < number → number ≤ v.made → length (bytes_of m) ≤ length lent
    → Yes (send_questions v number m lent)
yes_sends v number m lent low high long = (true_between (v.acked + 1) v.made number (omega arith) high, (le-leb (length (bytes_of m)) (length lent) long, tt))

-- the next edit message, which fits as the theory says: questions 5 to 9
arrives : {by : Rule} (v : ends.End (edits_by by)) (i l direction : ℕ) (doc : List Place) (x : ends.EditMessage (edits_by by)) → x.number ≡ suc v.taken → v.acked ≤ x.seen → x.seen ≤ v.made
    → fits (arrived x v).edit (length doc) ≡ true → all_placed (edits_of (takes x v).pending) ≡ true → length (applied_named (arrived x v) doc) ≤ max_items
    → Asked (line_from v i) doc (header_of l direction x) x.edit.edit
arrives v i l direction doc x next low high fit placed size =
    let gone : ℕ = x.seen - v.acked in
    let same = past_same _ x.edit gone v.pending in
    record {
      next = next ∙ sym (add-one v.taken);
      low = low;
      high = high;
      fit = ap (λ (e : Edit). fits e (length doc)) same ∙ fit;
      placed = ap all_placed (over_same _ x.edit gone v.pending) ∙ placed;
      size = subst (λ (d : List Place). length d ≤ max_items) (sym (arrived_list v doc x (carried (line_from v i) x.seen x.edit.edit) same)) size;
    }

module _ (n : ℕ) (items : List Place) {ranks : List ℕ} {from : Moment ranks} (s : State ours ranks) (sim : Sim n items from s) (few : length items ≤ 128) (l : ℕ) (lo : 1 ≤ l) (hi : l ≤ n) where
  abbrev h : History (edits ranks)
  h = s.recorded.history

  abbrev E : Ends (edits ranks)
  E = sim.E

  abbrev c : ends.End (edits ranks)
  c = E.clients l

  abbrev v : ends.End (edits ranks)
  v = E.lines l

  abbrev C : Client
  C = client_from n l ranks c (E.docs l) (sim.ci l) (sim.bk l)

  abbrev S : Server
  S = server_from n (length items) ranks E.doc E.lines sim.si

  abbrev line : LineAt items l (order h l) h.served (h.applied l) c v (E.docs l)
  line = (sim.inv.lines l).line

  same_line : line_of S l ≡ line_from v (sim.si l)
  same_line = line_from_lem n (length items) ranks E.doc E.lines sim.si l lo hi

  on_line_lem : (P : Line → Type 0) → P (line_from v (sim.si l)) → P (line_of S l)
  on_line_lem P p = subst P (sym same_line) p

  room : length items + inserts (order h l) ≤ 512
  room = omega (arith, inserts_most n items s sim few l lo hi)

  -- ---- a message that goes down, whenever it was written: where questions 4 to 7 say yes, so do 8 and 9
  module _ (x : ends.EditMessage (edits ranks)) (ok : DownMessage items E h l x) (next : x.number ≡ suc c.taken) (cur : c.acked ≤ x.seen) where
    -- the line once it is taken
    after : LineAt items l (order h l) h.served (h.applied l ++ (oth l (order h l) c.taken ∷ [])) (takes x c) v (applied_named (arrived x c) (E.docs l))
    after = line_down items l (order h l) h.served (h.applied l) c v (E.docs l) line x ok next cur

    pub down_asked : Asked C.own (E.docs l) (header_of l 1 x) x.edit.edit
    down_asked =
        arrives c (sim.ci l) l 1 (E.docs l) x next cur (omega (arith, ok.seen_le, line.v_taken, line.c_made))
        (from_T (fits (arrived x c).edit (length (E.docs l))) (down_fits items E h sim.inv l x ok next cur))
        (client_placed (laws sim) items l (order h l) h.served (h.applied l ++ (oth l (order h l) c.taken ∷ [])) (takes x c) v (applied_named (arrived x c) (E.docs l)) after room)
        (subst (λ (d : List Place). length d ≤ max_items) (sym after.c_doc) (doc_most (laws sim) items (order h l) room l (length (mine l (order h l))) (suc c.taken)))

    -- and the further test of 9: the inverse, past the edit, fits the list with that applied
    pub down_stands : inverse_stands (inverse_then C x.seen x.edit.edit) ≡ true
    down_stands =
        let form : Edit = carried C.own x.seen x.edit.edit in
        fits_stands (transformed (sim.bk l) form) (length (applied_by x.edit.origin form (E.docs l))) down_asked.size
        (carried_fits x.edit.origin (sim.bk l) form (E.docs l) (sim.back_fits l) down_asked.fit)

  -- ---- the next edit going down
  module _ (more : c.taken < v.made) (lent : List ℕ) (long : length (message_bytes (edit_message h 0 l (suc c.taken))) ≤ length lent) where
    abbrev number : ℕ
    number = suc c.taken

    abbrev x : ends.EditMessage (edits ranks)
    x = ends.message number v

    abbrev hd : Header
    hd = header_of l 1 x

    low : v.acked < number
    low = omega (arith, line.v_acked)

    ok : DownMessage items E h l x
    ok = down_message items E h sim.inv l number low more

    -- it is what the definitions give
    down_written : bytes_of (server_message S l number) ≡ message_bytes (edit_message h 0 l number)
    down_written = down_bytes n items s sim l lo hi number low more ∙ ap message_bytes (sym (down_is n items s sim l lo hi number low more))

    down_sent : send_server S l number lent ≡ posted (bytes_of (server_message S l number)) lent
    unfolding send_server
    down_sent =
        sent_all (send_server_questions S l number lent) (bytes_of (server_message S l number)) lent
        (sim.server_sound
        & true_between 1 n l lo hi
        & yes_sends (line_of S l) number (server_message S l number) lent (on_line_lem (λ u. u.acked < number) low) (on_line_lem (λ u. number ≤ u.made) more)
        (subst (λ (b : List ℕ). length b ≤ length lent) (sym down_written) long))

    lined : Lined n ranks (down l x)
    lined = (down_ok n items s sim l lo hi number low more).2

    down_asks : asks (client_edit_questions C hd x.edit.edit) ≡ 0
    down_asks =
        all_yes (client_edit_questions C hd x.edit.edit)
        (sim.client_sound l lo hi
        & both (eqb l l && priority (other n (rank_of ranks l)) x.edit.edit) (other n l x.edit.origin.line)
        (both (eqb l l) (priority (other n (rank_of ranks l)) x.edit.edit) (eq-eqb l l refl) lined.2) lined.3
        & yes_asked C.own (E.docs l) hd x.edit.edit (carry_questions C hd x.edit.edit) (down_asked x ok refl line.c_acked) (down_stands x ok refl line.c_acked, tt))

    -- what was written reads as the message, and the client takes it
    down_taken : take_client C (bytes_of (server_message S l number))
        ≡ record { refusal = 0; end = client_taken C x.edit.origin v.taken x.edit.edit; report = line_report C.own v.taken x.edit.edit }
    unfolding take_client client_takes_edit
    down_taken =
        ap (λ (b : List ℕ). client_reads C (parsed b)) (down_bytes n items s sim l lo hi number low more)
        ∙ ap (client_reads C) (codec.written_read (wire_message (down l x)) (down_ok n items s sim l lo hi number low more).1)
        ∙ client_message_lem C hd x.edit.edit
        ∙ new_end (asks (client_edit_questions C hd x.edit.edit)) C (client_taken C x.edit.origin v.taken x.edit.edit) (line_report C.own v.taken x.edit.edit) down_asks

    pub delivers_down : Delivered ours (server S) (client C) l number lent
    delivers_down =
        let taken = handed_on (take_client C) (bytes_of (server_message S l number)) lent (send_server S l number lent) _ down_sent down_taken in
        record {
          sends = ap (λ (r : Sent). r.refusal) down_sent;
          takes = ap (λ (r : Answer Client). r.refusal) taken;
          rises = ap (λ (r : Answer Client). r.end.own.taken) taken ∙ add-one c.taken;
        }

  -- question 4 of an edit that goes up
  pub up_4 : (y : ends.EditMessage (edits ranks)) → UpMessage items E h l y → Lined n ranks (up l y) → (between 1 n l && priority (eqb (rank_of ranks l)) y.edit.edit && own_origin (header_of l 0 y)) ≡ true
  up_4 y okay lined' =
      both (between 1 n l && priority (eqb (rank_of ranks l)) y.edit.edit) (own_origin (header_of l 0 y))
      (both (between 1 n l) (priority (eqb (rank_of ranks l)) y.edit.edit) (true_between 1 n l lo hi) lined'.2)
      (own_origin_lem l 0 y (up_origin ranks items E h sim.inv l y okay))

  -- ---- a message that goes up, whenever it was written: where questions 4 to 7 say yes, so do 8 to 10
  module _ (y : ends.EditMessage (edits ranks)) (okay : UpMessage items E h l y) (following : y.number ≡ suc v.taken) (current : v.acked ≤ y.seen) where
    up_after : LineAt items l (order h l) (h.served ++ (own l (order h l) v.taken ∷ [])) (h.applied l) c (takes y v) (E.docs l)
    up_after = line_up items l (order h l) h.served (h.applied l) c v (E.docs l) line y okay following current

    up_length : length (applied_named (arrived y v) E.doc) ≤ max_items
    up_length =
        let edge = up_edge items l (order h l) h.served (h.applied l) c v (E.docs l) line y okay following current in
        subst (λ (d : List Place). length d ≤ max_items)
        (edge.gives ∙ ap₂ applied_named (sym (up_arrives items l (order h l) h.served (h.applied l) c v (E.docs l) line y okay following current)) (sym (server_doc items E h sim.inv l)))
        (doc_most (laws sim) items (order h l) room l (suc v.taken) (length (others l (order h l))))

    -- the insert that goes up is one that the client has counted
    up_inserts : sim.si l + inserts_of y.edit.edit ≤ max_inserts
    up_inserts =
        first_untaken items (laws sim) E h sim.inv l y okay following current (h.untaken l) refl (λ r. sim.si l + inserts_of y.edit.edit ≤ max_inserts)
        (λ o us split.
        omega (
          arith,
          client_more n items s sim few l,
          client_most n items s sim few l lo hi,
          ap inserts split ∙ inserts_cons o us,
          first_inserts n items s sim l lo hi y okay following o us split,
        ))

    pub up_asked : Asked (line_of S l) E.doc (header_of l 0 y) y.edit.edit
    up_asked =
        on_line_lem (λ u. Asked u E.doc (header_of l 0 y) y.edit.edit)
        (arrives v (sim.si l) l 0 E.doc y following current (omega (arith, okay.seen_le, line.c_taken, line.v_made))
        (from_T (fits (arrived y v).edit (length E.doc)) (up_fits items E h sim.inv l y okay following current))
        (server_placed (laws sim) items l (order h l) (h.served ++ (own l (order h l) v.taken ∷ [])) (h.applied l) c (takes y v) (E.docs l) up_after room)
        up_length)

    pub up_10 : leb ((line_of S l).inserts + inserts_of y.edit.edit) max_inserts ≡ true
    up_10 = on_line_lem (λ u. leb (u.inserts + inserts_of y.edit.edit) max_inserts ≡ true) (le-leb (sim.si l + inserts_of y.edit.edit) max_inserts up_inserts)

  -- ---- the next edit going up
  module _ (more : v.taken < c.made) (roomy_others : (j : ℕ) → 1 ≤ j → j ≤ n → (j ≡ l → ⊥) → (E.lines j).made - (E.lines j).acked < max_pending) (lent : List ℕ)
      (long : length (message_bytes (edit_message h l l (suc v.taken))) ≤ length lent) where
    abbrev up_number : ℕ
    up_number = suc v.taken

    abbrev y : ends.EditMessage (edits ranks)
    y = ends.message up_number c

    abbrev up_hd : Header
    up_hd = header_of l 0 y

    up_low : c.acked < up_number
    up_low = omega (arith, line.c_acked)

    okay : UpMessage items E h l y
    okay = up_message items E h sim.inv l up_number up_low more

    up_written : bytes_of (client_message C up_number) ≡ message_bytes (edit_message h l l up_number)
    up_written = up_bytes n items s sim l lo hi up_number up_low more ∙ ap message_bytes (sym (up_is n items s sim l lo hi up_number up_low more l))

    up_sent : send_client C l up_number lent ≡ posted (bytes_of (client_message C up_number)) lent
    unfolding send_client
    up_sent =
        sent_all (send_client_questions C l up_number lent) (bytes_of (client_message C up_number)) lent
        (sim.client_sound l lo hi
        & eq-eqb l l refl
        & yes_sends C.own up_number (client_message C up_number) lent up_low more (subst (λ (b : List ℕ). length b ≤ length lent) (sym up_written) long))

    up_roomy : others_roomy (l - 1) S.lines ≡ true
    up_roomy =
        table_roomy (λ j. line_from (E.lines j) (sim.si j)) 1 n (l - 1)
        (λ j a b d. lt-ltb ((E.lines j).made - (E.lines j).acked) max_pending (roomy_others j a (omega arith) (λ e. d (omega arith))))

    up_asks : asks (server_edit_questions S up_hd y.edit.edit) ≡ 0
    up_asks =
        all_yes (server_edit_questions S up_hd y.edit.edit)
        (sim.server_sound
        & up_4 y okay (up_ok n items s sim l lo hi up_number up_low more).2
        & yes_asked (line_of S l) E.doc up_hd y.edit.edit (last_questions S up_hd y.edit.edit) (up_asked y okay refl line.v_acked) (up_10 y okay refl line.v_acked & up_roomy & tt))

    up_taken : take_server S (bytes_of (client_message C up_number))
        ≡ record { refusal = 0; end = server_taken S l y.edit.origin c.taken y.edit.edit; report = line_report (line_of S l) c.taken y.edit.edit }
    unfolding take_server server_takes_edit
    up_taken =
        ap (λ (b : List ℕ). server_reads S (parsed b)) (up_bytes n items s sim l lo hi up_number up_low more)
        ∙ ap (server_reads S) (codec.written_read (wire_message (up l y)) (up_ok n items s sim l lo hi up_number up_low more).1)
        ∙ server_message_lem S up_hd y.edit.edit
        ∙ new_end (asks (server_edit_questions S up_hd y.edit.edit)) S (server_taken S l y.edit.origin c.taken y.edit.edit) (line_report (line_of S l) c.taken y.edit.edit) up_asks

    up_rises : (line_of (server_taken S l y.edit.origin c.taken y.edit.edit) l).taken ≡ suc (line_of S l).taken
    up_rises =
        ap (λ (z : Server). (line_of z l).taken) (server_taken_from n (length items) ranks E.doc E.lines sim.si l lo hi y)
        ∙ ap (λ (u : Line). u.taken)
        (line_from_lem n (length items) ranks (applied_named (arrived y v) E.doc) (at l (takes y v) (λ j. ends.keeps (arrived y v) (E.lines j))) (at l (sim.si l + inserts_of y.edit.edit) sim.si) l lo hi)
        ∙ ap (λ (b : Bool). (cond b (takes y v) (ends.keeps (arrived y v) v)).taken) (eq-eqb l l refl)
        ∙ ap (λ (u : Line). suc u.taken) (sym same_line)

    pub delivers_up : Delivered ours (client C) (server S) l (suc (line_of S l).taken) lent
    delivers_up =
        let taken = handed_on (take_server S) (bytes_of (client_message C up_number)) lent (send_client C l up_number lent) _ up_sent up_taken in
        subst (λ (u : Line). Delivered ours (client C) (server S) l (suc u.taken) lent) (sym same_line)
        (record {
          sends = ap (λ (r : Sent). r.refusal) up_sent;
          takes = ap (λ (r : Answer Server). r.refusal) taken;
          rises = ap (λ (r : Answer Server). (line_of r.end l).taken) taken ∙ up_rises;
        })
