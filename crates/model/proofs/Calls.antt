-- Every call of a list of calls keeps the sheet with the theory.
use mathlib.Core.Path.{◌≡◌, refl, ap, ap₂, sym, ◌∙◌, subst}
use mathlib.Core.Bool.{Bool, true, false, not, cond}
use mathlib.Core.Option.{some}
use mathlib.Core.List.{List, [], ◌∷◌, ◌++◌, map}
use Prim.Native.Nat.{ℕ, zero, suc, ◌+◌, ◌-◌, ◌≤◌, ◌<◌}
use native.Mathlib.Numerals.{add-one}
use native.Mathlib.Omega.{arith}
use native.Mathlib.Nat.{le_refl}
use lib.Dec.{eqb, leb}
use lib.ListN.{length, take, drop, get_or, get_elem?, get_or-map}
use lib.Seq.{take-append_seam}
use borrow.Author.Tests.{eqb-true, ne_eqb, eq-eqb, leb-true, le-leb}
use Rattle.std.specs.Prelude.{Option, Some, None}
use Rattle.ot.specs.Edit.{Edit, Nothing, Delete, Insert, fits}
use Rattle.list.specs.declared.Origin.{Origin}
use Rattle.list.specs.Places.{Place}
use Rattle.wire.specs.declared.Header.{Header}
use Rattle.wire.specs.declared.Message as wire
use Rattle.wire.specs.declared.Message.TheVariants as message
use Rattle.wire.specs.Message.{message_of, origin_in_range, header_in_range, in_range, between}
use Rattle.wire.specs.Bytes.{bytes_of, parsed}
use Rattle.wire.proofs.Codec.{codec}
use Rattle.wire.proofs.Ranges.{insert_bounds, delete_bounds}
use Rattle.jupiter.specs.Algebra.{Algebra}
use Rattle.jupiter.specs.Made.{mine, others}
use Rattle.jupiter.specs.Point.{own_form, oth_form}
use Rattle.jupiter.specs.History.{History, at, order}
use Rattle.jupiter.specs.Ends as ends
use Rattle.jupiter.specs.Ends.{Ends}
use Rattle.jupiter.specs.Run.{Message, up, down, up_ack, down_ack}
use Rattle.jupiter.proofs.Lists.{All}
use Rattle.jupiter.proofs.Step.{UpMessage, DownMessage, up_message, down_message}
use Rattle.model.specs.Limits.{max_edits, max_items}
use Rattle.model.specs.Questions.{ask, asks, no_report, Answer, answer, Sent}
use Rattle.model.specs.Cross.{priority}
use Rattle.model.specs.Line.{Line, other, line_message, line_report, takes_by}
use Rattle.model.specs.Client.{Client, sound_client, list_then, edited, make_questions, edit_questions, edit_client, take_back_questions, take_back_client, client_message, send_client_questions, send_client, tell_client_questions, tell_client, client_taken, client_acked, client_edit_questions, client_takes_edit, client_ack_questions, client_takes_ack, client_takes, client_reads, take_client}
use Rattle.model.specs.Server.{Server, line_of, makers_of, other_maker, sound_server, maker_at, own_origin, server_message, send_server_questions, send_server, tell_server_questions, tell_server, server_taken, server_acked, server_edit_questions, server_takes_edit, server_ack_questions, server_takes_ack, server_takes, server_reads, take_server}
use Rattle.model.specs.Ranks.{rank_of}
use Rattle.model.specs.Edits.{Named, no_origin, Rule, edits_by, edits}
use Rattle.model.specs.Sheet.{Call, take_back, send, tell, receive, junk}
use Rattle.model.specs.Log as logs
use Rattle.model.specs.Log.{Log, header_of, wire_message, message_bytes, taken_at, edit_message, ack_message, hears, writes, took, took_up, took_down, logged, refused_log, log}
use Rattle.model.specs.Run.{State, answered, written, unreadable}
use Rattle.model.specs.Ours.{End, client, server, answer_as, ours}
use Rattle.model.proofs.Tests.{never, both, four, and_left, and_right, Yes, yes_all, between_true, true_between}
use Rattle.model.proofs.SoundLine.{Asked, asked}
use Rattle.model.proofs.SoundClient.{ClientFacts, client_facts, carry_questions}
use Rattle.model.proofs.SoundServer.{ServerFacts, server_facts, ServerLine, line_fact, makers_fact, maker_at_lem, made_most, taken_sum, last_questions}
use Rattle.model.proofs.Sound.{edits_sound, takes_back, client_takes_edit_lem, client_takes_ack_lem, server_takes_edit_lem, server_takes_ack_lem}
use Rattle.model.proofs.Instance.{makers_in}
use Rattle.model.proofs.Origins.{up_origin}
use Rattle.model.proofs.Small.{Small}
use Rattle.model.proofs.Outcome as outcomes
use Rattle.model.proofs.Outcome.{Outcome, outcome, Posted, posted}
use Rattle.model.proofs.Ranges.{line_bytes, line_priority, line_range, up_range, down_range, up_ack_range, down_ack_range}
use Rattle.model.proofs.Sim.{client_from, server_from, line_from, line_from_lem, makers_from_lem, MessageOk, Moment, Sim, ranked}
use Rattle.model.proofs.Follow.{refused, edits_on, takes_down, takes_up, acks_down, acks_up, writes_on}

-- the log of a refused call, and of one that was not
pub log_no : {ranks : List ℕ} (w : Log ranks) (c : Call) (r : ℕ) → (r ≡ 0 → ⊥) → log w c r ≡ refused_log w c
unfolding log
log_no w c r h = rw (ne_eqb r 0 h)

-- an edit message is what it says
takes_message : {A : Type 0} (edit : Header → Edit → A) (ack : ℕ → ℕ → ℕ → A) (h : Header) (e : Edit) → takes_by edit ack (message_of h e) ≡ edit h e
takes_message edit ack h Nothing = refl
takes_message edit ack h (Delete p) = refl
takes_message edit ack h (Insert p x r) = refl

pub client_message_lem : (c : Client) (h : Header) (e : Edit) → client_takes c (message_of h e) ≡ client_takes_edit c h e
client_message_lem c = takes_message (client_takes_edit c) (client_takes_ack c)

pub server_message_lem : (s : Server) (h : Header) (e : Edit) → server_takes s (message_of h e) ≡ server_takes_edit s h e
server_message_lem s = takes_message (server_takes_edit s) (server_takes_ack s)

header_range : (h : Header) (e : Edit) → in_range (message_of h e) ≡ true → header_in_range h ≡ true
unfolding in_range
header_range h Nothing r = r
header_range h (Delete p) r = (delete_bounds h p r).header_in_range_lem
header_range h (Insert p x q) r = (insert_bounds h p x q r).header_in_range_lem

small_range : (h : Header) (e : Edit) → in_range (message_of h e) ≡ true → Small e
small_range h Nothing r = refl
small_range h (Delete p) r = refl
small_range h (Insert p x q) r = le-leb x 4294967295 (insert_bounds h p x q r).item_high

-- the messages of a client's and of the server's sending
client_edit_message : {𝓐 : Algebra} (h : History 𝓐) (l line number t : ℕ) → 1 ≤ l → length (others l (h.applied l)) ≡ t
    → edit_message h l line number ≡ up l (record { number = number; seen = t; edit = own_form l (order h l) (number - 1) t })
unfolding edit_message taken_at
client_edit_message h zero line number t a e = absurd (omega arith)
client_edit_message h (suc l) line number t a e = ap (λ (i : ℕ). up (suc l) (record { number = number; seen = i; edit = own_form (suc l) (order h (suc l)) (number - 1) i })) e

client_ack_message : {𝓐 : Algebra} (h : History 𝓐) (l line t : ℕ) → 1 ≤ l → length (others l (h.applied l)) ≡ t → ack_message h l line ≡ up_ack l t
unfolding ack_message taken_at
client_ack_message h zero line t a e = absurd (omega arith)
client_ack_message h (suc l) line t a e = ap (up_ack (suc l)) e

server_edit_message : {𝓐 : Algebra} (h : History 𝓐) (line number t : ℕ) → length (mine line h.served) ≡ t
    → edit_message h 0 line number ≡ down line (record { number = number; seen = t; edit = oth_form line (order h line) t (number - 1) })
unfolding edit_message taken_at
server_edit_message h line number t e = ap (λ (i : ℕ). down line (record { number = number; seen = i; edit = oth_form line (order h line) i (number - 1) })) e

server_ack_message : {𝓐 : Algebra} (h : History 𝓐) (line t : ℕ) → length (mine line h.served) ≡ t → ack_message h 0 line ≡ down_ack line t
unfolding ack_message taken_at
server_ack_message h line t e = ap (down_ack line) e

module _ (n : ℕ) (items : List Place) {ranks : List ℕ} {from : Moment ranks} (s : State ours ranks) (sim : Sim n items from s) where
  abbrev w : Log ranks
  w = s.recorded

  abbrev h : History (edits ranks)
  h = s.recorded.history

  abbrev E : Ends (edits ranks)
  E = sim.E

  -- the end comes back as it was handed in
  turned_down : (a : ℕ) (c : Call) (r : ℕ) (e : End) → (r ≡ 0 → ⊥) → s.ends a ≡ e → refused_log w c ≡ hears w w.heard
      → Sim n items from (answered ours s a c (record { refusal = r; end = e; report = no_report }))
  turned_down a c r e d same quiet =
      subst
      (λ (z : Log ranks). Sim n items from (record { ends = at a e s.ends; messages = s.messages; reports = s.reports ++ (no_report ∷ []); recorded = z }))
      (sym (log_no w c r d ∙ quiet))
      (subst (λ (y : End). Sim n items from (record { ends = at a y s.ends; messages = s.messages; reports = s.reports ++ (no_report ∷ []); recorded = hears w w.heard })) same
      (refused n items s sim a))

  -- ---- at client l
  module _ (l : ℕ) (lo : 1 ≤ l) (hi : l ≤ n) where
    abbrev C : Client
    C = client_from n l ranks (E.clients l) (E.docs l) (sim.ci l) (sim.bk l)

    abbrev sound : sound_client C ≡ true
    sound = sim.client_sound l lo hi

    -- an edit that some questions let through, 9 to 12 among them
    edit_call : (c : Call) (e : Edit) (k : ℕ) → priority (eqb (rank_of ranks l)) e ≡ true → Small e → (k ≡ 0 → Yes (make_questions C e))
        → logged w c ≡ logs.edited w l e → refused_log w c ≡ hears w w.heard
        → (a : Answer Client) → Outcome k C (edited C e) no_report a → sound_client a.end ≡ true
        → Sim n items from (answered ours s l c (answer_as client a))
    unfolding log
    edit_call c e k pr sm asked made quiet a (outcomes.Outcome.no r) ok = turned_down l c k (client C) r (sim.client_is l lo hi) quiet
    edit_call c e k pr sm asked made quiet a (outcomes.Outcome.yes r) ok =
        let q9 = and_left (fits e (length (E.docs l))) (leb (length (list_then C e)) max_items) (asked r).0 in
        subst (λ (z : Log ranks). Sim n items from (record { ends = at l (client (edited C e)) s.ends; messages = s.messages; reports = s.reports ++ (no_report ∷ []); recorded = z })) (sym made)
        (edits_on n items s sim l lo hi e pr sm q9 ok)

    -- an edit message
    take_edit : (c : Call) (m : ends.EditMessage (edits ranks)) (k : ℕ) (direction : ℕ) → in_range (message_of (header_of k direction m) m.edit.edit) ≡ true
        → (direction ≡ 1 → DownMessage items E h k m) → (direction ≡ 1 → logged w c ≡ cond (eqb l k) (took_down w k m) (hears w w.heard))
        → refused_log w c ≡ hears w w.heard → Sim n items from (answered ours s l c (answer_as client (client_takes C (message_of (header_of k direction m) m.edit.edit))))
    unfolding log client_takes_edit
    take_edit c m k direction range fine made quiet =
        subst (λ (a : Answer Client). Sim n items from (answered ours s l c (answer_as client a))) (sym (client_message_lem C hd m.edit.edit))
        (go (client_takes_edit C hd m.edit.edit)
        (outcome (asks (client_edit_questions C hd m.edit.edit)) C (client_taken C m.edit.origin m.seen m.edit.edit) (line_report C.own m.seen m.edit.edit))
        (client_takes_edit_lem C hd m.edit.edit (header_range hd m.edit.edit range) sound))
      where
        hd : Header
        hd = header_of k direction m

        go : (a : Answer Client) → Outcome (asks (client_edit_questions C hd m.edit.edit)) C (client_taken C m.edit.origin m.seen m.edit.edit) (line_report C.own m.seen m.edit.edit) a
            → sound_client a.end ≡ true → Sim n items from (answered ours s l c (answer_as client a))
        go a (outcomes.Outcome.no r) ok = turned_down l c (asks (client_edit_questions C hd m.edit.edit)) (client C) r (sim.client_is l lo hi) quiet
        go a (outcomes.Outcome.yes r) ok =
            let y = yes_all (client_edit_questions C hd m.edit.edit) (omega arith) r in
            let q4 = four (eqb direction 1) (eqb k l) (priority (other n (rank_of ranks l)) m.edit.edit) (other n l m.edit.origin.line) y.1.0 in
            let down_way : direction ≡ 1 = eqb-true direction 1 q4.0 in
            let mine_way : k ≡ l = eqb-true k l q4.1 in
            let q = asked C.own (E.docs l) hd m.edit.edit (carry_questions C hd m.edit.edit) y.1.1 in
            subst (λ (z : Log ranks). Sim n items from (record { ends = at l (client (client_taken C m.edit.origin m.seen m.edit.edit)) s.ends; messages = s.messages; reports = s.reports ++ (line_report C.own m.seen m.edit.edit ∷ []); recorded = z }))
            (sym (made down_way ∙ ap (λ (i : ℕ). cond (eqb l i) (took_down w i m) (hears w w.heard)) mine_way ∙ rw (eq-eqb l l refl)))
            (takes_down n items s sim l lo hi m (subst (λ (i : ℕ). DownMessage items E h i m) mine_way (fine down_way)) (q.next ∙ add-one (E.clients l).taken) q.low
            (small_range hd m.edit.edit range) q.fit ok)

    -- an acknowledgement
    take_ack : (c : Call) (k direction seen : ℕ) → (direction ≡ 1 → seen ≤ (E.lines k).taken) → (direction ≡ 1 → logged w c ≡ cond (eqb l k) (hears w (logs.hearing w k k seen)) (hears w w.heard)) → refused_log w c ≡ hears w w.heard
        → (a : Answer Client) → Outcome (asks (client_ack_questions C k direction seen)) C (client_acked C seen) no_report a → sound_client a.end ≡ true
        → Sim n items from (answered ours s l c (answer_as client a))
    unfolding log
    take_ack c k direction seen fine made quiet a (outcomes.Outcome.no r) ok = turned_down l c (asks (client_ack_questions C k direction seen)) (client C) r (sim.client_is l lo hi) quiet
    take_ack c k direction seen fine made quiet a (outcomes.Outcome.yes r) ok =
        let y = yes_all (client_ack_questions C k direction seen) (omega arith) r in
        let down_way : direction ≡ 1 = eqb-true direction 1 (and_left (eqb direction 1) (eqb k l) y.1.0) in
        let mine_way : k ≡ l = eqb-true k l (and_right (eqb direction 1) (eqb k l) y.1.0) in
        subst (λ (z : Log ranks). Sim n items from (record { ends = at l (client (client_acked C seen)) s.ends; messages = s.messages; reports = s.reports ++ (no_report ∷ []); recorded = z }))
        (sym (made down_way ∙ ap (λ (i : ℕ). cond (eqb l i) (hears w (logs.hearing w i i seen)) (hears w w.heard)) mine_way ∙ rw (eq-eqb l l refl)))
        (acks_down n items s sim l lo hi seen (leb-true (E.clients l).acked seen y.1.1.0) (subst (λ (i : ℕ). seen ≤ (E.lines i).taken) mine_way (fine down_way)) ok)

    -- a message that some sending wrote
    take_message : (c : Call) (x : Message (edits ranks)) → MessageOk n ranks items E h x → logged w c ≡ took w l (some x) → refused_log w c ≡ hears w w.heard
        → Sim n items from (answered ours s l c (answer_as client (client_takes C (wire_message x))))
    unfolding took client_takes_ack
    take_message c (up k m) ok made quiet = take_edit c m k 0 ok.1 (λ e. absurd (omega arith)) (λ e. absurd (omega arith)) quiet
    take_message c (down k m) ok made quiet = take_edit c m k 1 ok.1 (λ e. ok.0) (λ e. made) quiet
    take_message c (up_ack k seen) ok made quiet =
        take_ack c k 0 seen (λ e. absurd (omega arith)) (λ e. absurd (omega arith)) quiet (client_takes_ack C k 0 seen) (outcome (asks (client_ack_questions C k 0 seen)) C (client_acked C seen) no_report) (client_takes_ack_lem C k 0 seen sound)
    take_message c (down_ack k seen) ok made quiet =
        take_ack c k 1 seen (λ e. ok.0) (λ e. made) quiet (client_takes_ack C k 1 seen) (outcome (asks (client_ack_questions C k 1 seen)) C (client_acked C seen) no_report) (client_takes_ack_lem C k 1 seen sound)

    -- bytes that no message has
    take_junk : (c : Call) (a : Answer Client) → Outcome (asks (ask 2 (sound_client C) ∷ ask 3 false ∷ [])) C C no_report a → refused_log w c ≡ hears w w.heard
        → Sim n items from (answered ours s l c (answer_as client a))
    take_junk c a (outcomes.Outcome.no r) quiet = turned_down l c (asks (ask 2 (sound_client C) ∷ ask 3 false ∷ [])) (client C) r (sim.client_is l lo hi) quiet
    take_junk c a (outcomes.Outcome.yes r) quiet = never (yes_all (ask 2 (sound_client C) ∷ ask 3 false ∷ []) (omega arith) r).1.0

  -- ---- at the server
  abbrev S : Server
  S = server_from n (length items) ranks E.doc E.lines sim.si

  -- what the server asks of line k is what it keeps of it
  line_of_lem : (k : ℕ) → 1 ≤ k → k ≤ n → line_of S k ≡ line_from (E.lines k) (sim.si k)
  line_of_lem k a b = line_from_lem n (length items) ranks E.doc E.lines sim.si k a b

  serve_edit : (c : Call) (m : ends.EditMessage (edits ranks)) (k : ℕ) (direction : ℕ) → in_range (message_of (header_of k direction m) m.edit.edit) ≡ true
      → (direction ≡ 0 → UpMessage items E h k m) → (direction ≡ 0 → logged w c ≡ took_up w k m)
      → refused_log w c ≡ hears w w.heard → Sim n items from (answered ours s 0 c (answer_as server (server_takes S (message_of (header_of k direction m) m.edit.edit))))
  unfolding log server_takes_edit
  serve_edit c m k direction range fine made quiet =
      subst (λ (a : Answer Server). Sim n items from (answered ours s 0 c (answer_as server a))) (sym (server_message_lem S hd m.edit.edit))
      (go (server_takes_edit S hd m.edit.edit)
      (outcome (asks (server_edit_questions S hd m.edit.edit)) S (server_taken S k m.edit.origin m.seen m.edit.edit) (line_report (line_of S k) m.seen m.edit.edit))
      (server_takes_edit_lem S hd m.edit.edit (header_range hd m.edit.edit range) sim.server_sound))
    where
      hd : Header
      hd = header_of k direction m

      go : (a : Answer Server) → Outcome (asks (server_edit_questions S hd m.edit.edit)) S (server_taken S k m.edit.origin m.seen m.edit.edit) (line_report (line_of S k) m.seen m.edit.edit) a
          → sound_server a.end ≡ true → Sim n items from (answered ours s 0 c (answer_as server a))
      go a (outcomes.Outcome.no r) ok = turned_down 0 c (asks (server_edit_questions S hd m.edit.edit)) (server S) r sim.server_is quiet
      go a (outcomes.Outcome.yes r) ok =
          let y = yes_all (server_edit_questions S hd m.edit.edit) (omega arith) r in
          let q4 = four (eqb direction 0) (between 1 n k) (priority (eqb (rank_of ranks k)) m.edit.edit) (own_origin hd) y.1.0 in
          let up_way : direction ≡ 0 = eqb-true direction 0 q4.0 in
          let there = between_true 1 n k q4.1 in
          let same = line_of_lem k there.0 there.1 in
          let q = subst (λ (v : Line). Asked v E.doc hd m.edit.edit) same (asked (line_of S k) E.doc hd m.edit.edit (last_questions S hd m.edit.edit) y.1.1) in
          subst (λ (v : Line). Sim n items from (record { ends = at 0 (server (server_taken S k m.edit.origin m.seen m.edit.edit)) s.ends; messages = s.messages; reports = s.reports ++ (line_report v m.seen m.edit.edit ∷ []); recorded = logged w c }))
          (sym same)
          (subst (λ (z : Log ranks). Sim n items from (record { ends = at 0 (server (server_taken S k m.edit.origin m.seen m.edit.edit)) s.ends; messages = s.messages; reports = s.reports ++ (line_report (line_from (E.lines k) (sim.si k)) m.seen m.edit.edit ∷ []); recorded = z }))
          (sym (made up_way))
          (takes_up n items s sim k there.0 there.1 m (fine up_way) (q.next ∙ add-one (E.lines k).taken) q.low (small_range hd m.edit.edit range) ok))

  serve_ack : (c : Call) (k direction seen : ℕ) → (direction ≡ 0 → seen ≤ (E.clients k).taken) → (direction ≡ 0 → logged w c ≡ hears w (logs.hearing w 0 k seen)) → refused_log w c ≡ hears w w.heard
      → (a : Answer Server) → Outcome (asks (server_ack_questions S k direction seen)) S (server_acked S k seen) no_report a → sound_server a.end ≡ true
      → Sim n items from (answered ours s 0 c (answer_as server a))
  unfolding log
  serve_ack c k direction seen fine made quiet a (outcomes.Outcome.no r) ok = turned_down 0 c (asks (server_ack_questions S k direction seen)) (server S) r sim.server_is quiet
  serve_ack c k direction seen fine made quiet a (outcomes.Outcome.yes r) ok =
      let y = yes_all (server_ack_questions S k direction seen) (omega arith) r in
      let up_way : direction ≡ 0 = eqb-true direction 0 (and_left (eqb direction 0) (between 1 n k) y.1.0) in
      let there = between_true 1 n k (and_right (eqb direction 0) (between 1 n k) y.1.0) in
      let low : (E.lines k).acked ≤ seen = subst (λ (v : Line). v.acked ≤ seen) (line_of_lem k there.0 there.1) (leb-true (line_of S k).acked seen y.1.1.0) in
      subst (λ (z : Log ranks). Sim n items from (record { ends = at 0 (server (server_acked S k seen)) s.ends; messages = s.messages; reports = s.reports ++ (no_report ∷ []); recorded = z })) (sym (made up_way))
      (acks_up n items s sim k there.0 there.1 seen low (fine up_way) ok)

  serve_message : (c : Call) (x : Message (edits ranks)) → MessageOk n ranks items E h x → logged w c ≡ took w 0 (some x) → refused_log w c ≡ hears w w.heard
      → Sim n items from (answered ours s 0 c (answer_as server (server_takes S (wire_message x))))
  unfolding took server_takes_ack
  serve_message c (up k m) ok made quiet = serve_edit c m k 0 ok.1 (λ e. ok.0) (λ e. made) quiet
  serve_message c (down k m) ok made quiet = serve_edit c m k 1 ok.1 (λ e. absurd (omega arith)) (λ e. absurd (omega arith)) quiet
  serve_message c (up_ack k seen) ok made quiet =
      serve_ack c k 0 seen (λ e. ok.0) (λ e. made) quiet (server_takes_ack S k 0 seen) (outcome (asks (server_ack_questions S k 0 seen)) S (server_acked S k seen) no_report) (server_takes_ack_lem S k 0 seen sim.server_sound)
  serve_message c (down_ack k seen) ok made quiet =
      serve_ack c k 1 seen (λ e. absurd (omega arith)) (λ e. absurd (omega arith)) quiet (server_takes_ack S k 1 seen) (outcome (asks (server_ack_questions S k 1 seen)) S (server_acked S k seen) no_report) (server_takes_ack_lem S k 1 seen sim.server_sound)

  serve_junk : (c : Call) (a : Answer Server) → Outcome (asks (ask 2 (sound_server S) ∷ ask 3 false ∷ [])) S S no_report a → refused_log w c ≡ hears w w.heard
      → Sim n items from (answered ours s 0 c (answer_as server a))
  serve_junk c a (outcomes.Outcome.no r) quiet = turned_down 0 c (asks (ask 2 (sound_server S) ∷ ask 3 false ∷ [])) (server S) r sim.server_is quiet
  serve_junk c a (outcomes.Outcome.yes r) quiet = never (yes_all (ask 2 (sound_server S) ∷ ask 3 false ∷ []) (omega arith) r).1.0

  -- ---- sending

  -- a sending writes the message of the definitions, or nothing
  post : (c : Call) (r : ℕ) (bytes lent : List ℕ) (x : Message (edits ranks)) → logged w c ≡ writes w x → refused_log w c ≡ w → (r ≡ 0 → MessageOk n ranks items E h x × (bytes ≡ message_bytes x))
      → (a : Sent) → Posted r bytes lent a → Sim n items from (written ours s c a)
  unfolding log
  post c r bytes lent x made quiet ok a (outcomes.Posted.no d) =
      subst (λ (z : Log ranks). Sim n items from (record { ends = s.ends; messages = cond (eqb r 0) (s.messages ++ (take 0 lent ∷ [])) s.messages; reports = s.reports; recorded = z }))
      (sym (log_no w c r d ∙ quiet))
      (subst (λ (b : Bool). Sim n items from (record { ends = s.ends; messages = cond b (s.messages ++ (take 0 lent ∷ [])) s.messages; reports = s.reports; recorded = w }))
      (sym (ne_eqb r 0 d)) sim)
  post c r bytes lent x made quiet ok a (outcomes.Posted.yes z) =
      subst (λ (y : Log ranks). Sim n items from (record { ends = s.ends; messages = s.messages ++ (take (length bytes) (bytes ++ drop (length bytes) lent) ∷ []); reports = s.reports; recorded = y }))
      (sym made)
      (subst (λ (b : List ℕ). Sim n items from (record { ends = s.ends; messages = s.messages ++ (b ∷ []); reports = s.reports; recorded = writes w x }))
      (sym (take-append_seam bytes (drop (length bytes) lent) ∙ (ok z).1)) (writes_on n items s sim x (ok z).0))

  -- client l sends the edit of a number
  module _ (l : ℕ) (lo : 1 ≤ l) (hi : l ≤ n) where
    abbrev F : ClientFacts (client_from n l ranks (E.clients l) (E.docs l) (sim.ci l) (sim.bk l))
    F = client_facts (client_from n l ranks (E.clients l) (E.docs l) (sim.ci l) (sim.bk l)) (sim.client_sound l lo hi)

    module _ (number : ℕ) (low : (E.clients l).acked < number) (high : number ≤ (E.clients l).made) where
      pub up_is : (line : ℕ) → edit_message h l line number ≡ up l (ends.message number (E.clients l))
      up_is line =
          let ok = up_message items E h sim.inv l number low high in
          client_edit_message h l line number (E.clients l).taken lo (sim.taken l)
          ∙ ap (λ (e : Named). up l (record { number = number; seen = (E.clients l).taken; edit = e }))
          (ap (λ (i : ℕ). own_form l (order h l) i (E.clients l).taken) (omega (arith, ok.number)) ∙ sym ok.edit)

      -- its origin: the client's line and the number
      up_made : record { line = l; number = number } ≡ (ends.message number (E.clients l)).edit.origin
      up_made = sym (up_origin ranks items E h sim.inv l (ends.message number (E.clients l)) (up_message items E h sim.inv l number low high))

      pub up_bytes : bytes_of (client_message (client_from n l ranks (E.clients l) (E.docs l) (sim.ci l) (sim.bk l)) number) ≡ message_bytes (up l (ends.message number (E.clients l)))
      up_bytes = line_bytes (E.clients l) (sim.ci l) number l 0 (record { line = l; number = number }) up_made

      pub up_ok : MessageOk n ranks items E h (up l (ends.message number (E.clients l)))
      up_ok =
          let few : number ≤ max_edits = omega (arith, F.own.edits) in
          let in_range : origin_in_range (record { line = l; number = number }) ≡ true =
          both (between 1 8 l) (between 1 max_edits number) (true_between 1 8 l lo (omega (arith, F.lines.1))) (true_between 1 max_edits number (omega arith) few) in (
            up_message items E h sim.inv l number low high,
            line_range (E.clients l) (sim.ci l) number (E.clients l).made (eqb (rank_of ranks l)) F.own low high (header_of l 0 (ends.message number (E.clients l)))
                (up_range l number (E.clients l).taken (ends.message number (E.clients l)).edit.origin lo (omega (arith, F.lines.1)) (omega arith) few F.taken
                (subst (λ (o : Origin). origin_in_range o ≡ true) up_made in_range))
                (λ r e. let z : rank_of ranks l ≡ r = eqb-true (rank_of ranks l) r e in let k = (ranked sim).each l lo hi in (omega arith, omega (arith, F.lines.1)))
                (sim.client_small l),
            (lo, hi, line_priority (E.clients l) (sim.ci l) number (E.clients l).made (eqb (rank_of ranks l)) F.own low high),
          )

    client_sends : (line number : ℕ) (lent : List ℕ) → Sim n items from (written ours s (send l line number lent) (send_client (client_from n l ranks (E.clients l) (E.docs l) (sim.ci l) (sim.bk l)) line number lent))
    unfolding send_client logged refused_log
    client_sends line number lent =
        let C = client_from n l ranks (E.clients l) (E.docs l) (sim.ci l) (sim.bk l) in
        post (send l line number lent) (asks (send_client_questions C line number lent)) (bytes_of (client_message C number)) lent (edit_message h l line number) refl refl
        (λ z.
        let y = yes_all (send_client_questions C line number lent) (omega arith) z in
        let q13 = between_true ((E.clients l).acked + 1) (E.clients l).made number y.1.1.0 in
        let low : (E.clients l).acked < number = omega arith in
        (subst (MessageOk n ranks items E h) (sym (up_is number low q13.1 line)) (up_ok number low q13.1), up_bytes number low q13.1 ∙ ap message_bytes (sym (up_is number low q13.1 line))))
        (send_client C line number lent) (posted (asks (send_client_questions C line number lent)) (bytes_of (client_message C number)) lent)

    client_tells : (line : ℕ) (lent : List ℕ) → Sim n items from (written ours s (tell l line lent) (tell_client (client_from n l ranks (E.clients l) (E.docs l) (sim.ci l) (sim.bk l)) line lent))
    unfolding tell_client logged refused_log
    client_tells line lent =
        let C = client_from n l ranks (E.clients l) (E.docs l) (sim.ci l) (sim.bk l) in
        let is = client_ack_message h l line (E.clients l).taken lo (sim.taken l) in
        post (tell l line lent) (asks (tell_client_questions C line lent)) (bytes_of (message.Ack l 0 (E.clients l).taken)) lent (ack_message h l line) refl refl
        (λ z. (
          subst (MessageOk n ranks items E h) (sym is) (le_refl (E.clients l).taken, up_ack_range l (E.clients l).taken lo (omega (arith, F.lines.1)) F.taken, (lo, hi)),
          ap message_bytes (sym is),
        ))
        (tell_client C line lent) (posted (asks (tell_client_questions C line lent)) (bytes_of (message.Ack l 0 (E.clients l).taken)) lent)

  -- the server sends the edit of a number to client l
  module _ (l : ℕ) (lo : 1 ≤ l) (hi : l ≤ n) where
    abbrev G : ServerFacts S
    G = server_facts S sim.server_sound

    abbrev K : ServerLine n ranks (taken_sum S.lines) l (line_from (E.lines l) (sim.si l))
    K = subst (λ (v : Line). ServerLine n ranks (taken_sum S.lines) l v) (line_of_lem l lo hi) (line_fact S G l lo hi)

    module _ (number : ℕ) (low : (E.lines l).acked < number) (high : number ≤ (E.lines l).made) where
      pub down_is : edit_message h 0 l number ≡ down l (ends.message number (E.lines l))
      down_is =
          let ok = down_message items E h sim.inv l number low high in
          server_edit_message h l number (E.lines l).taken (sym (sim.inv.lines l).v_count)
          ∙ ap (λ (e : Named). down l (record { number = number; seen = (E.lines l).taken; edit = e }))
          (ap (oth_form l (order h l) (E.lines l).taken) (omega (arith, ok.number)) ∙ sym ok.edit)

      -- its origin is one that the server keeps beside the line
      down_made : maker_at S l number ≡ (ends.message number (E.lines l)).edit.origin
      down_made =
          ap₂ (λ (os : List Origin) (v : Line). get_or os (number - (v.acked + 1)) no_origin) (makers_from_lem n (length items) ranks E.doc E.lines sim.si l lo hi) (line_of_lem l lo hi)
          ∙ ap (λ (j : ℕ). get_or (makers_in (E.lines l).pending) (number - j) no_origin) (add-one (E.lines l).acked)
          ∙ get_or-map (λ e. e.origin) (E.lines l).pending (number - suc (E.lines l).acked) (record { origin = no_origin; edit = Nothing })

      -- and so another client's
      down_other : other_maker n l (ends.message number (E.lines l)).edit.origin ≡ true
      down_other =
          let os = makers_of S l in
          let kept = makers_fact S G l lo hi in
          let place : number - ((line_of S l).acked + 1) < length os = omega (arith, kept.count, ap (λ (v : Line). v.acked) (line_of_lem l lo hi), ap (λ (v : Line). v.made) (line_of_lem l lo hi)) in
          subst (λ (o : Origin). other_maker n l o ≡ true) down_made (maker_at_lem n l os (number - ((line_of S l).acked + 1)) place kept.others)

      pub down_bytes : bytes_of (server_message S l number) ≡ message_bytes (down l (ends.message number (E.lines l)))
      down_bytes =
          ap (λ (v : Line). bytes_of (line_message l 1 (maker_at S l number) v number)) (line_of_lem l lo hi)
          ∙ line_bytes (E.lines l) (sim.si l) number l 1 (maker_at S l number) down_made

      pub down_ok : MessageOk n ranks items E h (down l (ends.message number (E.lines l)))
      down_ok =
          let o = (ends.message number (E.lines l)).edit.origin in
          let from = and_left (other n l o.line) (between 1 max_edits o.number) down_other in
          let there = between_true 1 n o.line (and_left (between 1 n o.line) (not (eqb o.line l)) from) in
          let in_range : origin_in_range o ≡ true =
          both (between 1 8 o.line) (between 1 max_edits o.number) (true_between 1 8 o.line there.0 (omega (arith, G.n.1)))
          (and_right (other n l o.line) (between 1 max_edits o.number) down_other) in (
            down_message items E h sim.inv l number low high,
            line_range (E.lines l) (sim.si l) number (E.lines l).taken (other n (rank_of ranks l)) K.line low high (header_of l 1 (ends.message number (E.lines l)))
                (down_range l number (E.lines l).taken o lo (omega (arith, G.n.1)) (omega arith) (omega (arith, subst (λ (v : Line). v.made ≤ 2800) (line_of_lem l lo hi) (made_most S G l lo hi))) K.line.edits in_range)
                (λ r e. let z = between_true 1 n r (and_left (between 1 n r) (not (eqb r (rank_of ranks l))) e) in (z.0, omega (arith, G.n.1)))
                (sim.server_small l),
            (lo, hi, line_priority (E.lines l) (sim.si l) number (E.lines l).taken (other n (rank_of ranks l)) K.line low high, from),
          )

    server_sends : (number : ℕ) (lent : List ℕ) → asks (send_server_questions S l number lent) ≡ 0 → MessageOk n ranks items E h (edit_message h 0 l number) × (bytes_of (server_message S l number) ≡ message_bytes (edit_message h 0 l number))
    server_sends number lent z =
        let y = yes_all (send_server_questions S l number lent) (omega arith) z in
        let q13 = between_true ((line_of S l).acked + 1) (line_of S l).made number y.1.1.0 in
        let low : (E.lines l).acked < number = subst (λ (v : Line). v.acked < number) (line_of_lem l lo hi) (omega arith) in
        let high : number ≤ (E.lines l).made = subst (λ (v : Line). number ≤ v.made) (line_of_lem l lo hi) q13.1 in
        (subst (MessageOk n ranks items E h) (sym (down_is number low high)) (down_ok number low high), down_bytes number low high ∙ ap message_bytes (sym (down_is number low high)))

    server_tells : MessageOk n ranks items E h (ack_message h 0 l) × (bytes_of (message.Ack l 1 (line_of S l).taken) ≡ message_bytes (ack_message h 0 l))
    server_tells =
        let is = server_ack_message h l (E.lines l).taken (sym (sim.inv.lines l).v_count) in (
          subst (MessageOk n ranks items E h) (sym is) (le_refl (E.lines l).taken, down_ack_range l (E.lines l).taken lo (omega (arith, G.n.1)) K.line.edits, (lo, hi)),
          ap (λ (v : Line). bytes_of (message.Ack l 1 v.taken)) (line_of_lem l lo hi) ∙ ap message_bytes (sym is),
        )

  server_posts : (line number : ℕ) (lent : List ℕ) → Sim n items from (written ours s (send 0 line number lent) (send_server S line number lent))
  unfolding send_server logged refused_log
  server_posts line number lent =
      post (send 0 line number lent) (asks (send_server_questions S line number lent)) (bytes_of (server_message S line number)) lent (edit_message h 0 line number) refl refl
      (λ z.
      let there = between_true 1 n line (yes_all (send_server_questions S line number lent) (omega arith) z).1.0 in
      server_sends line there.0 there.1 number lent z)
      (send_server S line number lent) (posted (asks (send_server_questions S line number lent)) (bytes_of (server_message S line number)) lent)

  server_acks : (line : ℕ) (lent : List ℕ) → Sim n items from (written ours s (tell 0 line lent) (tell_server S line lent))
  unfolding tell_server logged refused_log
  server_acks line lent =
      post (tell 0 line lent) (asks (tell_server_questions S line lent)) (bytes_of (message.Ack line 1 (line_of S line).taken)) lent (ack_message h 0 line) refl refl
      (λ z.
      let there = between_true 1 n line (yes_all (tell_server_questions S line lent) (omega arith) z).1.0 in
      server_tells line there.0 there.1)
      (tell_server S line lent) (posted (asks (tell_server_questions S line lent)) (bytes_of (message.Ack line 1 (line_of S line).taken)) lent)

-- ---- any call

-- a message of the list of messages is that of a message
some_eq : (x y : List ℕ) → some x ≡ some y → x ≡ y
some_eq x y e = cc

pub written_as : {by : Rule} (xs : List (Message (edits_by by))) (i : ℕ) (b : List ℕ) → get_elem? (map message_bytes xs) i ≡ some b → (P : Message (edits_by by) → Type 0) → All P xs
    → (x : Message (edits_by by)) × (get_elem? xs i ≡ some x) × (b ≡ message_bytes x) × P x
written_as [] i b e P a = absurd (let z : ◌≡◌ {A = ℕ} 0 1 = cc in omega arith)
written_as (x ∷ xs) zero b e P a = (x, refl, some_eq b (message_bytes x) (sym e), a.0)
written_as (x ∷ xs) (suc i) b e P a = written_as xs i b e P a.1

pub unread : (r : Option wire.Message) → unreadable r ≡ true → r ≡ None
unread None e = refl
unread (Some m) e = never e

module _ (n : ℕ) (items : List Place) {ranks : List ℕ} {from : Moment ranks} (s : State ours ranks) (sim : Sim n items from s) where
  -- a message taken at end a
  pub takes_at : (a i : ℕ) → a ≤ n → (b : List ℕ) → get_elem? s.messages i ≡ some b → Sim n items from (answered ours s a (receive a i) (ours.take (s.ends a) b))
  unfolding take_client take_server logged refused_log
  takes_at a i hi b e =
      let m = written_as s.recorded.messages i b (ap (λ (ms : List (List ℕ)). get_elem? ms i) (sym sim.messages) ∙ e) (MessageOk n ranks items sim.E s.recorded.history) sim.written in
      go a hi m.0 m.1 m.2 m.3
    where
      go : (a : ℕ) → a ≤ n → (x : Message (edits ranks)) → get_elem? s.recorded.messages i ≡ some x → b ≡ message_bytes x → MessageOk n ranks items sim.E s.recorded.history x
          → Sim n items from (answered ours s a (receive a i) (ours.take (s.ends a) b))
      go zero hi x is same ok =
          let S = server_from n (length items) ranks sim.E.doc sim.E.lines sim.si in
          subst (λ (e : End). Sim n items from (answered ours s 0 (receive 0 i) (ours.take e b))) (sym sim.server_is)
          (subst (λ (r : Option wire.Message). Sim n items from (answered ours s 0 (receive 0 i) (answer_as server (server_reads S r)))) (sym (ap parsed same ∙ codec.written_read (wire_message x) ok.1))
          (serve_message n items s sim (receive 0 i) x ok (ap (took s.recorded 0) is) refl))
      go (suc a) hi x is same ok =
          let C = client_from n (suc a) ranks (sim.E.clients (suc a)) (sim.E.docs (suc a)) (sim.ci (suc a)) (sim.bk (suc a)) in
          subst (λ (e : End). Sim n items from (answered ours s (suc a) (receive (suc a) i) (ours.take e b))) (sym (sim.client_is (suc a) (omega arith) hi))
          (subst (λ (r : Option wire.Message). Sim n items from (answered ours s (suc a) (receive (suc a) i) (answer_as client (client_reads C r)))) (sym (ap parsed same ∙ codec.written_read (wire_message x) ok.1))
          (take_message n items s sim (suc a) (omega arith) hi (receive (suc a) i) x ok (ap (took s.recorded (suc a)) is) refl))

  pub junks_at : (a : ℕ) (bytes : List ℕ) → a ≤ n → parsed bytes ≡ None → Sim n items from (answered ours s a (junk a bytes) (ours.take (s.ends a) bytes))
  unfolding take_client take_server refused_log
  junks_at zero bytes hi e =
      let S = server_from n (length items) ranks sim.E.doc sim.E.lines sim.si in
      subst (λ (d : End). Sim n items from (answered ours s 0 (junk 0 bytes) (ours.take d bytes))) (sym sim.server_is)
      (subst (λ (r : Option wire.Message). Sim n items from (answered ours s 0 (junk 0 bytes) (answer_as server (server_reads S r)))) (sym e)
      (serve_junk n items s sim (junk 0 bytes) (answer (asks (ask 2 (sound_server S) ∷ ask 3 false ∷ [])) S S no_report) (outcome (asks (ask 2 (sound_server S) ∷ ask 3 false ∷ [])) S S no_report) refl))
  junks_at (suc a) bytes hi e =
      let C = client_from n (suc a) ranks (sim.E.clients (suc a)) (sim.E.docs (suc a)) (sim.ci (suc a)) (sim.bk (suc a)) in
      subst (λ (d : End). Sim n items from (answered ours s (suc a) (junk (suc a) bytes) (ours.take d bytes))) (sym (sim.client_is (suc a) (omega arith) hi))
      (subst (λ (r : Option wire.Message). Sim n items from (answered ours s (suc a) (junk (suc a) bytes) (answer_as client (client_reads C r)))) (sym e)
      (take_junk n items s sim (suc a) (omega arith) hi (junk (suc a) bytes) (answer (asks (ask 2 (sound_client C) ∷ ask 3 false ∷ [])) C C no_report)
      (outcome (asks (ask 2 (sound_client C) ∷ ask 3 false ∷ [])) C C no_report) refl))

  pub sends_at : (a l number : ℕ) (lent : List ℕ) → a ≤ n → Sim n items from (written ours s (send a l number lent) (ours.send (s.ends a) l number lent))
  sends_at zero l number lent hi = subst (λ (e : End). Sim n items from (written ours s (send 0 l number lent) (ours.send e l number lent))) (sym sim.server_is) (server_posts n items s sim l number lent)
  sends_at (suc a) l number lent hi =
      subst (λ (e : End). Sim n items from (written ours s (send (suc a) l number lent) (ours.send e l number lent))) (sym (sim.client_is (suc a) (omega arith) hi))
      (client_sends n items s sim (suc a) (omega arith) hi l number lent)

  pub tells_at : (a l : ℕ) (lent : List ℕ) → a ≤ n → Sim n items from (written ours s (tell a l lent) (ours.tell (s.ends a) l lent))
  tells_at zero l lent hi = subst (λ (e : End). Sim n items from (written ours s (tell 0 l lent) (ours.tell e l lent))) (sym sim.server_is) (server_acks n items s sim l lent)
  tells_at (suc a) l lent hi =
      subst (λ (e : End). Sim n items from (written ours s (tell (suc a) l lent) (ours.tell e l lent))) (sym (sim.client_is (suc a) (omega arith) hi))
      (client_tells n items s sim (suc a) (omega arith) hi l lent)

  pub edits_at : (c : Call) (l : ℕ) (e : Edit) → 1 ≤ l → l ≤ n → priority (eqb (rank_of ranks l)) e ≡ true → Small e → logged s.recorded c ≡ logs.edited s.recorded l e
      → refused_log s.recorded c ≡ hears s.recorded s.recorded.heard
      → Sim n items from (answered ours s l c (answer_as client (edit_client (client_from n l ranks (sim.E.clients l) (sim.E.docs l) (sim.ci l) (sim.bk l)) e)))
  unfolding edit_client
  edits_at c l e lo hi pr sm made quiet =
      let C = client_from n l ranks (sim.E.clients l) (sim.E.docs l) (sim.ci l) (sim.bk l) in
      edit_call n items s sim l lo hi c e (asks (edit_questions C e)) pr sm (λ z. (yes_all (edit_questions C e) (omega arith) z).1) made quiet (edit_client C e)
      (outcome (asks (edit_questions C e)) C (edited C e) no_report) (edits_sound C e pr (sim.client_sound l lo hi))

  -- the inverse that the client stores is what the log says that taking back makes
  pub takes_back_at : (l : ℕ) → 1 ≤ l → l ≤ n
      → Sim n items from (answered ours s l (take_back l) (answer_as client (take_back_client (client_from n l ranks (sim.E.clients l) (sim.E.docs l) (sim.ci l) (sim.bk l)))))
  unfolding take_back_client logged refused_log
  takes_back_at l lo hi =
      let C = client_from n l ranks (sim.E.clients l) (sim.E.docs l) (sim.ci l) (sim.bk l) in
      let sound = sim.client_sound l lo hi in
      edit_call n items s sim l lo hi (take_back l) (sim.bk l) (asks (take_back_questions C)) (client_facts C sound).inverse.rank (sim.back_small l)
      (λ z. (yes_all (take_back_questions C) (omega arith) z).1.1) (ap (logs.edited s.recorded l) (sym (sim.back_is l))) refl (take_back_client C)
      (outcome (asks (take_back_questions C)) C (edited C (sim.bk l)) no_report) (takes_back C sound)
