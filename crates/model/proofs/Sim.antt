-- The sheet follows the theory: its ends are the theory's ends with 01's limits, and its log is the theory's history.
use mathlib.Core.Path.{◌≡◌, refl, ap, ap₂, sym, ◌∙◌}
use mathlib.Core.Bool.{true, cond}
use mathlib.Core.List.{List, [], ◌∷◌, ◌++◌, map, map-append}
use Prim.Native.Nat.{ℕ, suc, ◌+◌, ◌-◌, ◌≤◌}
use native.Mathlib.Numerals.{add-one}
use native.Mathlib.Omega.{arith}
use lib.Dec.{eqb}
use lib.ListN.{length, drop}
use Rattle.ot.specs.Edit.{Edit, fits, transformed}
use Rattle.list.specs.declared.Origin.{Origin}
use Rattle.list.specs.Places.{Place, items_of, applied_by}
use Rattle.wire.specs.Message.{in_range}
use Rattle.jupiter.specs.Algebra.{Algebra, Laws}
use Rattle.jupiter.specs.Made.{Made, mine, others}
use Rattle.jupiter.specs.History.{History, at, order}
use Rattle.jupiter.specs.Ends as ends
use Rattle.jupiter.specs.Ends.{Ends, EditMessage, keeps, acks, takes, arrived}
use Rattle.jupiter.specs.Run.{Message, up, down, up_ack, down_ack}
use Rattle.jupiter.specs.Claims.{inserts}
use Rattle.jupiter.proofs.Lists.{All}
use Rattle.jupiter.proofs.Grid.{by_line_lem}
use Rattle.jupiter.proofs.World.{Inv}
use Rattle.jupiter.proofs.Step.{Later, later_refl}
use Rattle.jupiter.proofs.Runs.{Fine}
use Rattle.model.specs.Questions.{Report}
use Rattle.model.specs.Cross.{past, priority, inserts_of}
use Rattle.model.specs.Line.{Line, no_line, other, line_keeps, unacked, line_acked, line_taken, carried, position_at, line_report}
use Rattle.model.specs.Inverse.{inverse_of}
use Rattle.model.specs.Client.{Client, sound_client, with, edited, client_taken, client_acked}
use Rattle.model.specs.Server.{Server, line_of, makers_of, sound_server, at_place, unacked_makers, server_taken, server_acked}
use Rattle.model.specs.Ranks.{rank_of}
use Rattle.model.specs.Edits.{Named, applied_named, Rule, edits_by, edits}
use Rattle.model.specs.Log.{Log, wire_message, message_bytes}
use Rattle.model.specs.Run.{State, are_items}
use Rattle.model.specs.Ours.{End, client, server, ours}
use Rattle.model.proofs.Table.{table, table_cong, table_get, table_at, cond_ne}
use Rattle.model.proofs.Ranks.{Ranking, ranking_facts}
use Rattle.model.proofs.SoundServer.{server_facts}
use Rattle.model.proofs.Instance.{edit_laws, edits_of, makers_in, map_drop, past_same, over_same, past_origin, over_origins}
use Rattle.model.proofs.Small.{Small}

-- the theory's end of a line, as a line, and as the client's end
abbrev pub line_from : {by : Rule} → ends.End (edits_by by) → ℕ → Line
line_from v i = record { made = v.made; taken = v.taken; acked = v.acked; inserts = i; pending = edits_of v.pending }

abbrev pub client_from : {by : Rule} → ℕ → ℕ → List ℕ → ends.End (edits_by by) → List Place → ℕ → Edit → Client
client_from n l ranks v items i b = record { n = n; line = l; ranks = ranks; items = items; own = line_from v i; inverse = b }

-- the server's end, with the origins of the pending edits beside the lines
abbrev pub server_from : {by : Rule} → ℕ → ℕ → List ℕ → List Place → (ℕ → ends.End (edits_by by)) → (ℕ → ℕ) → Server
server_from n initial ranks items vs is =
    record {
      n = n;
      initial = initial;
      ranks = ranks;
      items = items;
      lines = table (λ j. line_from (vs j) (is j)) 1 n;
      makers = table (λ j. makers_in (vs j).pending) 1 n;
    }

-- It goes on a line that there is, and question 4 lets it through at the end it goes to: an insert by its rank, an edit that comes down by the
-- line of its origin. One that goes up has its own line and number as origin (`Origins.up-origin`).
abbrev pub Lined : {by : Rule} → ℕ → List ℕ → Message (edits_by by) → Type 0
Lined n ranks (up l m) = (1 ≤ l) × (l ≤ n) × (priority (eqb (rank_of ranks l)) m.edit.edit ≡ true)
Lined n ranks (down l m) = (1 ≤ l) × (l ≤ n) × (priority (other n (rank_of ranks l)) m.edit.edit ≡ true) × (other n l m.edit.origin.line ≡ true)
Lined n ranks (up_ack l seen) = (1 ≤ l) × (l ≤ n)
Lined n ranks (down_ack l seen) = (1 ≤ l) × (l ≤ n)

-- a message that was written: it can be taken at any time, and its fields are in range
abbrev pub MessageOk : ℕ → (ranks : List ℕ) → List Place → Ends (edits ranks) → History (edits ranks) → Message (edits ranks) → Type 0
MessageOk n ranks items E h x = Fine items E h x × (in_range (wire_message x) ≡ true) × Lined n ranks x

abbrev pub OfLines : {𝓐 : Algebra} → ℕ → Made 𝓐 → Type 0
OfLines n e = (1 ≤ e.name.line) × (e.name.line ≤ n)

-- the theory's ends and the history at some moment
pub record Moment (ranks : List ℕ) : Type 0 where
  pub ends : Ends (edits ranks)
  pub history : History (edits ranks)

-- where the calls since the moment `from` have led; `items` are the places that the ends were opened with
pub record Sim (n : ℕ) (items : List Place) {ranks : List ℕ} (from : Moment ranks) (s : State ours ranks) : Type 0 where
  -- the theory's ends, the inserts that the client and the server count on each line, and the inverse that the client stores
  pub E : Ends (edits ranks)
  pub ci : ℕ → ℕ
  pub si : ℕ → ℕ
  pub bk : ℕ → Edit
  pub inv : Inv items E s.recorded.history
  pub later : Later from.ends from.history E s.recorded.history
  pub server_is : s.ends 0 ≡ server (server_from n (length items) ranks E.doc E.lines si)
  pub client_is : (l : ℕ) → 1 ≤ l → l ≤ n → s.ends l ≡ client (client_from n l ranks (E.clients l) (E.docs l) (ci l) (bk l))
  pub server_sound : sound_server (server_from n (length items) ranks E.doc E.lines si) ≡ true
  pub client_sound : (l : ℕ) → 1 ≤ l → l ≤ n → sound_client (client_from n l ranks (E.clients l) (E.docs l) (ci l) (bk l)) ≡ true
  pub server_shown : s.recorded.shown 0 ≡ E.doc
  pub client_shown : (l : ℕ) → 1 ≤ l → l ≤ n → s.recorded.shown l ≡ E.docs l
  pub server_heard : (l : ℕ) → s.recorded.heard 0 l ≡ (E.lines l).acked
  pub client_heard : (l : ℕ) → 1 ≤ l → s.recorded.heard l l ≡ (E.clients l).acked
  pub messages : s.messages ≡ map message_bytes s.recorded.messages
  pub written : All (MessageOk n ranks items E s.recorded.history) s.recorded.messages
  pub reports : s.reports ≡ s.recorded.reports
  pub taken : (l : ℕ) → length (others l (s.recorded.history.applied l)) ≡ (E.clients l).taken
  pub served_lines : All (OfLines n) s.recorded.history.served
  pub ci_is : (l : ℕ) → ci l ≡ inserts (mine l (order s.recorded.history l))
  pub si_is : (l : ℕ) → si l ≡ inserts (mine l s.recorded.history.served)
  pub client_small : (l : ℕ) → All Small (edits_of (E.clients l).pending)
  pub server_small : (l : ℕ) → All Small (edits_of (E.lines l).pending)
  -- the inverse is the log's, and fits the client's list; an item that it brings back fits 32 bits, as every item on the list does
  pub back_is : (l : ℕ) → bk l ≡ s.recorded.undo l
  pub back_fits : (l : ℕ) → fits (bk l) (length (E.docs l)) ≡ true
  pub back_small : (l : ℕ) → Small (bk l)
  pub docs_small : (l : ℕ) → are_items (items_of (E.docs l)) ≡ true

-- a log with other messages and reports
abbrev pub writing : {ranks : List ℕ} → Log ranks → List (Message (edits ranks)) → List Report → Log ranks
writing w xs ks = record { history = w.history; shown = w.shown; undo = w.undo; heard = w.heard; messages = xs; reports = ks }

-- the moment that a simulation has come to, and from which it may go on
abbrev pub present : {n : ℕ} {items : List Place} {ranks : List ℕ} {from : Moment ranks} {s : State ours ranks} → Sim n items from s → Moment ranks
present {s = s} sim = record { ends = sim.E; history = s.recorded.history }

-- another state with the same ends and edits: it may count from another moment, and have other messages and reports
pub beside : {n : ℕ} {items : List Place} {ranks : List ℕ} {from from' : Moment ranks} {s : State ours ranks} {now : ℕ → End} {bytes : List (List ℕ)} {xs : List (Message (edits ranks))}
    {ks ls : List Report} (sim : Sim n items from s) → Later from'.ends from'.history sim.E s.recorded.history → ((j : ℕ) → now j ≡ s.ends j) → bytes ≡ map message_bytes xs
    → All (MessageOk n ranks items sim.E s.recorded.history) xs → ks ≡ ls
    → Sim n items from' (record { ends = now; messages = bytes; reports = ks; recorded = writing s.recorded xs ls })
beside sim later same bytes_are ok reports_are =
    record {
      E = sim.E;
      ci = sim.ci;
      si = sim.si;
      bk = sim.bk;
      inv = sim.inv;
      later = later;
      server_is = same 0 ∙ sim.server_is;
      client_is = λ l p q. same l ∙ sim.client_is l p q;
      server_sound = sim.server_sound;
      client_sound = sim.client_sound;
      server_shown = sim.server_shown;
      client_shown = sim.client_shown;
      server_heard = sim.server_heard;
      client_heard = sim.client_heard;
      messages = bytes_are;
      written = ok;
      reports = reports_are;
      taken = sim.taken;
      served_lines = sim.served_lines;
      ci_is = sim.ci_is;
      si_is = sim.si_is;
      client_small = sim.client_small;
      server_small = sim.server_small;
      back_is = sim.back_is;
      back_fits = sim.back_fits;
      back_small = sim.back_small;
      docs_small = sim.docs_small;
    }

pub from_here : {n : ℕ} {items : List Place} {ranks : List ℕ} {from : Moment ranks} {s : State ours ranks} (sim : Sim n items from s) → Sim n items (present sim) s
from_here {s = s} sim = beside sim (later_refl sim.E s.recorded.history) (λ j. refl) sim.messages sim.written sim.reports

-- question 2 has found a ranking, and so the edits have the theory's laws
pub ranked : {n : ℕ} {items : List Place} {ranks : List ℕ} {from : Moment ranks} {s : State ours ranks} → Sim n items from s → Ranking n ranks
ranked {n = n} {items = items} {ranks = ranks} sim =
    ranking_facts n ranks (server_facts (server_from n (length items) ranks sim.E.doc sim.E.lines sim.si) sim.server_sound).ranked

pub laws : {n : ℕ} {items : List Place} {ranks : List ℕ} {from : Moment ranks} {s : State ours ranks} → Sim n items from s → Laws (edits ranks)
laws sim = edit_laws (ranked sim)

-- ---- one line changed, the others as they were
pub at_other : {A : Type 0} (l : ℕ) (v : A) (f : ℕ → A) (j : ℕ) → (l ≡ j → ⊥) → at l v f j ≡ f j
at_other l v f j h = cond_ne l j v (f j) h

-- a line's own value put in its place
pub at_its : {A : Type 0} (l : ℕ) (v : A) (f : ℕ → A) → f l ≡ v → (j : ℕ) → at l v f j ≡ f j
at_its l v f e = by_line_lem l (λ j b. cond b v (f j) ≡ f j) (sym e) (λ j q. refl)

-- ---- a line and the ends after a call, as the theory's

kept_line_from : {by : Rule} (v : ends.End (edits_by by)) (i k : ℕ) (e : Named) → line_keeps k e.edit (line_from v i) ≡ line_from (keeps e v) k
kept_line_from v i k e = rw (add-one v.made, map-append (λ d. d.edit) v.pending (e ∷ []))

acked_line_from : {by : Rule} (v : ends.End (edits_by by)) (i seen : ℕ) → line_acked seen (line_from v i) ≡ line_from (acks seen v) i
acked_line_from v i seen = rw (map_drop (λ e. e.edit) (seen - v.acked) v.pending)

taken_line_from : {by : Rule} (v : ends.End (edits_by by)) (i k : ℕ) (x : EditMessage (edits_by by)) → line_taken k x.seen x.edit.edit (line_from v i) ≡ line_from (takes x v) k
taken_line_from {by} v i k x = rw (add-one v.taken, over_same by x.edit (x.seen - v.acked) v.pending)

-- the list once an edit has arrived
pub arrived_list : {by : Rule} (v : ends.End (edits_by by)) (items : List Place) (x : EditMessage (edits_by by)) (c : Edit) → c ≡ (arrived x v).edit
    → applied_by x.edit.origin c items ≡ applied_named (arrived x v) items
arrived_list v items x c e = ap₂ (λ (o : Origin) (d : Edit). applied_by o d items) (sym (past_origin _ x.edit (drop (x.seen - v.acked) v.pending))) e

-- what its taking reports, of an end that has made so many edits, where the edit is applied in the form f
pub report_from : {by : Rule} (v : ends.End (edits_by by)) (i : ℕ) (x : EditMessage (edits_by by)) (made : ℕ) (f : Named) → v.made ≡ made → f ≡ arrived x v
    → line_report (line_from v i) x.seen x.edit.edit ≡ record { passed = made - x.seen; arrived = position_at x.edit.edit; applied = position_at f.edit }
report_from v i x made f same applied =
    ap₂ report_of same (past_same _ x.edit (x.seen - v.acked) v.pending ∙ ap (λ (e : Named). e.edit) (sym applied))
  where
    report_of : ℕ → Edit → Report
    report_of m e = record { passed = m - x.seen; arrived = position_at x.edit.edit; applied = position_at e }

-- an edit that client l makes: its origin is the line and the next number
pub edited_from : {by : Rule} (n l : ℕ) (ranks : List ℕ) (v : ends.End (edits_by by)) (items : List Place) (i : ℕ) (b : Edit) (e : Named) → e.origin ≡ record { line = l; number = suc v.made }
    → edited (client_from n l ranks v items i b) e.edit
    ≡ client_from n l ranks (keeps e v) (applied_named e items) (i + inserts_of e.edit) (inverse_of (rank_of ranks l) items e.edit)
edited_from n l ranks v items i b e own =
    let here : origin_of (v.made + 1) ≡ e.origin = ap origin_of (add-one v.made) ∙ sym own in
    ap₂ (λ (o : Origin) (w : Line). with (client_from n l ranks v items i b) (applied_by o e.edit items) w (inverse_of (rank_of ranks l) items e.edit)) here
    (kept_line_from v i (i + inserts_of e.edit) e)
  where
    origin_of : ℕ → Origin
    origin_of number = record { line = l; number = number }

pub taken_from : {by : Rule} (n l : ℕ) (ranks : List ℕ) (v : ends.End (edits_by by)) (items : List Place) (i : ℕ) (b : Edit) (x : EditMessage (edits_by by))
    → client_taken (client_from n l ranks v items i b) x.edit.origin x.seen x.edit.edit
    ≡ client_from n l ranks (takes x v) (applied_named (arrived x v) items) i (transformed b (arrived x v).edit)
taken_from n l ranks v items i b x =
    let applied = past_same _ x.edit (x.seen - v.acked) v.pending in
    ap₂ (λ (d : List Place) (w : Line). with (client_from n l ranks v items i b) d w (transformed b (carried (line_from v i) x.seen x.edit.edit)))
    (arrived_list v items x (carried (line_from v i) x.seen x.edit.edit) applied) (taken_line_from v i i x)
    ∙ ap (λ (e : Edit). client_from n l ranks (takes x v) (applied_named (arrived x v) items) i (transformed b e)) applied

pub acked_from : {by : Rule} (n l : ℕ) (ranks : List ℕ) (v : ends.End (edits_by by)) (items : List Place) (i : ℕ) (b : Edit) (seen : ℕ)
    → client_acked (client_from n l ranks v items i b) seen ≡ client_from n l ranks (acks seen v) items i b
acked_from n l ranks v items i b seen = ap (λ (w : Line). with (client_from n l ranks v items i b) items w b) (acked_line_from v i seen)

module _ {by : Rule} (n initial : ℕ) (ranks : List ℕ) (items : List Place) (vs : ℕ → ends.End (edits_by by)) (is : ℕ → ℕ) (l : ℕ) (lo : 1 ≤ l) (hi : l ≤ n) where
  abbrev S : Server
  S = server_from n initial ranks items vs is

  -- the line l of the server
  pub line_from_lem : line_of S l ≡ line_from (vs l) (is l)
  line_from_lem =
      let f : ℕ → Line = λ j. line_from (vs j) (is j) in
      table_get f no_line 1 n (l - 1) (omega arith) ∙ ap f (omega arith)

  pub makers_from_lem : makers_of S l ≡ makers_in (vs l).pending
  makers_from_lem =
      let f : ℕ → List Origin = λ j. makers_in (vs j).pending in
      table_get f [] 1 n (l - 1) (omega arith) ∙ ap f (omega arith)

  pub carried_from : (x : EditMessage (edits_by by)) → carried (line_of S l) x.seen x.edit.edit ≡ (arrived x (vs l)).edit
  carried_from x = ap (λ (v : Line). past x.edit.edit (unacked v x.seen)) line_from_lem ∙ past_same _ x.edit (x.seen - (vs l).acked) (vs l).pending

  -- a table with line l treated by f and every other by g, where that gives the table of h
  changed : {A : Type 0} (f g : A → A) (u h : ℕ → A) → ((j : ℕ) → cond (eqb l j) (f (u j)) (g (u j)) ≡ h j) → at_place (l - 1) f g (table u 1 n) ≡ table h 1 n
  changed f g u h one =
      table_at f g u 1 n (l - 1)
      ∙ ap (λ (m : ℕ). table (λ j. cond (eqb m j) (f (u j)) (g (u j))) 1 n) (omega arith)
      ∙ table_cong (λ j. cond (eqb l j) (f (u j)) (g (u j))) h 1 n (λ j a b. one j)

  -- the origins that line l keeps once it has seen so many
  dropped : (seen : ℕ) → unacked_makers S l seen (makers_in (vs l).pending) ≡ makers_in (drop (seen - (vs l).acked) (vs l).pending)
  dropped seen = ap (λ (v : Line). drop (seen - v.acked) (makers_in (vs l).pending)) line_from_lem ∙ map_drop (λ d. d.origin) (seen - (vs l).acked) (vs l).pending

  module _ (x : EditMessage (edits_by by)) where
    abbrev c : Edit
    c = carried (line_of S l) x.seen x.edit.edit

    abbrev a : Named
    a = arrived x (vs l)

    abbrev vs' : ℕ → ends.End (edits_by by)
    vs' = at l (takes x (vs l)) (λ k. keeps a (vs k))

    abbrev is' : ℕ → ℕ
    is' = at l (is l + inserts_of x.edit.edit) is

    abbrev taking : Line → Line
    taking v = line_taken (v.inserts + inserts_of x.edit.edit) x.seen x.edit.edit v

    taken_line : (j : ℕ) → cond (eqb l j) (taking (line_from (vs j) (is j))) (line_keeps (is j) c (line_from (vs j) (is j))) ≡ line_from (vs' j) (is' j)
    taken_line =
        by_line_lem l (λ j t. cond t (taking (line_from (vs j) (is j))) (line_keeps (is j) c (line_from (vs j) (is j)))
        ≡ line_from (cond t (takes x (vs l)) (keeps a (vs j))) (cond t (is l + inserts_of x.edit.edit) (is j)))
        (taken_line_from (vs l) (is l) (is l + inserts_of x.edit.edit) x)
        (λ j q. ap (λ (d : Edit). line_keeps (is j) d (line_from (vs j) (is j))) (carried_from x) ∙ kept_line_from (vs j) (is j) (is j) a)

    taken_makers : (j : ℕ) → cond (eqb l j) (unacked_makers S l x.seen (makers_in (vs j).pending)) (makers_in (vs j).pending ++ (x.edit.origin ∷ [])) ≡ makers_in (vs' j).pending
    taken_makers =
        by_line_lem l (λ j t. cond t (unacked_makers S l x.seen (makers_in (vs j).pending)) (makers_in (vs j).pending ++ (x.edit.origin ∷ []))
        ≡ makers_in (cond t (takes x (vs l)) (keeps a (vs j))).pending)
        (dropped x.seen ∙ sym (over_origins by x.edit (drop (x.seen - (vs l).acked) (vs l).pending)))
        (λ j q. ap (λ (o : Origin). makers_in (vs j).pending ++ (o ∷ [])) (sym (past_origin by x.edit (drop (x.seen - (vs l).acked) (vs l).pending)))
        ∙ sym (map-append (λ d. d.origin) (vs j).pending (a ∷ [])))

    pub server_taken_from : server_taken S l x.edit.origin x.seen x.edit.edit ≡ server_from n initial ranks (applied_named a items) vs' is'
    server_taken_from =
        λ i. record {
          n = n;
          initial = initial;
          ranks = ranks;
          items = arrived_list (vs l) items x c (carried_from x) i;
          lines = changed taking (λ v. line_keeps v.inserts c v) (λ j. line_from (vs j) (is j)) (λ j. line_from (vs' j) (is' j)) taken_line i;
          makers = changed (unacked_makers S l x.seen) (λ os. os ++ (x.edit.origin ∷ [])) (λ j. makers_in (vs j).pending) (λ j. makers_in (vs' j).pending) taken_makers i;
        }

  module _ (seen : ℕ) where
    abbrev ws : ℕ → ends.End (edits_by by)
    ws = at l (acks seen (vs l)) vs

    acked_line : (j : ℕ) → cond (eqb l j) (line_acked seen (line_from (vs j) (is j))) (line_from (vs j) (is j)) ≡ line_from (ws j) (is j)
    acked_line =
        by_line_lem l (λ j t. cond t (line_acked seen (line_from (vs j) (is j))) (line_from (vs j) (is j)) ≡ line_from (cond t (acks seen (vs l)) (vs j)) (is j))
        (acked_line_from (vs l) (is l) seen) (λ j q. refl)

    acked_makers : (j : ℕ) → cond (eqb l j) (unacked_makers S l seen (makers_in (vs j).pending)) (makers_in (vs j).pending) ≡ makers_in (ws j).pending
    acked_makers =
        by_line_lem l (λ j t. cond t (unacked_makers S l seen (makers_in (vs j).pending)) (makers_in (vs j).pending) ≡ makers_in (cond t (acks seen (vs l)) (vs j)).pending)
        (dropped seen) (λ j q. refl)

    pub server_acked_from : server_acked S l seen ≡ server_from n initial ranks items ws is
    server_acked_from =
        λ i. record {
          n = n;
          initial = initial;
          ranks = ranks;
          items = items;
          lines = changed (line_acked seen) (λ v. v) (λ j. line_from (vs j) (is j)) (λ j. line_from (ws j) (is j)) acked_line i;
          makers = changed (unacked_makers S l seen) (λ os. os) (λ j. makers_in (vs j).pending) (λ j. makers_in (ws j).pending) acked_makers i;
        }
