-- Each call of the sheet is a step of the theory, or was refused and is none.
use mathlib.Core.Path.{◌≡◌, refl, ap, ap₂, sym, ◌∙◌, subst}
use mathlib.Core.Bool.{Bool, true, false, cond}
use mathlib.Core.List.{List, [], ◌∷◌, ◌++◌, append-nil, append_assoc, map, map-append}
use Prim.Native.Nat.{ℕ, zero, suc, ◌+◌, ◌-◌, ◌≤◌}
use native.Mathlib.Omega.{arith}
use lib.Dec.{eqb}
use lib.ListN.{length, get_or, drop, length-append}
use lib.Seq.{get_or-append_seam}
use borrow.Author.Tests.{eqb-true, ne_eqb, eq-eqb}
use Rattle.ot.specs.Edit.{Edit, fits, transformed}
use Rattle.list.specs.Places.{Place, items_of}
use Rattle.jupiter.specs.Algebra.{Algebra}
use Rattle.jupiter.specs.Made.{Made, select, reject, is_by, mine, others}
use Rattle.jupiter.specs.Form.{form, in_order}
use Rattle.jupiter.specs.Point.{blank, own, oth, point}
use Rattle.jupiter.specs.History.{History, at, order, made_by, missing, new_edit, after_edit, serves, applies, after_down}
use Rattle.jupiter.specs.Ends as ends
use Rattle.jupiter.specs.Ends.{Ends, EditMessage, keeps, acks, takes, arrived, editing, taking_up, taking_down, acking_up, acking_down}
use Rattle.jupiter.specs.Run.{Message}
use Rattle.jupiter.specs.Claims.{inserts}
use Rattle.jupiter.proofs.Lists as L
use Rattle.jupiter.proofs.Lists.{All, all_append, all_map}
use Rattle.jupiter.proofs.Grid.{by_line_lem, not_line}
use Rattle.jupiter.proofs.Line.{LineAt, set_is, down_made, down_arrives}
use Rattle.jupiter.proofs.World.{Inv, arrives, first_missing, first_untaken, mine_served, others_served}
use Rattle.jupiter.proofs.Step.{Later, later_trans, Step, step_edit, step_up, step_down, step_ack_up, step_ack_down, UpMessage, DownMessage}
use Rattle.jupiter.proofs.Size.{inserts_append, form_grows}
use Rattle.jupiter.proofs.Runs.{fine_later}
use Rattle.model.specs.Questions.{Report, no_report}
use Rattle.model.specs.Cross.{priority, inserts_of}
use Rattle.model.specs.Inverse.{inverse_of}
use Rattle.model.specs.Line.{carried, line_report}
use Rattle.model.specs.Client.{Client, sound_client, edited, client_taken, client_acked}
use Rattle.model.specs.Server.{Server, sound_server, server_taken, server_acked}
use Rattle.model.specs.Ranks.{rank_of}
use Rattle.model.specs.Edits.{Named, applied_named, Rule, edits_by, edits}
use Rattle.model.specs.Log as logs
use Rattle.model.specs.Log.{Log, message_bytes, named_by, set_of, made_at, hears, took_up, took_down, writes, packs}
use Rattle.model.specs.Run.{State, are_items}
use Rattle.model.specs.Ours.{client, server, ours}
use Rattle.model.proofs.Instance.{to_T, by_rank_lem, edits_of, map_drop, past_same, over_same}
use Rattle.model.proofs.Inverse.{inverse_fits, carried_fits}
use Rattle.model.proofs.Logs.{made_form, client_set}
use Rattle.model.proofs.Small.{Small, small_transformed, small_past, small_over, all_drop, items_small, inverse_small}
use Rattle.model.proofs.Sim.{line_from, client_from, server_from, MessageOk, OfLines, Moment, Sim, beside, ranked, laws, at_other, at_its, report_from, edited_from, taken_from, acked_from, server_taken_from, server_acked_from}

-- one edit more of line l
inserts_one_more : {by : Rule} (l : ℕ) (xs : List (Made (edits_by by))) (o : Made (edits_by by)) → is_by l o ≡ true → inserts (mine l (xs ++ (o ∷ []))) ≡ inserts (mine l xs) + inserts_of o.edit.edit
unfolding inserts select
inserts_one_more l xs o by =
    ap inserts (L.select_in (is_by l) blank xs o [] by) ∙ inserts_append (mine l xs) (o ∷ []) ∙ omega arith

pub inserts_cons : {by : Rule} (o : Made (edits_by by)) (us : List (Made (edits_by by))) → inserts (o ∷ us) ≡ inserts_of o.edit.edit + inserts us
unfolding inserts
inserts_cons o us = refl

inserts_more : {by : Rule} (l : ℕ) (xs ys : List (Made (edits_by by))) (o : Made (edits_by by)) → is_by l o ≡ true
    → inserts (mine l (xs ++ (ys ++ (o ∷ [])))) ≡ inserts (mine l (xs ++ ys)) + inserts_of o.edit.edit
inserts_more {by = rule} l xs ys o by = ap (λ (zs : List (Made (edits_by rule))). inserts (mine l zs)) (sym (append_assoc xs ys (o ∷ []))) ∙ inserts_one_more l (xs ++ ys) o by

-- an edit of another line more
others_snoc : {𝓐 : Algebra} (l : ℕ) (xs : List (Made 𝓐)) (g : Made 𝓐) → is_by l g ≡ false → others l (xs ++ (g ∷ [])) ≡ others l xs ++ (g ∷ [])
unfolding reject
others_snoc l xs g by = L.reject_in (is_by l) blank xs g [] by

-- the history's count of a client's edits
client_count : {𝓐 : Algebra} (h : History 𝓐) (l made : ℕ) → 1 ≤ l → made ≡ made_by h l → made ≡ made_at h l l
unfolding made_at
client_count h zero made a e = absurd (omega arith)
client_count h (suc l) made a e = e

-- one report more
abbrev one_more : List Report → Report → List Report
one_more ks k = ks ++ (k ∷ [])

-- the pending edits of an end that makes an edit, is acknowledged and takes an edit
small_kept : {by : Rule} (e : Named) (v : ends.End (edits_by by)) → All Small (edits_of v.pending) → Small e.edit → All Small (edits_of (keeps e v).pending)
small_kept e v a sm = subst (All Small) (sym (map-append (λ d. d.edit) v.pending (e ∷ []))) (all_append Small (edits_of v.pending) (e.edit ∷ []) a (sm, tt))

small_unacked : {by : Rule} (seen : ℕ) (v : ends.End (edits_by by)) → All Small (edits_of v.pending) → All Small (edits_of (acks seen v).pending)
small_unacked seen v a = subst (All Small) (map_drop (λ e. e.edit) (seen - v.acked) v.pending) (all_drop Small (seen - v.acked) (edits_of v.pending) a)

small_taken : {by : Rule} (x : EditMessage (edits_by by)) (v : ends.End (edits_by by)) → All Small (edits_of v.pending) → All Small (edits_of (takes x v).pending)
small_taken x v a =
    let k : ℕ = x.seen - v.acked in
    subst (All Small) (over_same _ x.edit k v.pending) (small_over x.edit.edit (drop k (edits_of v.pending)) (all_drop Small k (edits_of v.pending) a))

small_arrived : {by : Rule} (x : EditMessage (edits_by by)) (v : ends.End (edits_by by)) → Small x.edit.edit → Small (arrived x v).edit
small_arrived x v sm =
    let k : ℕ = x.seen - v.acked in
    subst Small (past_same _ x.edit k v.pending) (small_past x.edit.edit (drop k (edits_of v.pending)) sm)

-- what was heard, at the line where it was and at another end
at_here : (l k : ℕ) (f : ℕ → ℕ) → at l k f l ≡ k
at_here l k f = rw (eq-eqb l l refl)

unheard : (a : ℕ) (f : ℕ → ℕ) (g : ℕ → ℕ → ℕ) (j i : ℕ) → (a ≡ j → ⊥) → at a f g j i ≡ g j i
unheard a f g j i h = ap (λ (k : ℕ → ℕ). k i) (at_other a f g j h)

-- every message stays one that can be taken
messages_later : (n : ℕ) (ranks : List ℕ) (items : List Place) (E E' : Ends (edits ranks)) (h h' : History (edits ranks)) → Inv items E h → Later E h E' h' → (xs : List (Message (edits ranks)))
    → All (MessageOk n ranks items E h) xs → All (MessageOk n ranks items E' h') xs
messages_later n ranks items E E' h h' inv f xs ok =
    all_map (MessageOk n ranks items E h) (MessageOk n ranks items E' h') xs (λ x o. (fine_later items E h E' h' inv f x o.0, o.1, o.2)) ok

module _ (n : ℕ) (items : List Place) {ranks : List ℕ} {from : Moment ranks} (s : State ours ranks) (sim : Sim n items from s) where
  abbrev w : Log ranks
  w = s.recorded

  abbrev h : History (edits ranks)
  h = s.recorded.history

  -- ---- refused

  -- the end comes back as it was, and nothing is reported
  pub refused : (a : ℕ) → Sim n items from (record { ends = at a (s.ends a) s.ends; messages = s.messages; reports = s.reports ++ (no_report ∷ []); recorded = hears w w.heard })
  refused a = beside sim sim.later (at_its a (s.ends a) s.ends refl) sim.messages sim.written (ap (λ (ks : List Report). one_more ks no_report) sim.reports)

  -- ---- a client edits

  module _ (l : ℕ) (lo : 1 ≤ l) (hi : l ≤ n) where
    abbrev E : Ends (edits ranks)
    E = sim.E

    abbrev C : Client
    C = client_from n l ranks (E.clients l) (E.docs l) (sim.ci l) (sim.bk l)

    abbrev line : LineAt items l (order h l) h.served (h.applied l) (E.clients l) (E.lines l) (E.docs l)
    line = (sim.inv.lines l).line

    made_is : (E.clients l).made ≡ made_by h l
    made_is = line.c_made ∙ ap length (mine_served l h.served (h.untaken l) (sim.inv.lines l).untaken_own) ∙ length-append (mine l h.served) (h.untaken l)

    module _ (e : Edit) (pr : priority (eqb (rank_of ranks l)) e ≡ true) (sm : Small e) (ok : fits e (length (E.docs l)) ≡ true) (sound : sound_client (edited C e) ≡ true) where
      -- the edit with its origin: the line and the next number
      abbrev named : Named
      named = named_by w l e

      step : Step items E h (editing l named E) (after_edit l named h)
      step = step_edit items (laws sim) E h sim.inv l named (by_rank_lem (ranked sim) named.origin lo hi e pr) (to_T (fits e (length (E.docs l))) ok)

      -- its inverse
      abbrev back : Edit
      back = inverse_of (rank_of ranks l) (E.docs l) e

      is_edited : edited C e ≡ client_from n l ranks (keeps named (E.clients l)) (applied_named named (E.docs l)) (sim.ci l + inserts_of e) back
      is_edited = edited_from n l ranks (E.clients l) (E.docs l) (sim.ci l) (sim.bk l) named (ap (λ (k : ℕ). record { line = l; number = suc k }) (sym made_is))

      abbrev o : Made (edits ranks)
      o = new_edit h l named

      -- the end and the list of line l as they are now, or of line j as they were
      abbrev own_end : Bool → ℕ → ends.End (edits ranks)
      own_end t j = cond t (keeps named (E.clients l)) (E.clients j)

      abbrev own_list : Bool → ℕ → List Place
      own_list t j = cond t (applied_named named (E.docs l)) (E.docs j)

      pub edits_on : Sim n items from (record { ends = at l (client (edited C e)) s.ends; messages = s.messages; reports = s.reports ++ (no_report ∷ []); recorded = logs.edited w l e })
      unfolding after_edit
      edits_on =
          record {
            E = editing l named E;
            ci = at l (sim.ci l + inserts_of e) sim.ci;
            si = sim.si;
            bk = at l back sim.bk;
            inv = step.inv;
            later = later_trans _ _ _ _ _ _ sim.later step.later;
            server_is = at_other l (client (edited C e)) s.ends 0 (λ z. omega arith) ∙ sim.server_is;
            client_is = by_line_lem l (λ j t. 1 ≤ j → j ≤ n → cond t (client (edited C e)) (s.ends j)
                ≡ client (client_from n j ranks (own_end t j) (own_list t j) (cond t (sim.ci l + inserts_of e) (sim.ci j)) (cond t back (sim.bk j)))) (λ a b. ap client is_edited) (λ j q. sim.client_is j);
            server_sound = sim.server_sound;
            client_sound = by_line_lem l (λ j t. 1 ≤ j → j ≤ n → sound_client (client_from n j ranks (own_end t j) (own_list t j) (cond t (sim.ci l + inserts_of e) (sim.ci j)) (cond t back (sim.bk j))) ≡ true)
                (λ a b. ap sound_client (sym is_edited) ∙ sound) (λ j q. sim.client_sound j);
            server_shown = at_other l (applied_named (form o (set_of h l)) (w.shown l)) w.shown 0 (λ z. omega arith) ∙ sim.server_shown;
            client_shown = by_line_lem l (λ j t. 1 ≤ j → j ≤ n → cond t (applied_named (form o (set_of h l)) (w.shown l)) (w.shown j) ≡ own_list t j)
                (λ a b. ap₂ applied_named (client_set h l o named lo (made_form h l named)) (sim.client_shown l lo hi)) (λ j q. sim.client_shown j);
            server_heard = sim.server_heard;
            client_heard = by_line_lem l (λ j t. 1 ≤ j → w.heard j j ≡ (own_end t j).acked) (sim.client_heard l) (λ j q. sim.client_heard j);
            messages = sim.messages;
            written = messages_later n ranks items E (editing l named E) h (after_edit l named h) sim.inv step.later w.messages sim.written;
            reports = ap (λ (ks : List Report). one_more ks no_report) sim.reports;
            taken = by_line_lem l (λ j t. length (others j (cond t (h.applied l ++ (o ∷ [])) (h.applied j))) ≡ (own_end t j).taken)
                (ap length (L.reject_out (is_by l) blank (h.applied l) o [] (eq-eqb l l refl) ∙ ap (others l) (append-nil (h.applied l))) ∙ sim.taken l) (λ j q. sim.taken j);
            served_lines = sim.served_lines;
            ci_is = by_line_lem l (λ j t. cond t (sim.ci l + inserts_of e) (sim.ci j) ≡ inserts (mine j (h.served ++ cond t (h.untaken l ++ (o ∷ [])) (h.untaken j))))
                (omega (arith, sim.ci_is l, inserts_more l h.served (h.untaken l) o (eq-eqb l l refl))) (λ j q. sim.ci_is j);
            si_is = sim.si_is;
            client_small = by_line_lem l (λ j t. All Small (edits_of (own_end t j).pending)) (small_kept named (E.clients l) (sim.client_small l) sm) (λ j q. sim.client_small j);
            server_small = sim.server_small;
            back_is = by_line_lem l (λ j t. cond t back (sim.bk j) ≡ cond t (inverse_of (rank_of ranks l) (w.shown l) e) (w.undo j))
                (ap (λ (d : List Place). inverse_of (rank_of ranks l) d e) (sym (sim.client_shown l lo hi))) (λ j q. sim.back_is j);
            back_fits = by_line_lem l (λ j t. fits (cond t back (sim.bk j)) (length (own_list t j)) ≡ true) (inverse_fits (rank_of ranks l) named.origin e (E.docs l) ok) (λ j q. sim.back_fits j);
            back_small = by_line_lem l (λ j t. Small (cond t back (sim.bk j))) (inverse_small (rank_of ranks l) (E.docs l) e (sim.docs_small l)) (λ j q. sim.back_small j);
            docs_small = by_line_lem l (λ j t. are_items (items_of (own_list t j)) ≡ true) (items_small named.origin e (E.docs l) sm (sim.docs_small l)) (λ j q. sim.docs_small j);
          }

    -- ---- a client takes its next edit

    module _ (x : EditMessage (edits ranks)) (ok : DownMessage items E h l x) (next : x.number ≡ suc (E.clients l).taken) (cur : (E.clients l).acked ≤ x.seen) (sm : Small x.edit.edit)
        (fit : fits (carried C.own x.seen x.edit.edit) (length (E.docs l)) ≡ true) (sound : sound_client (client_taken C x.edit.origin x.seen x.edit.edit) ≡ true) where
      down_step : Step items E h (taking_down l x E) (after_down l h)
      down_step = step_down items E h sim.inv l x ok next cur

      abbrev g : Made (edits ranks)
      g = oth l (order h l) (E.clients l).taken

      missing_first : missing h l ≡ g ∷ drop (suc (E.clients l).taken) (others l h.served)
      missing_first = first_missing items E h sim.inv l x ok next cur

      -- it is applied in its form at what the client has applied
      down_form : form g (in_order (order h l) (h.applied l)) ≡ arrived x (E.clients l)
      down_form =
          ap (form g) (set_is items l (order h l) h.served (h.applied l) (E.clients l) (E.lines l) (E.docs l) line)
          ∙ sym (down_arrives items l (order h l) h.served (h.applied l) (E.clients l) (E.lines l) (E.docs l) line x ok next cur)

      down_applied : form (logs.first (missing h l)) (set_of h l) ≡ arrived x (E.clients l)
      down_applied = ap (λ (es : List (Made (edits ranks))). form (logs.first es) (set_of h l)) missing_first ∙ client_set h l g (arrived x (E.clients l)) lo down_form

      g_other : is_by l g ≡ false
      g_other = L.reject_fails (is_by l) blank (order h l) (E.clients l).taken (down_made items l (order h l) h.served (h.applied l) (E.clients l) (E.lines l) (E.docs l) line x ok next cur)

      -- the edit as it is applied, and the inverse past it
      abbrev came : Named
      came = arrived x (E.clients l)

      abbrev carried_back : Edit
      carried_back = transformed (sim.bk l) came.edit

      -- the end and the list of line l as they are now, or of line j as they were
      abbrev new_end : Bool → ℕ → ends.End (edits ranks)
      new_end t j = cond t (takes x (E.clients l)) (E.clients j)

      abbrev new_list : Bool → ℕ → List Place
      new_list t j = cond t (applied_named came (E.docs l)) (E.docs j)

      came_fits : fits came.edit (length (E.docs l)) ≡ true
      came_fits = ap (λ (e : Edit). fits e (length (E.docs l))) (sym (past_same _ x.edit (x.seen - (E.clients l).acked) (E.clients l).pending)) ∙ fit

      is_taken : client_taken C x.edit.origin x.seen x.edit.edit ≡ client_from n l ranks (takes x (E.clients l)) (applied_named came (E.docs l)) (sim.ci l) carried_back
      is_taken = taken_from n l ranks (E.clients l) (E.docs l) (sim.ci l) (sim.bk l) x

      pub takes_down : Sim n items from (record {
        ends = at l (client (client_taken C x.edit.origin x.seen x.edit.edit)) s.ends;
        messages = s.messages;
        reports = s.reports ++ (line_report C.own x.seen x.edit.edit ∷ []);
        recorded = took_down w l x;
      })
      unfolding applies
      takes_down =
          record {
            E = taking_down l x E;
            ci = sim.ci;
            si = sim.si;
            bk = at l carried_back sim.bk;
            inv = down_step.inv;
            later = later_trans _ _ _ _ _ _ sim.later down_step.later;
            server_is = at_other l (client (client_taken C x.edit.origin x.seen x.edit.edit)) s.ends 0 (λ z. omega arith) ∙ sim.server_is;
            client_is = by_line_lem l (λ j t. 1 ≤ j → j ≤ n → cond t (client (client_taken C x.edit.origin x.seen x.edit.edit)) (s.ends j)
                ≡ client (client_from n j ranks (new_end t j) (new_list t j) (sim.ci j) (cond t carried_back (sim.bk j)))) (λ a b. ap client is_taken) (λ j q. sim.client_is j);
            server_sound = sim.server_sound;
            client_sound = by_line_lem l (λ j t. 1 ≤ j → j ≤ n → sound_client (client_from n j ranks (new_end t j) (new_list t j) (sim.ci j) (cond t carried_back (sim.bk j))) ≡ true)
                (λ a b. ap sound_client (sym is_taken) ∙ sound) (λ j q. sim.client_sound j);
            server_shown = at_other l (applied_named (form (logs.first (missing h l)) (set_of h l)) (w.shown l)) w.shown 0 (λ z. omega arith) ∙ sim.server_shown;
            client_shown = by_line_lem l (λ j t. 1 ≤ j → j ≤ n → cond t (applied_named (form (logs.first (missing h l)) (set_of h l)) (w.shown l)) (w.shown j) ≡ new_list t j)
                (λ a b. ap₂ applied_named down_applied (sim.client_shown l lo hi)) (λ j q. sim.client_shown j);
            server_heard = λ j. unheard l (at l x.seen (w.heard l)) w.heard 0 j (λ z. omega arith) ∙ sim.server_heard j;
            client_heard = by_line_lem l (λ j t. 1 ≤ j → cond t (at l x.seen (w.heard l)) (w.heard j) j ≡ (new_end t j).acked) (λ a. at_here l x.seen (w.heard l)) (λ j q. sim.client_heard j);
            messages = sim.messages;
            written = messages_later n ranks items E (taking_down l x E) h (after_down l h) sim.inv down_step.later w.messages sim.written;
            reports =
                ap₂ one_more sim.reports
                (report_from (E.clients l) (sim.ci l) x (made_at h l l) (form (logs.first (missing h l)) (set_of h l)) (client_count h l (E.clients l).made lo made_is) down_applied);
            taken = λ j.
                subst (λ (es : List (Made (edits ranks))). length (others j ((applies l es h).applied j)) ≡ (new_end (eqb l j) j).taken) (sym missing_first)
                (by_line_lem l (λ i t. length (others i (cond t (h.applied l ++ (g ∷ [])) (h.applied i))) ≡ (new_end t i).taken)
                (ap length (others_snoc l (h.applied l) g g_other) ∙ length-append (others l (h.applied l)) (g ∷ []) ∙ omega (arith, sim.taken l)) (λ i q. sim.taken i) j);
            served_lines = subst (λ (es : List (Made (edits ranks))). All (OfLines n) (applies l es h).served) (sym missing_first) sim.served_lines;
            ci_is = λ j. subst (λ (es : List (Made (edits ranks))). sim.ci j ≡ inserts (mine j (order (applies l es h) j))) (sym missing_first) (sim.ci_is j);
            si_is = λ j. subst (λ (es : List (Made (edits ranks))). sim.si j ≡ inserts (mine j (applies l es h).served)) (sym missing_first) (sim.si_is j);
            client_small = by_line_lem l (λ j t. All Small (edits_of (new_end t j).pending)) (small_taken x (E.clients l) (sim.client_small l)) (λ j q. sim.client_small j);
            server_small = sim.server_small;
            back_is = by_line_lem l (λ j t. cond t carried_back (sim.bk j) ≡ cond t (transformed (w.undo l) (form (logs.first (missing h l)) (set_of h l)).edit) (w.undo j))
                (ap₂ transformed (sim.back_is l) (ap (λ (e : Named). e.edit) (sym down_applied))) (λ j q. sim.back_is j);
            back_fits = by_line_lem l (λ j t. fits (cond t carried_back (sim.bk j)) (length (new_list t j)) ≡ true)
                (carried_fits came.origin (sim.bk l) came.edit (E.docs l) (sim.back_fits l) came_fits) (λ j q. sim.back_fits j);
            back_small = by_line_lem l (λ j t. Small (cond t carried_back (sim.bk j))) (small_transformed (sim.bk l) came.edit ∙ sim.back_small l) (λ j q. sim.back_small j);
            docs_small = by_line_lem l (λ j t. are_items (items_of (new_list t j)) ≡ true)
                (items_small came.origin came.edit (E.docs l) (small_arrived x (E.clients l) sm) (sim.docs_small l)) (λ j q. sim.docs_small j);
          }

    -- ---- the server takes a client's next edit

    abbrev S : Server
    S = server_from n (length items) ranks E.doc E.lines sim.si

    -- the message's edit is the first that the server lacks
    pub first_inserts : (x : EditMessage (edits ranks)) → UpMessage items E h l x → x.number ≡ suc (E.lines l).taken → (o : Made (edits ranks)) (us : List (Made (edits ranks))) → h.untaken l ≡ o ∷ us
        → inserts_of x.edit.edit ≡ inserts_of o.edit.edit
    first_inserts x ok next o us split =
        let o_by : is_by l o ≡ true = (subst (λ (r : List (Made (edits ranks))). All (λ y. is_by l y ≡ true) r) split (sim.inv.lines l).untaken_own).0 in
        ap (λ (e : Named). inserts_of e.edit) ok.edit ∙ form_grows (laws sim) (own l (order h l) ok.index) (point l (order h l) ok.index x.seen)
        ∙ ap (λ (y : Made (edits ranks)). inserts_of y.edit.edit)
        (ap (λ (i : ℕ). get_or (mine l (order h l)) i blank) (omega (arith, ok.number, (sim.inv.lines l).v_count))
        ∙ ap (λ (r : List (Made (edits ranks))). get_or (mine l (h.served ++ r)) (length (mine l h.served)) blank) split
        ∙ ap (λ (r : List (Made (edits ranks))). get_or r (length (mine l h.served)) blank) (L.select_in (is_by l) blank h.served o us o_by)
        ∙ get_or-append_seam (mine l h.served) o (mine l us) blank)

    module _ (x : EditMessage (edits ranks)) (ok : UpMessage items E h l x) (next : x.number ≡ suc (E.lines l).taken) (cur : (E.lines l).acked ≤ x.seen) (sm : Small x.edit.edit)
        (sound : sound_server (server_taken S l x.edit.origin x.seen x.edit.edit) ≡ true) where
      abbrev a : Named
      a = arrived x (E.lines l)

      abbrev lines' : ℕ → ends.End (edits ranks)
      lines' = at l (takes x (E.lines l)) (λ k. keeps a (E.lines k))

      module _ (o : Made (edits ranks)) (us : List (Made (edits ranks))) (split : h.untaken l ≡ o ∷ us) where
        up_step : Step items E h (taking_up l x E) (serves l (o ∷ us) h)
        up_step = subst (λ (r : List (Made (edits ranks))). Step items E h (taking_up l x E) (serves l r h)) split (step_up items (laws sim) E h sim.inv l x ok next cur)

        up_applied : form o h.served ≡ arrived x (E.lines l)
        up_applied = sym (arrives items (laws sim) E h sim.inv l x ok next cur o us split)

        o_by : is_by l o ≡ true
        o_by = (subst (λ (r : List (Made (edits ranks))). All (λ y. is_by l y ≡ true) r) split (sim.inv.lines l).untaken_own).0

        o_not : (j : ℕ) → eqb l j ≡ false → is_by j o ≡ false
        o_not j e = ne_eqb j o.name.line (λ z. not_line l j e (eqb-true l o.name.line o_by ∙ sym z))

        takes_split : Sim n items from (record {
          ends = at 0 (server (server_taken S l x.edit.origin x.seen x.edit.edit)) s.ends;
          messages = s.messages;
          reports = s.reports ++ (line_report (line_from (E.lines l) (sim.si l)) x.seen x.edit.edit ∷ []);
          recorded = record {
            history = serves l (o ∷ us) h;
            shown = logs.shows w 0 (logs.first (o ∷ us));
            undo = w.undo;
            heard = logs.hearing w 0 l x.seen;
            messages = w.messages;
            reports = w.reports ++ (logs.reported w 0 l x (logs.first (o ∷ us)) ∷ []);
          };
        })
        unfolding serves set_of made_at
        takes_split =
            record {
              E = taking_up l x E;
              ci = sim.ci;
              si = at l (sim.si l + inserts_of x.edit.edit) sim.si;
              bk = sim.bk;
              inv = up_step.inv;
              later = later_trans _ _ _ _ _ _ sim.later up_step.later;
              server_is = ap server (server_taken_from n (length items) ranks E.doc E.lines sim.si l lo hi x);
              client_is = λ j b c. at_other 0 (server (server_taken S l x.edit.origin x.seen x.edit.edit)) s.ends j (λ z. omega arith) ∙ sim.client_is j b c;
              server_sound = ap sound_server (sym (server_taken_from n (length items) ranks E.doc E.lines sim.si l lo hi x)) ∙ sound;
              client_sound = sim.client_sound;
              server_shown = ap₂ applied_named up_applied sim.server_shown;
              client_shown = λ j b c. at_other 0 (applied_named (form o h.served) (w.shown 0)) w.shown j (λ z. omega arith) ∙ sim.client_shown j b c;
              client_heard = λ j b. unheard 0 (at l x.seen (w.heard 0)) w.heard j j (λ z. omega arith) ∙ sim.client_heard j b;
              server_heard = by_line_lem l (λ j t. cond t x.seen (w.heard 0 j) ≡ (cond t (takes x (E.lines l)) (keeps a (E.lines j))).acked) refl (λ j q. sim.server_heard j);
              messages = sim.messages;
              written = messages_later n ranks items E (taking_up l x E) h (serves l (o ∷ us) h) sim.inv up_step.later w.messages sim.written;
              reports =
                  ap₂ one_more sim.reports
                  (report_from (E.lines l) (sim.si l) x (made_at h 0 l) (form o h.served)
                  (line.v_made ∙ ap length (others_served l h.served (h.untaken l) (sim.inv.lines l).untaken_own)) up_applied);
              taken = sim.taken;
              served_lines =
                  all_append (OfLines n) h.served (o ∷ []) sim.served_lines
                  (let z : l ≡ o.name.line = eqb-true l o.name.line o_by in (omega arith, omega arith), tt);
              ci_is = by_line_lem l (λ j t. sim.ci j ≡ inserts (mine j ((h.served ++ (o ∷ [])) ++ cond t us (h.untaken j))))
                  (sim.ci_is l ∙ ap (λ (r : List (Made (edits ranks))). inserts (mine l (h.served ++ r))) split
                  ∙ ap (λ (r : List (Made (edits ranks))). inserts (mine l r)) (sym (append_assoc h.served (o ∷ []) us)))
                  (λ j q. sim.ci_is j ∙ ap inserts (sym (L.select_out (is_by j) blank h.served o (h.untaken j) (o_not j q)))
                  ∙ ap (λ (r : List (Made (edits ranks))). inserts (mine j r)) (sym (append_assoc h.served (o ∷ []) (h.untaken j))));
              si_is = by_line_lem l (λ j t. cond t (sim.si l + inserts_of x.edit.edit) (sim.si j) ≡ inserts (mine j (h.served ++ (o ∷ []))))
                  (omega (arith, sim.si_is l, first_inserts x ok next o us split, inserts_one_more l h.served o o_by))
                  (λ j q. sim.si_is j ∙ ap (λ (r : List (Made (edits ranks))). inserts (mine j r)) (sym (append-nil h.served))
                  ∙ ap inserts (sym (L.select_out (is_by j) blank h.served o [] (o_not j q))));
              client_small = sim.client_small;
              server_small = by_line_lem l (λ j t. All Small (edits_of (cond t (takes x (E.lines l)) (keeps a (E.lines j))).pending)) (small_taken x (E.lines l) (sim.server_small l))
                  (λ j q. small_kept a (E.lines j) (sim.server_small j) (small_arrived x (E.lines l) sm));
              back_is = sim.back_is;
              back_fits = sim.back_fits;
              back_small = sim.back_small;
              docs_small = sim.docs_small;
            }

      pub takes_up : Sim n items from (record {
        ends = at 0 (server (server_taken S l x.edit.origin x.seen x.edit.edit)) s.ends;
        messages = s.messages;
        reports = s.reports ++ (line_report (line_from (E.lines l) (sim.si l)) x.seen x.edit.edit ∷ []);
        recorded = took_up w l x;
      })
      takes_up =
          first_untaken items (laws sim) E h sim.inv l x ok next cur (h.untaken l) refl
          (λ r. Sim n items from (record {
            ends = at 0 (server (server_taken S l x.edit.origin x.seen x.edit.edit)) s.ends;
            messages = s.messages;
            reports = s.reports ++ (line_report (line_from (E.lines l) (sim.si l)) x.seen x.edit.edit ∷ []);
            recorded = record {
              history = serves l r h;
              shown = logs.shows w 0 (logs.first r);
              undo = w.undo;
              heard = logs.hearing w 0 l x.seen;
              messages = w.messages;
              reports = w.reports ++ (logs.reported w 0 l x (logs.first r) ∷ []);
            };
          }))
          takes_split

    -- ---- acknowledgements

    module _ (seen : ℕ) (low : (E.clients l).acked ≤ seen) (made : seen ≤ (E.lines l).taken) (sound : sound_client (client_acked C seen) ≡ true) where
      acked_down : Step items E h (acking_down l seen E) h
      acked_down = step_ack_down items E h sim.inv l seen low made

      is_acked : client_acked C seen ≡ client_from n l ranks (acks seen (E.clients l)) (E.docs l) (sim.ci l) (sim.bk l)
      is_acked = acked_from n l ranks (E.clients l) (E.docs l) (sim.ci l) (sim.bk l) seen

      abbrev acked_end : Bool → ℕ → ends.End (edits ranks)
      acked_end t j = cond t (acks seen (E.clients l)) (E.clients j)

      pub acks_down : Sim n items from (record {
        ends = at l (client (client_acked C seen)) s.ends;
        messages = s.messages;
        reports = s.reports ++ (no_report ∷ []);
        recorded = hears w (logs.hearing w l l seen);
      })
      acks_down =
          record {
            E = acking_down l seen E;
            ci = sim.ci;
            si = sim.si;
            bk = sim.bk;
            inv = acked_down.inv;
            later = later_trans _ _ _ _ _ _ sim.later acked_down.later;
            server_is = at_other l (client (client_acked C seen)) s.ends 0 (λ z. omega arith) ∙ sim.server_is;
            client_is = by_line_lem l (λ j t. 1 ≤ j → j ≤ n → cond t (client (client_acked C seen)) (s.ends j) ≡ client (client_from n j ranks (acked_end t j) (E.docs j) (sim.ci j) (sim.bk j)))
                (λ a b. ap client is_acked) (λ j q. sim.client_is j);
            server_sound = sim.server_sound;
            client_sound = by_line_lem l (λ j t. 1 ≤ j → j ≤ n → sound_client (client_from n j ranks (acked_end t j) (E.docs j) (sim.ci j) (sim.bk j)) ≡ true)
                (λ a b. ap sound_client (sym is_acked) ∙ sound) (λ j q. sim.client_sound j);
            server_shown = sim.server_shown;
            client_shown = sim.client_shown;
            server_heard = λ j. unheard l (at l seen (w.heard l)) w.heard 0 j (λ z. omega arith) ∙ sim.server_heard j;
            client_heard = by_line_lem l (λ j t. 1 ≤ j → cond t (at l seen (w.heard l)) (w.heard j) j ≡ (acked_end t j).acked) (λ a. at_here l seen (w.heard l)) (λ j q. sim.client_heard j);
            messages = sim.messages;
            written = messages_later n ranks items E (acking_down l seen E) h h sim.inv acked_down.later w.messages sim.written;
            reports = ap (λ (ks : List Report). one_more ks no_report) sim.reports;
            taken = by_line_lem l (λ j t. length (others j (h.applied j)) ≡ (acked_end t j).taken) (sim.taken l) (λ j q. sim.taken j);
            served_lines = sim.served_lines;
            ci_is = sim.ci_is;
            si_is = sim.si_is;
            client_small = by_line_lem l (λ j t. All Small (edits_of (acked_end t j).pending)) (small_unacked seen (E.clients l) (sim.client_small l)) (λ j q. sim.client_small j);
            server_small = sim.server_small;
            back_is = sim.back_is;
            back_fits = sim.back_fits;
            back_small = sim.back_small;
            docs_small = sim.docs_small;
          }

    module _ (seen : ℕ) (low : (E.lines l).acked ≤ seen) (made : seen ≤ (E.clients l).taken) (sound : sound_server (server_acked S l seen) ≡ true) where
      acked_up : Step items E h (acking_up l seen E) h
      acked_up = step_ack_up items E h sim.inv l seen low made

      pub acks_up : Sim n items from (record {
        ends = at 0 (server (server_acked S l seen)) s.ends;
        messages = s.messages;
        reports = s.reports ++ (no_report ∷ []);
        recorded = hears w (logs.hearing w 0 l seen);
      })
      acks_up =
          record {
            E = acking_up l seen E;
            ci = sim.ci;
            si = sim.si;
            bk = sim.bk;
            inv = acked_up.inv;
            later = later_trans _ _ _ _ _ _ sim.later acked_up.later;
            server_is = ap server (server_acked_from n (length items) ranks E.doc E.lines sim.si l lo hi seen);
            client_is = λ j b c. at_other 0 (server (server_acked S l seen)) s.ends j (λ z. omega arith) ∙ sim.client_is j b c;
            server_sound = ap sound_server (sym (server_acked_from n (length items) ranks E.doc E.lines sim.si l lo hi seen)) ∙ sound;
            client_sound = sim.client_sound;
            server_shown = sim.server_shown;
            client_shown = sim.client_shown;
            client_heard = λ j b. unheard 0 (at l seen (w.heard 0)) w.heard j j (λ z. omega arith) ∙ sim.client_heard j b;
            server_heard = by_line_lem l (λ j t. cond t seen (w.heard 0 j) ≡ (cond t (acks seen (E.lines l)) (E.lines j)).acked) refl (λ j q. sim.server_heard j);
            messages = sim.messages;
            written = messages_later n ranks items E (acking_up l seen E) h h sim.inv acked_up.later w.messages sim.written;
            reports = ap (λ (ks : List Report). one_more ks no_report) sim.reports;
            taken = sim.taken;
            served_lines = sim.served_lines;
            ci_is = sim.ci_is;
            si_is = sim.si_is;
            client_small = sim.client_small;
            server_small = by_line_lem l (λ j t. All Small (edits_of (cond t (acks seen (E.lines l)) (E.lines j)).pending)) (small_unacked seen (E.lines l) (sim.server_small l)) (λ j q. sim.server_small j);
            back_is = sim.back_is;
            back_fits = sim.back_fits;
            back_small = sim.back_small;
            docs_small = sim.docs_small;
          }

  -- ---- a message is written
  pub writes_all : (xs : List (Message (edits ranks))) → All (MessageOk n ranks items sim.E h) xs
      → Sim n items from (record { ends = s.ends; messages = s.messages ++ map message_bytes xs; reports = s.reports; recorded = packs w xs })
  writes_all xs ok =
      beside sim sim.later (λ j. refl) (ap (λ (ms : List (List ℕ)). ms ++ map message_bytes xs) sim.messages ∙ sym (map-append message_bytes w.messages xs))
      (all_append (MessageOk n ranks items sim.E h) w.messages xs sim.written ok) sim.reports

  pub writes_on : (x : Message (edits ranks)) → MessageOk n ranks items sim.E h x
      → Sim n items from (record { ends = s.ends; messages = s.messages ++ (message_bytes x ∷ []); reports = s.reports; recorded = writes w x })
  writes_on x ok = writes_all (x ∷ []) (ok, tt)
