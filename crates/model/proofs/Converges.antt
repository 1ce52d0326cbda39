-- The claim of demands 2 and 3 holds of our sheet, for every list of calls.
use mathlib.Core.Path.{◌≡◌, refl, ap, sym, ◌∙◌, subst}
use mathlib.Core.Bool.{Bool, true, false, cond}
use mathlib.Core.List.{List, [], ◌∷◌}
use Prim.Native.Nat.{ℕ, zero, suc, ◌+◌, ◌-◌, ◌≤◌, ◌<◌}
use native.Mathlib.Omega.{arith}
use lib.Dec.{leb}
use lib.ListN.{length}
use borrow.Author.Tests.{leb-true}
use Rattle.ot.specs.Edit.{Nothing, fits}
use Rattle.list.specs.declared.Origin.{Origin}
use Rattle.list.specs.Places.{Place, initial_places}
use Rattle.list.specs.Seconds.{running_time}
use Rattle.list.proofs.Places.{initial_length, initial_items_lem}
use Rattle.jupiter.specs.Made.{select, reject}
use Rattle.jupiter.specs.Form.{replay}
use Rattle.jupiter.specs.History.{History, no_history, order, missing}
use Rattle.jupiter.specs.Ends as ends
use Rattle.jupiter.specs.Ends.{Ends}
use Rattle.jupiter.specs.Claims.{inserts, LineClaim}
use Rattle.jupiter.specs.Origins.{Once, Opening}
use Rattle.jupiter.proofs.Step.{opens, later_refl}
use Rattle.model.specs.Limits.{max_lines, max_pending, max_initial}
use Rattle.model.specs.Questions.{asks, between, no_report, Answer}
use Rattle.model.specs.Line.{Line, no_line}
use Rattle.model.specs.Client.{Client, no_client, open_client_questions, open_client}
use Rattle.model.specs.Server.{Server, no_server, sound_server, open_server_questions, open_server}
use Rattle.model.specs.Ranks.{ranking}
use Rattle.model.specs.Edits.{edits}
use Rattle.model.specs.Sheet.{Call}
use Rattle.model.specs.Log.{edit_message, message_bytes}
use Rattle.model.specs.Run.{State, are_items, callable, call, run, start}
use Rattle.model.specs.Claim.{Delivered, Full, OnLine, Holds, Converges}
use Rattle.model.specs.Ours.{End, client, server, ours}
use Rattle.model.proofs.Tests.{hold, yes_all, between_true}
use Rattle.model.proofs.SoundServer.{server_facts, ServerLine, line_fact, taken_sum}
use Rattle.model.proofs.Sound.{accepted, opens_client, opens_server}
use Rattle.model.proofs.Opens.{fresh_client, fresh_server, client_opens, server_opens}
use Rattle.model.proofs.Table.{table_replicate}
use Rattle.model.proofs.Places.{names_of, edit_origins, may_open, shown_once}
use Rattle.model.proofs.Sim.{client_from, server_from, line_from_lem, Moment, Sim, present, laws}
use Rattle.model.proofs.Reached.{who, state_of, reached, shows}
use Rattle.model.proofs.Counts as counts
use Rattle.model.proofs.Next.{delivers_down, delivers_up}
use Rattle.model.proofs.Alone.{alone}
use Rattle.model.proofs.Outcome.{refusal_is}
use Rattle.model.proofs.Numbers.{reads_back}
use Rattle.model.proofs.AnyCall.{called, numbered, counts as packet_counts}

-- ---- from the theory's ends to the claim

some_left : {A : Type 0} (xs : List A) → (xs ≡ [] → ⊥) → 1 ≤ length xs
some_left [] h = absurd (h refl)
some_left (x ∷ xs) h = omega arith

-- an end keeps the total of the list that it shows
total_is : (e : End) → ours.total e ≡ running_time (ours.items e)
total_is (client c) = refl
total_is (server v) = refl

module _ (n : ℕ) (items : List Place) {ranks : List ℕ} {from : Moment ranks} (s : State ours ranks) (sim : Sim n items from s) (few : length items ≤ max_initial) where
  abbrev h : History (edits ranks)
  h = s.recorded.history

  abbrev E : Ends (edits ranks)
  E = sim.E

  abbrev S : Server
  S = server_from n (length items) ranks E.doc E.lines sim.si

  -- the claim on line l, at ends a and b that are what the theory says
  on_line_lem : (l : ℕ) → 1 ≤ l → l ≤ n → OnLine ours n s l
  on_line_lem l lo hi =
      let C = client_from n l ranks (E.clients l) (E.docs l) (sim.ci l) (sim.bk l) in
      let line : LineClaim items h l 0 (E.clients l) (E.lines l) (E.docs l) E.doc = counts.line n items s sim l in
      let same = line_from_lem n (length items) ranks E.doc E.lines sim.si l lo hi in
      let here : s.ends l ≡ client C = sim.client_is l lo hi in
      let base : s.ends 0 ≡ server S = sim.server_is in
      let cm : ours.made (s.ends l) l ≡ (E.clients l).made = ap (λ (e : End). ours.made e l) here in
      let ct : ours.taken (s.ends l) l ≡ (E.clients l).taken = ap (λ (e : End). ours.taken e l) here in
      let sm : ours.made (s.ends 0) l ≡ (E.lines l).made = ap (λ (e : End). ours.made e l) base ∙ ap (λ (v : Line). v.made) same in
      let st : ours.taken (s.ends 0) l ≡ (E.lines l).taken = ap (λ (e : End). ours.taken e l) base ∙ ap (λ (v : Line). v.taken) same in
      record {
        client_made = cm ∙ counts.client_made n items s sim l lo;
        client_taken_lem = ct ∙ counts.client_taken_lem n items s sim l lo;
        server_made = sm ∙ counts.server_made n items s sim l;
        server_taken_lem = st ∙ counts.server_taken_lem n items s sim l;
        meeting = ap (λ (e : End). replay (order h l) (h.applied l) (missing h l) (ours.items e)) here ∙ line.meets
            ∙ ap (λ (e : End). replay (order h l) h.served (h.untaken l) (ours.items e)) (sym base);
        equal = λ p q. ap (λ (e : End). ours.items e) here ∙ line.equal (sym cm ∙ p ∙ st) (sym ct ∙ q ∙ sm) ∙ ap (λ (e : End). ours.items e) (sym base);
        next_down = λ lent enough more.
            let left : (E.clients l).taken < (E.lines l).made = omega (arith, some_left (missing h l) more, line.count_missing) in
            subst (λ (e : End). Delivered ours e (s.ends l) l (suc (ours.taken (s.ends l) l)) lent) (sym base)
            (subst (λ (e : End). Delivered ours (server S) e l (suc (ours.taken e l)) lent) (sym here) (delivers_down n items s sim few l lo hi left lent (subst (λ (k : ℕ). length (message_bytes (edit_message h 0 l (suc k))) ≤ length lent) ct enough.1)));
        next_up = λ lent enough more free.
            let left : (E.lines l).taken < (E.clients l).made = omega (arith, some_left (h.untaken l) more, line.count_untaken) in
            subst (λ (e : End). Delivered ours e (s.ends 0) l (suc (ours.taken (s.ends 0) l)) lent) (sym here)
            (subst (λ (e : End). Delivered ours (client C) e l (suc (ours.taken e l)) lent) (sym base) (delivers_up n items s sim few l lo hi left (room free) lent (subst (λ (k : ℕ). length (message_bytes (edit_message h l l (suc k))) ≤ length lent) st enough.1)));
      }
    where
      -- question 12 asks what "full" says: 64 above the last seen
      room : ((j : ℕ) → 1 ≤ j → j ≤ n → (j ≡ l → ⊥) → Full ours n s j → ⊥) → (j : ℕ) → 1 ≤ j → j ≤ n → (j ≡ l → ⊥) → (E.lines j).made - (E.lines j).acked < max_pending
      room free j a b d =
          let same = line_from_lem n (length items) ranks E.doc E.lines sim.si j a b in
          let facts = subst (λ (v : Line). ServerLine n ranks (taken_sum S.lines) j v) same (line_fact S (server_facts S sim.server_sound) j a b) in
          let made : ours.made (s.ends 0) j ≡ (E.lines j).made = ap (λ (e : End). ours.made e j) sim.server_is ∙ ap (λ (v : Line). v.made) same in
          below (E.lines j).made (E.lines j).acked facts.line.room facts.line.acked
          (λ e. free j a b d (made ∙ e ∙ ap (λ (k : ℕ). k + max_pending) (sym (sim.server_heard j))))
        where
          below : (m k : ℕ) → m - k ≤ max_pending → k ≤ m → (m ≡ k + max_pending → ⊥) → m - k < max_pending
          below m k r t f = omega arith

  pub holds : Opening (edit_origins ranks) items → Holds ours n s
  holds opening_list =
      record {
        lists = λ a b. shown a b;
        totals = λ a b. total_is (s.ends a) ∙ ap running_time (shown a b);
        origins = λ a b. subst (λ (l : List Place). Once (names_of l)) (sym (shows sim a b)) (shown_once ranks items (laws sim) opening_list (state_of (present sim)) (reached sim) (who a));
        messages = sim.messages;
        read_back = reads_back n items s sim few;
        numbers = numbered n items s sim few;
        reports = sim.reports;
        packets = packet_counts n items s sim few;
        lines = on_line_lem;
      }
    where
      shown : (a : ℕ) → a ≤ n → ours.items (s.ends a) ≡ s.recorded.shown a
      shown zero b = ap (λ (e : End). ours.items e) sim.server_is ∙ sym sim.server_shown
      shown (suc a) b = ap (λ (e : End). ours.items e) (sim.client_is (suc a) (omega arith) b) ∙ sym (sim.client_shown (suc a) (omega arith) b)

-- ---- opening

abbrev pub opening : {ranks : List ℕ} → List ℕ → Moment ranks
opening items = record { ends = ends.opened (initial_places items); history = no_history }

module _ (n : ℕ) (ranks items : List ℕ) (lo : 1 ≤ n) (hi : n ≤ max_lines) (few : length items ≤ max_initial) (good : ranking n ranks ≡ true) (numbers : are_items items ≡ true) where
  abbrev fresh : ends.End (edits ranks)
  fresh = record { made = 0; taken = 0; acked = 0; pending = [] }

  -- the list at every end
  abbrev places : List Place
  places = initial_places items

  server_starts : (open_server n ranks items).end ≡ server_from n (length places) ranks places (λ l. fresh) (λ l. 0)
  server_starts =
      ap (λ (a : Answer Server). a.end) (server_opens n ranks items lo hi few good)
      ∙ (λ i. record {
        n = n;
        initial = sym (initial_length items) i;
        ranks = ranks;
        items = places;
        lines = table_replicate no_line 1 n i;
        makers = table_replicate {A = List Origin} [] 1 n i;
      })

  client_starts : (l : ℕ) → 1 ≤ l → l ≤ n → (open_client n l ranks items).end ≡ client_from n l ranks fresh places 0 Nothing
  client_starts l a b = ap (λ (r : Answer Client). r.end) (client_opens n l ranks items lo hi a b few good)

  pub starts : Sim n places (opening items) (start ours n ranks items)
  unfolding select reject inserts fits
  starts =
      record {
        E = ends.opened places;
        ci = λ l. 0;
        si = λ l. 0;
        bk = λ l. Nothing;
        inv = opens places;
        later = later_refl (ends.opened places) no_history;
        server_is = ap server server_starts;
        client_is = opened;
        server_sound = ap sound_server (sym server_starts) ∙ opens_server n ranks items (ap (λ (a : Answer Server). a.refusal) (server_opens n ranks items lo hi few good));
        client_sound = λ l a b. ap Rattle.model.specs.Client.sound_client (sym (client_starts l a b)) ∙ opens_client n l ranks items (ap (λ (r : Answer Client). r.refusal) (client_opens n l ranks items lo hi a b few good));
        server_shown = refl;
        client_shown = λ l a b. refl;
        server_heard = λ l. refl;
        client_heard = λ l a. refl;
        messages = refl;
        written = tt;
        reports = refl;
        taken = λ l. refl;
        served_lines = tt;
        ci_is = λ l. refl;
        si_is = λ l. refl;
        client_small = λ l. tt;
        server_small = λ l. tt;
        back_is = λ l. refl;
        back_fits = λ l. refl;
        back_small = λ l. refl;
        docs_small = λ l. ap are_items (initial_items_lem items) ∙ numbers;
      }
    where
      opened : (l : ℕ) → 1 ≤ l → l ≤ n → Rattle.model.specs.Run.opened ours n ranks items l ≡ client (client_from n l ranks fresh places 0 Nothing)
      opened zero a b = absurd (omega arith)
      opened (suc l) a b = ap client (client_starts (suc l) a b)

-- ---- every list of calls

pub runs : (n : ℕ) (items : List Place) {ranks : List ℕ} {from : Moment ranks} → length items ≤ max_initial → (calls : List Call) (s : State ours ranks) → Sim n items from s
    → Sim n items from (run ours n s calls)
unfolding run
runs n items {from = from} few [] s sim = sim
runs n items {from = from} few (c ∷ cs) s sim = runs n items few cs (cond (callable n c) (call ours s c) s) (go (callable n c) refl)
  where
    go : (b : Bool) → callable n c ≡ b → Sim n items from (cond b (call ours s c) s)
    go true e = called n items s sim few c e
    go false e = sim

-- what an opening that was not refused was asked
pub server_asked : (n : ℕ) (ranks items : List ℕ) → (open_server n ranks items).refusal ≡ 0 → (1 ≤ n) × (n ≤ max_lines) × (length items ≤ max_initial) × (ranking n ranks ≡ true)
unfolding open_server
server_asked n ranks items e =
    let z = accepted (asks (open_server_questions n ranks items)) no_server (fresh_server n ranks items) no_report e in
    let y = yes_all (open_server_questions n ranks items) (omega arith) z in
    let t = hold (between 1 max_lines n ∷ leb (length items) max_initial ∷ []) y.0 in
    let b = between_true 1 max_lines n t.0 in
    (b.0, b.1, leb-true (length items) max_initial t.1.0, y.1.0)

pub few_places : (items : List ℕ) → length items ≤ max_initial → length (initial_places items) ≤ max_initial
few_places items = subst (λ (k : ℕ). k ≤ max_initial) (sym (initial_length items))

pub converges : Converges ours
converges =
    record {
      opens_server = λ n ranks items a. unfold open_server in (refusal_is (asks (open_server_questions n ranks items)) no_server (fresh_server n ranks items) no_report);
      opens_client = λ n l ranks items a. unfold open_client in (refusal_is (asks (open_client_questions n l ranks items)) no_client (fresh_client n l ranks items) no_report);
      alone = alone;
      holds = λ n ranks items opened calls.
          let asked = server_asked n ranks items opened.server in
          let places = initial_places items in
          let few = few_places items asked.2 in
          holds n places (run ours n (start ours n ranks items) calls) (runs n places few calls (start ours n ranks items) (starts n ranks items asked.0 asked.1 asked.2 asked.3 opened.numbers))
          few (may_open ranks items);
    }
