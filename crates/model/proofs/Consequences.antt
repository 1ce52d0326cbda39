-- What follows from the claim, for every sheet that has it.
use mathlib.Core.Path.{◌≡◌, refl, ap, ap₂, sym, ◌∙◌, subst}
use mathlib.Core.Bool.{Bool, true, false, cond}
use mathlib.Core.Option.{Option, none, some}
use mathlib.Core.List.{List, [], ◌∷◌, ◌++◌, map}
use Prim.Native.Nat.{ℕ, zero, suc, ◌≤◌}
use lib.ListN.{length, get_elem?}
use borrow.Author.Tests.{eq-eqb, le-leb}
use Rattle.ot.specs.Edit.{Edit}
use Rattle.list.specs.Places.{Place, initial_places, applied_by, items_of}
use Rattle.list.specs.Seconds.{running_time}
use Rattle.jupiter.specs.Ends.{Ends}
use Rattle.jupiter.specs.Run as theory
use Rattle.jupiter.specs.Run.{Message, up, down, up_ack, down_ack}
use Rattle.jupiter.specs.Claims.{SameSet, doc_of}
use Rattle.jupiter.specs.Claims as claims
use Rattle.jupiter.specs.Origins.{Opening}
use Rattle.jupiter.specs.Orders as theory_order
use Rattle.jupiter.proofs.Step.{Later}
use Rattle.jupiter.proofs.Start.{whole, whole_none}
use Rattle.jupiter.proofs.Runs.{Onward}
use Rattle.jupiter.proofs.Consistency as theorem
use Rattle.model.specs.Limits.{max_initial}
use Rattle.model.specs.Questions.{Question, asks, Report}
use Rattle.model.specs.Packets.{known, packet_from}
use Rattle.model.specs.Ranks.{rank_of, among}
use Rattle.model.specs.Edits.{edits}
use Rattle.model.specs.Sheet.{Sheet, Call, insert, delete, take_back, send, tell, receive, pack, packet, junk}
use Rattle.model.specs.Log as logs
use Rattle.model.specs.Log.{Log, named_by, edited, log, took_packet, made_at, taken_at, message_bytes}
use Rattle.model.specs.Numbers.{taking, handing, packet_handed, number}
use Rattle.model.specs.Run.{State, callable, handed, handed_number, packet_of, call, number_of, run, start}
use Rattle.model.specs.Claim.{Holds, Opened, Converges}
use Rattle.model.specs.Ours.{ours}
use Rattle.model.specs.Order.{SameOrder}
use Rattle.model.specs.Consequences.{applied_at, after, edit_of, spared_by, Consistent, OneOrder, TakingRefusals, TakesBack, Agree, Consequences}
use Rattle.model.proofs.Tests.{true_between}
use Rattle.model.proofs.Inverse.{takes_it_back}
use Rattle.model.proofs.Logs.{edited_shows, edited_undo, Makes, makes, edits_line, edit_logs, Spared, run_spares}
use Rattle.model.proofs.Places.{names_of, edit_origins, may_open, shown_order}
use Rattle.model.proofs.Orders.{places_order}
use Rattle.model.proofs.Sim.{Moment, Sim, present, from_here, laws}
use Rattle.model.proofs.Reached.{who, state_of, reached, shows}
use Rattle.model.proofs.Converges.{opening, starts, runs, server_asked, few_places, converges}

-- ---- the log is settled by the calls

-- what is claimed holds from here on
abbrev Good : (S : Sheet) → ℕ → {ranks : List ℕ} → State S ranks → Type 0
Good S n s = (calls : List Call) → Holds S n (run S n s calls)

good_now : (S : Sheet) (n : ℕ) {ranks : List ℕ} (s : State S ranks) → Good S n s → Holds S n s
unfolding run
good_now S n s g = g []

good_on : (S : Sheet) (n : ℕ) {ranks : List ℕ} (s : State S ranks) → Good S n s → (calls : List Call) → Good S n (run S n s calls)
unfolding run
good_on S n s g [] = g
good_on S n s g (c ∷ cs) = good_on S n (cond (callable n c) (call S s c) s) (λ calls. g (c ∷ calls)) cs

module _ (S T : Sheet) (n : ℕ) {ranks : List ℕ} where
  -- one call, where both states have the same log
  module _ (s : State S ranks) (t : State T ranks) (hs : Holds S n s) (ht : Holds T n t) (e : s.recorded ≡ t.recorded) where
    same_messages : s.messages ≡ t.messages
    same_messages = hs.messages ∙ ap (λ (w : Log ranks). map message_bytes w.messages) e ∙ sym ht.messages

    pub same_number : (c : Call) → callable n c ≡ true → number_of S s c ≡ number_of T t c
    same_number c ok = hs.numbers c ok ∙ ap (λ (w : Log ranks). number n w c) e ∙ sym (ht.numbers c ok)

    handed_same : (a : ℕ) (c : Call) (m : Option (List ℕ)) → handed_number S s a m ≡ handed_number T t a m → (handed S s a c m).recorded ≡ (handed T t a c m).recorded
    unfolding handed
    handed_same a c none q = e
    handed_same a c (some b) q = ap₂ (λ (w : Log ranks) (r : ℕ). log w c r) e q

    -- the packet of the same numbers, and how many of its messages are taken
    same_packet : (is tail : List ℕ) → packet_of S s is tail ≡ packet_of T t is tail
    same_packet is tail = ap (λ (ms : List (List ℕ)). packet_from ms is tail) same_messages

    same_count : (a : ℕ) (is tail : List ℕ) → callable n (packet a is tail) ≡ true
        → (S.take_packet (s.ends a) (packet_of S s is tail)).report.passed ≡ (T.take_packet (t.ends a) (packet_of T t is tail)).report.passed
    same_count a is tail ok =
        ap (λ (k : Report). k.passed) (hs.packets a is tail ok) ∙ ap (λ (w : Log ranks). (packet_handed n w a is tail).count) e ∙ sym (ap (λ (k : Report). k.passed) (ht.packets a is tail ok))

    same_call : (c : Call) → callable n c ≡ true → number_of S s c ≡ number_of T t c → (call S s c).recorded ≡ (call T t c).recorded
    unfolding call number_of
    same_call (insert l p x) ok q = ap₂ (λ (w : Log ranks) (r : ℕ). log w (insert l p x) r) e q
    same_call (delete l p) ok q = ap₂ (λ (w : Log ranks) (r : ℕ). log w (delete l p) r) e q
    same_call (take_back l) ok q = ap₂ (λ (w : Log ranks) (r : ℕ). log w (take_back l) r) e q
    same_call (send a l k lent) ok q = ap₂ (λ (w : Log ranks) (r : ℕ). log w (send a l k lent) r) e q
    same_call (tell a l lent) ok q = ap₂ (λ (w : Log ranks) (r : ℕ). log w (tell a l lent) r) e q
    same_call (receive a i) ok q =
        let there : get_elem? s.messages i ≡ get_elem? t.messages i = ap (λ (ms : List (List ℕ)). get_elem? ms i) same_messages in
        ap (λ (m : Option (List ℕ)). (handed S s a (receive a i) m).recorded) there
        ∙ handed_same a (receive a i) (get_elem? t.messages i) (ap (handed_number S s a) (sym there) ∙ q)
    same_call (pack a l offset lent) ok q = ap₂ (λ (w : Log ranks) (r : ℕ). log w (pack a l offset lent) r) e q
    same_call (packet a is tail) ok q =
        ap₂ (λ (w : Log ranks) (k : ℕ). took_packet w a k (known (length s.messages) is)) e (same_count a is tail ok)
        ∙ ap (λ (ms : List (List ℕ)). took_packet t.recorded a (T.take_packet (t.ends a) (packet_of T t is tail)).report.passed (known (length ms) is)) same_messages
    same_call (junk a bytes) ok q = ap₂ (λ (w : Log ranks) (r : ℕ). log w (junk a bytes) r) e q

  same_log : (calls : List Call) (s : State S ranks) (t : State T ranks) → Good S n s → Good T n t → s.recorded ≡ t.recorded → (run S n s calls).recorded ≡ (run T n t calls).recorded
  unfolding run
  same_log [] s t gs gt e = e
  same_log (c ∷ cs) s t gs gt e =
      same_log cs (cond (callable n c) (call S s c) s) (cond (callable n c) (call T t c) t) (λ calls. gs (c ∷ calls)) (λ calls. gt (c ∷ calls)) (go (callable n c) refl)
    where
      go : (b : Bool) → callable n c ≡ b → (cond {A = State S ranks} b (call S s c) s).recorded ≡ (cond {A = State T ranks} b (call T t c) t).recorded
      go true ok = same_call s t (gs []) (gt []) e c ok (same_number s t (gs []) (gt []) e c ok)
      go false ok = e

-- ---- two sheets
module _ (S T : Sheet) (c : Converges S) (d : Converges T) (n : ℕ) (ranks items : List ℕ) (o : Opened S n ranks items) where
  opened_too : Opened T n ranks items
  opened_too =
      record {
        numbers = o.numbers;
        server = d.opens_server n ranks items o.numbers ∙ sym (c.opens_server n ranks items o.numbers) ∙ o.server;
        clients = λ l a b. d.opens_client n l ranks items o.numbers ∙ sym (c.opens_client n l ranks items o.numbers) ∙ o.clients l a b;
      }

  both_hold : (calls : List Call) → Holds S n (after S n ranks items calls) × Holds T n (after T n ranks items calls)
  both_hold calls = (c.holds n ranks items o calls, d.holds n ranks items opened_too calls)

  same_run : (calls : List Call) → (after S n ranks items calls).recorded ≡ (after T n ranks items calls).recorded
  same_run calls = same_log S T n calls (start S n ranks items) (start T n ranks items) (c.holds n ranks items o) (d.holds n ranks items opened_too) refl

pub agree : (S T : Sheet) → Converges S → Converges T → Agree S T
agree S T c d =
    record {
      opens_server = λ n ranks items few. c.opens_server n ranks items few ∙ sym (d.opens_server n ranks items few);
      opens_client = λ n l ranks items few. c.opens_client n l ranks items few ∙ sym (d.opens_client n l ranks items few);
      lists = λ n ranks items o calls a b.
          let h = both_hold S T c d n ranks items o calls in
          h.0.lists a b ∙ ap (λ (w : Log ranks). w.shown a) (same_run S T c d n ranks items o calls) ∙ sym (h.1.lists a b);
      totals = λ n ranks items o calls a b.
          let h = both_hold S T c d n ranks items o calls in
          h.0.totals a b ∙ ap (λ (w : Log ranks). running_time (w.shown a)) (same_run S T c d n ranks items o calls) ∙ sym (h.1.totals a b);
      made = λ n ranks items o calls l lo hi.
          let h = both_hold S T c d n ranks items o calls in
          let x = h.0.lines l lo hi in
          let y = h.1.lines l lo hi in
          let e = same_run S T c d n ranks items o calls in
          (x.client_made ∙ ap (λ (w : Log ranks). made_at w.history l l) e ∙ sym y.client_made, x.server_made ∙ ap (λ (w : Log ranks). made_at w.history 0 l) e ∙ sym y.server_made);
      taken = λ n ranks items o calls l lo hi.
          let h = both_hold S T c d n ranks items o calls in
          let x = h.0.lines l lo hi in
          let y = h.1.lines l lo hi in
          let e = same_run S T c d n ranks items o calls in
          (x.client_taken_lem ∙ ap (λ (w : Log ranks). taken_at w.history l l) e ∙ sym y.client_taken_lem, x.server_taken_lem ∙ ap (λ (w : Log ranks). taken_at w.history 0 l) e ∙ sym y.server_taken_lem);
      messages = λ n ranks items o calls.
          let h = both_hold S T c d n ranks items o calls in
          same_messages S T n (after S n ranks items calls) (after T n ranks items calls) h.0 h.1 (same_run S T c d n ranks items o calls);
      reports = λ n ranks items o calls.
          let h = both_hold S T c d n ranks items o calls in
          h.0.reports ∙ ap (λ (w : Log ranks). w.reports) (same_run S T c d n ranks items o calls) ∙ sym h.1.reports;
      numbers = λ n ranks items o calls.
          let h = both_hold S T c d n ranks items o calls in
          same_number S T n (after S n ranks items calls) (after T n ranks items calls) h.0 h.1 (same_run S T c d n ranks items o calls);
    }

-- ---- refusals

abbrev Allowed : ℕ → Type 0
Allowed r = among (0 ∷ 4 ∷ 5 ∷ 6 ∷ 7 ∷ 12 ∷ []) r ≡ true

-- every question of a list has such a number
abbrev Each : List Question → Type 0
Each [] = Unit {0}
Each (q ∷ qs) = Allowed q.number × Each qs

asked : (qs : List Question) → Each qs → Allowed (asks qs)
unfolding among
asked [] f = refl
asked (q ∷ qs) f = go q.yes (asked qs f.1)
  where
    go : (b : Bool) → Allowed (asks qs) → Allowed (cond b (asks qs) q.number)
    go true rest = rest
    go false rest = f.0

allowed : {ranks : List ℕ} (n : ℕ) (w : Log ranks) (a : ℕ) (x : Option (Message (edits ranks))) → Allowed (handing n w a x)
unfolding among
allowed n w a none = refl
allowed n w a (some (up l m)) = asked (taking n w a (up l m)) (refl, (refl, (refl, (refl, (refl, tt)))))
allowed n w a (some (down l m)) = asked (taking n w a (down l m)) (refl, (refl, (refl, (refl, tt))))
allowed n w a (some (up_ack l seen)) = asked (taking n w a (up_ack l seen)) (refl, (refl, tt))
allowed n w a (some (down_ack l seen)) = asked (taking n w a (down_ack l seen)) (refl, (refl, tt))

pub refusals : (S : Sheet) → Converges S → TakingRefusals S
unfolding number callable
refusals S c n ranks items o calls a i hi =
    let s = after S n ranks items calls in
    subst Allowed (sym ((c.holds n ranks items o calls).numbers (receive a i) (le-leb a n hi))) (allowed n s.recorded a (get_elem? s.recorded.messages i))

-- ---- consistency and order of ours

module _ (n : ℕ) (items : List Place) {ranks : List ℕ} {from : Moment ranks} (s t : State ours ranks) (sim : Sim n items from s) (more : Sim n items (present sim) t) where
  onward : Onward items (state_of (present sim)) (state_of (present more))
  onward =
      record {
        reached = reached more;
        later = subst (λ (X : Ends (edits ranks)). Later X s.recorded.history (whole (λ l. 0) more.E) t.recorded.history) (sym (whole_none sim.E))
            (subst (λ (X : Ends (edits ranks)). Later sim.E s.recorded.history X t.recorded.history) (sym (whole_none more.E)) more.later);
      }

  abbrev now : theory.State (edits ranks)
  now = state_of (present sim)

  abbrev then : theory.State (edits ranks)
  then = state_of (present more)

  ours_strong : (a b : ℕ) → a ≤ n → b ≤ n → SameSet (applied_at s.recorded.history a) (applied_at t.recorded.history b) → ours.items (s.ends a) ≡ ours.items (t.ends b)
  ours_strong a b ha hb same = shows sim a ha ∙ go a b same ∙ sym (shows more b hb)
    where
      go : (a b : ℕ) → SameSet (applied_at s.recorded.history a) (applied_at t.recorded.history b) → doc_of (who a) now ≡ doc_of (who b) then
      go zero zero f = theorem.consistent items now then (reached sim) onward claims.server claims.server f
      go zero (suc b) f = theorem.consistent items now then (reached sim) onward claims.server (claims.client (suc b)) f
      go (suc a) zero f = theorem.consistent items now then (reached sim) onward (claims.client (suc a)) claims.server f
      go (suc a) (suc b) f = theorem.consistent items now then (reached sim) onward (claims.client (suc a)) (claims.client (suc b)) f

  ours_order : Opening (edit_origins ranks) items → (a b : ℕ) → a ≤ n → b ≤ n → theory_order.SameOrder (names_of (ours.items (s.ends a))) (names_of (ours.items (t.ends b)))
  ours_order opening a b ha hb =
      subst (λ (l : List Place). theory_order.SameOrder (names_of l) (names_of (ours.items (t.ends b)))) (sym (shows sim a ha))
      (subst (λ (l : List Place). theory_order.SameOrder (names_of (doc_of (who a) now)) (names_of l)) (sym (shows more b hb))
      (shown_order ranks items (laws sim) opening now then (reached sim) onward (who a) (who b)))

-- ---- consistency and order of any sheet

module _ (S : Sheet) (c : Converges S) (n : ℕ) (ranks items : List ℕ) (o : Opened S n ranks items) (calls : List Call) where
  -- where ours is led
  abbrev there : State ours ranks
  there = after ours n ranks items calls

  ours_open : Opened ours n ranks items
  ours_open = opened_too S ours c converges n ranks items o

  few : length (initial_places items) ≤ max_initial
  few = few_places items (server_asked n ranks items ours_open.server).2

  led : Sim n (initial_places items) (opening items) there
  led =
      let asked = server_asked n ranks items ours_open.server in
      runs n (initial_places items) few calls (start ours n ranks items) (starts n ranks items asked.0 asked.1 asked.2 asked.3 o.numbers)

  -- where S is led, and that it shows what ours shows there and after more calls
  abbrev here : State S ranks
  here = after S n ranks items calls

  good_here : Good S n here
  good_here = good_on S n (start S n ranks items) (c.holds n ranks items o) calls

  good_there : Good ours n there
  good_there = good_on ours n (start ours n ranks items) (converges.holds n ranks items ours_open) calls

  same_here : here.recorded ≡ there.recorded
  same_here = same_run S ours c converges n ranks items o calls

  same_further : (more : List Call) → (run S n here more).recorded ≡ (run ours n there more).recorded
  same_further more = same_log S ours n more here there good_here good_there same_here

  shows_further : (more : List Call) (a : ℕ) → a ≤ n → S.items ((run S n here more).ends a) ≡ ours.items ((run ours n there more).ends a)
  shows_further more a ha = (good_here more).lists a ha ∙ ap (λ (w : Log ranks). w.shown a) (same_further more) ∙ sym ((good_there more).lists a ha)

  shows_here : (a : ℕ) → a ≤ n → S.items (here.ends a) ≡ ours.items (there.ends a)
  unfolding run
  shows_here = shows_further []

  led_further : (more : List Call) → Sim n (initial_places items) (present led) (run ours n there more)
  led_further more = runs n (initial_places items) few more there (from_here led)

  strong : (more : List Call) (a b : ℕ) → a ≤ n → b ≤ n
      → SameSet (applied_at here.recorded.history a) (applied_at (run S n here more).recorded.history b)
      → S.items (here.ends a) ≡ S.items ((run S n here more).ends b)
  strong more a b ha hb same =
      let u = run ours n there more in
      shows_here a ha
      ∙ ours_strong n (initial_places items) there u led (led_further more) a b ha hb
      (subst (λ (w : Log ranks). SameSet (applied_at there.recorded.history a) (applied_at w.history b)) (same_further more)
      (subst (λ (w : Log ranks). SameSet (applied_at w.history a) (applied_at (run S n here more).recorded.history b)) same_here same))
      ∙ sym (shows_further more b hb)

  in_order_lem : (more : List Call) (a b : ℕ) → a ≤ n → b ≤ n → SameOrder (S.items (here.ends a)) (S.items ((run S n here more).ends b))
  in_order_lem more a b ha hb =
      places_order (S.items (here.ends a)) (S.items ((run S n here more).ends b)) ((good_now S n here good_here).origins a ha) ((good_here more).origins b hb)
      (subst (λ (l : List Place). theory_order.SameOrder (names_of l) (names_of (S.items ((run S n here more).ends b)))) (sym (shows_here a ha))
      (subst (λ (l : List Place). theory_order.SameOrder (names_of (ours.items (there.ends a))) (names_of l)) (sym (shows_further more b hb))
      (ours_order n (initial_places items) there (run ours n there more) led (led_further more) (may_open ranks items) a b ha hb)))

pub consistent : (S : Sheet) → Converges S → Consistent S
consistent S c =
    record {
      quiescent = λ n ranks items o calls l lo hi quiet. ((c.holds n ranks items o calls).lines l lo hi).equal quiet.0 quiet.1;
      strong = λ n ranks items o calls. strong S c n ranks items o calls;
    }

pub order : (S : Sheet) → Converges S → OneOrder S
order S c n ranks items o calls more a b = in_order_lem S c n ranks items o calls more a b

-- ---- taking back

run_append : (S : Sheet) (n : ℕ) {ranks : List ℕ} (xs ys : List Call) (s : State S ranks) → run S n s (xs ++ ys) ≡ run S n (run S n s xs) ys
unfolding run
run_append S n [] ys s = refl
run_append S n (c ∷ xs) ys s = run_append S n xs ys (cond (callable n c) (call S s c) s)

run_call : (S : Sheet) (n : ℕ) {ranks : List ℕ} (s : State S ranks) (c : Call) (more : List Call) → callable n c ≡ true → run S n s (c ∷ more) ≡ run S n (call S s c) more
unfolding run
run_call S n {ranks} s c more ok = ap (λ (b : Bool). run S n (cond {A = State S ranks} b (call S s c) s) more) ok

-- client l makes an edit, or takes one back, and then makes and takes nothing
module _ (S : Sheet) (n : ℕ) {ranks : List ℕ} (s : State S ranks) (good : Good S n s) (l : ℕ) (lo : 1 ≤ l) (hi : l ≤ n) (c : Call) (between : List Call)
    (mine : edit_of l c ≡ true) (ok : callable n c ≡ true) (spared : spared_by l between ≡ true) (z : number_of S s c ≡ 0) where
  abbrev w : Log ranks
  w = s.recorded

  -- where this leads
  abbrev t : State S ranks
  t = run S n s (c ∷ between)

  made : Makes n w l c
  made = makes n w l c mine (sym ((good_now S n s good).numbers c ok) ∙ z)

  abbrev e : Edit
  e = made.edit

  abbrev list : List Place
  list = w.shown l

  logged : (call S s c).recorded ≡ edited w l e
  logged = edit_logs S s l c mine ∙ ap (log w c) z ∙ made.leaves

  -- the log there still has the edit's inverse, and the list that the edit left
  still : Spared l (edited w l e) t.recorded
  still =
      subst (λ (u : Log ranks). Spared l u t.recorded) logged
      (subst (λ (u : State S ranks). Spared l (call S s c).recorded u.recorded) (sym (run_call S n s c between ok)) (run_spares S n l between (call S s c) spared))

  module _ (y : number_of S t (take_back l) ≡ 0) where
    abbrev undone : State S ranks
    undone = run S n t (take_back l ∷ [])

    back_logged : undone.recorded ≡ edited t.recorded l (t.recorded.undo l)
    unfolding run callable log logs.logged
    back_logged =
        ap (λ (u : State S ranks). u.recorded) (run_call S n t (take_back l) [] (true_between 1 n l lo hi))
        ∙ edit_logs S t l (take_back l) (eq-eqb l l refl) ∙ ap (log t.recorded (take_back l)) y

    pub as_before : items_of (S.items (undone.ends l)) ≡ items_of (S.items (s.ends l))
    as_before =
        let o = (named_by t.recorded l (t.recorded.undo l)).origin in
        ap items_of ((good_on S n s good (c ∷ between) (take_back l ∷ [])).lists l hi)
        ∙ ap (λ (u : Log ranks). items_of (u.shown l)) back_logged
        ∙ ap items_of (edited_shows t.recorded l (t.recorded.undo l) lo)
        ∙ ap₂ (λ (d : Edit) (shown : List Place). items_of (applied_by o d shown)) (still.undo ∙ edited_undo w l e) (still.shown ∙ edited_shows w l e lo)
        ∙ takes_it_back (rank_of ranks l) (named_by w l e).origin o e list made.fit
        ∙ ap items_of (sym ((good_now S n s good).lists l hi))

pub takes_back : (S : Sheet) → Converges S → TakesBack S
takes_back S c n ranks items o calls between l e mine ok spared z y =
    let s = after S n ranks items calls in
    let on_line_lem = edits_line n l e mine ok in
    ap (λ (u : State S ranks). items_of (S.items (u.ends l))) (run_append S n (e ∷ between) (take_back l ∷ []) s)
    ∙ as_before S n s (good_on S n (start S n ranks items) (c.holds n ranks items o) calls) l on_line_lem.0 on_line_lem.1 e between mine ok spared z y

pub consequences : Consequences
consequences = record { consistent = consistent; order = order; refusals = refusals; takes_back = takes_back; agree = agree }
