-- A packet that is taken keeps the sheet with the theory, as its messages one after another do.
use mathlib.Core.Path.{◌≡◌, refl, ap, ap₂, sym, ◌∙◌, subst}
use mathlib.Core.Bool.{Bool, true, false, cond}
use mathlib.Core.Option.{some}
use mathlib.Core.List.{List, [], ◌∷◌, ◌++◌, append_assoc, map}
use Prim.Native.Nat.{ℕ, zero, suc, ◌+◌, ◌≤◌, ◌<◌}
use native.Mathlib.Nat.{le_refl}
use native.Mathlib.Omega.{arith}
use lib.Dec.{eqb, ltb}
use lib.ListN.{length, get_or, get_elem?, take, drop, length-append}
use borrow.Author.Tests.{eqb-true, eqb-false, ltb-true}
use Rattle.std.specs.Prelude.{None}
use Rattle.list.specs.Places.{Place}
use Rattle.wire.specs.Bytes.{parsed}
use Rattle.jupiter.specs.History.{at}
use Rattle.jupiter.proofs.Lists.{All}
use Rattle.model.specs.Limits.{max_initial, max_packet}
use Rattle.model.specs.Questions.{between, Report, no_report, Answer}
use Rattle.model.specs.Packets.{joined, next_size, known, packet_from, counted, handed_over}
use Rattle.model.specs.Client.{Client, sound_client, take_client, packet_client}
use Rattle.model.specs.Server.{Server, sound_server, take_server, packet_server}
use Rattle.model.specs.Sheet.{receive}
use Rattle.model.specs.Log.{Log, wire_message, log, logged, took, took_first, took_packet}
use Rattle.model.specs.Numbers.{handing, Handing, handing_over, packet_handed}
use Rattle.model.specs.Run.{State, answered, handed_number, packet_of, packet_taken}
use Rattle.model.specs.Ours.{End, client, server, answer_as, ours}
use Rattle.model.proofs.Packets.{Whole, whole_bytes, handed_then, handed_some, handed_step, handed_as, unpacked_sound}
use Rattle.model.proofs.Logs.{at_same}
use Rattle.model.proofs.Alone.{alone}
use Rattle.model.proofs.Sim.{client_from, server_from, MessageOk, Moment, Sim, writing, beside, at_its}
use Rattle.model.proofs.Calls.{written_as, takes_at}
use Rattle.model.proofs.Numbers.{hands_at, junk_at}

get_some : {A : Type 0} (d : A) (xs : List A) (i : ℕ) → i < length xs → get_elem? xs i ≡ some (get_or xs i d)
get_some d [] i h = absurd (omega arith)
get_some d (x ∷ xs) zero h = refl
get_some d (x ∷ xs) (suc i) h = get_some d xs i (omega arith)

-- the numbers of messages that there are
pub known_below : (count : ℕ) (is : List ℕ) → All (λ i. i < count) (known count is)
unfolding known
known_below count [] = tt
known_below count (i ∷ is) = go (ltb i count) refl (known_below count is)
  where
    go : (b : Bool) → ltb i count ≡ b → All (λ j. j < count) (known count is) → All (λ j. j < count) (cond b (i ∷ known count is) (known count is))
    go true e rest = (ltb-true i count e, rest)
    go false e rest = rest

at_twice : {A : Type 0} (a : ℕ) (v u : A) (f : ℕ → A) (j : ℕ) → at a v (at a u f) j ≡ at a v f j
at_twice a v u f j = go (eqb a j)
  where
    go : (b : Bool) → cond b v (cond b u (f j)) ≡ cond b v (f j)
    go true = refl
    go false = refl

module _ (n : ℕ) (items : List Place) (ranks : List ℕ) (from : Moment ranks) where
  module _ (few : length items ≤ max_initial) (a : ℕ) (hi : a ≤ n) where
    -- messages of the list, end to end, and a tail
    abbrev bytes_from : State ours ranks → List ℕ → List ℕ → List ℕ
    bytes_from s is tail = joined (map (λ i. get_or s.messages i []) is) ++ tail

    -- k messages were taken from s on; then the packet was used up or the next one was refused
    pub record Walked (tail : List ℕ) (s : State ours ranks) (is : List ℕ) (count : ℕ) (r : Answer End) : Type 0 where
      pub k : ℕ
      pub then : State ours ranks
      pub sim : Sim n items from then
      pub ends_are : (j : ℕ) → at a r.end s.ends j ≡ then.ends j
      pub messages_are : then.messages ≡ s.messages
      pub recorded_is : then.recorded ≡ took_first s.recorded a k is
      pub handing_is : handing_over n s.recorded a count is tail ≡ record { count = count + k; refusal = r.refusal }
      pub report_is : r.report ≡ counted (count + k)

    -- nothing more is taken
    stops : (tail : List ℕ) (s : State ours ranks) → Sim n items from s → (is : List ℕ) (count r : ℕ) (e : End) → e ≡ s.ends a
        → handing_over n s.recorded a count is tail ≡ record { count = count; refusal = r } → Walked tail s is count (record { refusal = r; end = e; report = counted count })
    unfolding took_first
    stops tail s sim is count r e same h =
        let none_more : count ≡ count + 0 = omega arith in
        record {
          k = 0;
          then = s;
          sim = sim;
          ends_are = at_its a e s.ends (sym same);
          messages_are = refl;
          recorded_is = refl;
          handing_is = h ∙ ap (λ (m : ℕ). record { count = m; refusal = r }) none_more;
          report_is = ap counted none_more;
        }

    -- a taking that is refused hands the end back
    handed_back : (e : End) (b : List ℕ) (r : ℕ) → (ours.take e b).refusal ≡ suc r → (ours.take e b).end ≡ e
    handed_back e b r z = (alone.takes e b (λ y. omega (arith, z, y))).0

    -- no message is left: nothing is, or a tail with which no message begins
    ends_here : (tail : List ℕ) → parsed (take (next_size tail) tail) ≡ None → (s : State ours ranks) → Sim n items from s → (most count : ℕ) → length tail ≤ most → (e : End) → s.ends a ≡ e
        → Walked tail s [] count (handed_over ours.take most count e tail)
    unfolding handed_over handing_over
    ends_here [] cut s sim zero count enough e same = stops [] s sim [] count 0 e (sym same) refl
    ends_here [] cut s sim (suc most) count enough e same = stops [] s sim [] count 0 e (sym same) refl
    ends_here (t ∷ ts) cut s sim zero count enough e same = absurd (omega arith)
    ends_here (t ∷ ts) cut s sim (suc most) count enough e same =
        let b = take (next_size (t ∷ ts)) (t ∷ ts) in
        let no_message : (ours.take e b).refusal ≡ 3 = ap (λ (d : End). (ours.take d b).refusal) (sym same) ∙ junk_at n items s sim few a b hi cut in
        subst (Walked (t ∷ ts) s [] count)
        (sym (handed_some ours.take most count e (t ∷ ts) (omega arith)
        ∙ ap (λ (r : ℕ). cond {A = Answer End} (eqb r 0) (handed_over ours.take most (suc count) (ours.take e b).end (drop (next_size (t ∷ ts)) (t ∷ ts))) (record { refusal = r; end = (ours.take e b).end; report = counted count })) no_message))
        (stops (t ∷ ts) s sim [] count 3 (ours.take e b).end (handed_back e b 2 no_message ∙ sym same) refl)

    -- a message that is not refused is one that was received
    receives : (s : State ours ranks) → Sim n items from s → (i : ℕ) → i < length s.messages → Sim n items from (answered ours s a (receive a i) (ours.take (s.ends a) (get_or s.messages i [])))
    receives s sim i there = takes_at n items s sim a i hi (get_or s.messages i []) (get_some [] s.messages i there)

    whole_at : (s : State ours ranks) → Sim n items from s → (i : ℕ) → i < length s.messages → Whole (get_or s.messages i [])
    whole_at s sim i there =
        let b = get_or s.messages i [] in
        let m = written_as s.recorded.messages i b (ap (λ (ms : List (List ℕ)). get_elem? ms i) (sym sim.messages) ∙ get_some [] s.messages i there) (MessageOk n ranks items sim.E s.recorded.history) sim.written in
        subst Whole (sym m.2) (whole_bytes (wire_message m.0))

    number_at : (s : State ours ranks) → (sim : Sim n items from s) → (i : ℕ) → i < length s.messages
        → (ours.take (s.ends a) (get_or s.messages i [])).refusal ≡ handing n s.recorded a (get_elem? s.recorded.messages i)
    number_at s sim i there = ap (handed_number ours s a) (sym (get_some [] s.messages i there)) ∙ hands_at n items s sim few a i hi

    -- one message was taken, and then the others were
    one_more : (tail : List ℕ) (s : State ours ranks) (i : ℕ) (is : List ℕ) (count : ℕ) (b : List ℕ) (r : Answer End) → (ours.take (s.ends a) b).refusal ≡ 0
        → handing n s.recorded a (get_elem? s.recorded.messages i) ≡ 0
        → Walked tail (answered ours s a (receive a i) (ours.take (s.ends a) b)) is (suc count) r → Walked tail s (i ∷ is) count r
    unfolding log logged took_first handing_over
    one_more tail s i is count b r z h w =
        let w1 = took s.recorded a (get_elem? s.recorded.messages i) in
        let logged_so : log s.recorded (receive a i) (ours.take (s.ends a) b).refusal ≡ w1 = ap (log s.recorded (receive a i)) z in
        let one : suc count + w.k ≡ count + suc w.k = omega arith in
        record {
          k = suc w.k;
          then = w.then;
          sim = w.sim;
          ends_are = λ j. sym (at_twice a r.end (ours.take (s.ends a) b).end s.ends j) ∙ w.ends_are j;
          messages_are = w.messages_are;
          recorded_is = w.recorded_is ∙ ap (λ (l : Log ranks). took_first l a w.k is) logged_so;
          handing_is = ap (λ (m : ℕ). cond {A = Handing} (eqb m 0) (handing_over n w1 a (suc count) is tail) (record { count = count; refusal = m })) h
              ∙ ap (λ (l : Log ranks). handing_over n l a (suc count) is tail) (sym logged_so) ∙ w.handing_is ∙ ap (λ (m : ℕ). record { count = m; refusal = r.refusal }) one;
          report_is = w.report_is ∙ ap counted one;
        }

    pub walk : (tail : List ℕ) → parsed (take (next_size tail) tail) ≡ None → (is : List ℕ) (s : State ours ranks) → Sim n items from s → All (λ i. i < length s.messages) is → (most count : ℕ)
        → length (bytes_from s is tail) ≤ most → (e : End) → s.ends a ≡ e → Walked tail s is count (handed_over ours.take most count e (bytes_from s is tail))
    unfolding joined handing_over
    walk tail cut [] s sim there most count enough e same = ends_here tail cut s sim most count enough e same
    walk tail cut (i ∷ is) s sim there zero count enough e same =
        let b = get_or s.messages i [] in
        absurd (omega (arith, (whole_at s sim i there.0).0, length-append b (joined (map (λ j. get_or s.messages j []) is)), length-append (b ++ joined (map (λ j. get_or s.messages j []) is)) tail))
    walk tail cut (i ∷ is) s sim there (suc most) count enough e same =
        let b = get_or s.messages i [] in
        let others = joined (map (λ j. get_or s.messages j []) is) in
        let rest = bytes_from s is tail in
        let whole = whole_at s sim i there.0 in
        subst (λ (bytes : List ℕ). Walked tail s (i ∷ is) count (handed_over ours.take (suc most) count e bytes)) (sym (append_assoc b others tail))
        (subst (Walked tail s (i ∷ is) count) (sym (handed_step ours.take most count e b rest whole))
        (subst (λ (d : End). Walked tail s (i ∷ is) count (handed_then ours.take most count d b rest)) same
        (go (eqb (ours.take (s.ends a) b).refusal 0) refl
        (walk tail cut is (answered ours s a (receive a i) (ours.take (s.ends a) b)) (receives s sim i there.0) there.1 most (suc count)
        (omega (arith, whole.0, length-append b others, length-append (b ++ others) tail, length-append others tail)) (ours.take (s.ends a) b).end
        (at_same a (ours.take (s.ends a) b).end s.ends)))))
      where
        go : (z : Bool) → eqb (ours.take (s.ends a) (get_or s.messages i [])).refusal 0 ≡ z
            → Walked tail (answered ours s a (receive a i) (ours.take (s.ends a) (get_or s.messages i []))) is (suc count)
            (handed_over ours.take most (suc count) (ours.take (s.ends a) (get_or s.messages i [])).end (bytes_from s is tail))
            → Walked tail s (i ∷ is) count (cond {A = Answer End} z
            (handed_over ours.take most (suc count) (ours.take (s.ends a) (get_or s.messages i [])).end (bytes_from s is tail))
            (record { refusal = (ours.take (s.ends a) (get_or s.messages i [])).refusal; end = (ours.take (s.ends a) (get_or s.messages i [])).end; report = counted count }))
        go true z more =
            let b = get_or s.messages i [] in
            let zero_is = eqb-true (ours.take (s.ends a) b).refusal 0 z in
            one_more tail s i is count b _ zero_is (sym (number_at s sim i there.0) ∙ zero_is) more
        go false z more =
            let b = get_or s.messages i [] in
            let no_zero = eqb-false (ours.take (s.ends a) b).refusal 0 z in
            stops tail s sim (i ∷ is) count (ours.take (s.ends a) b).refusal (ours.take (s.ends a) b).end (alone.takes (s.ends a) b no_zero).0
            (ap (λ (m : ℕ). cond {A = Handing} (eqb m 0) (handing_over n (took s.recorded a (get_elem? s.recorded.messages i)) a (suc count) is tail) (record { count = count; refusal = m }))
            (sym (number_at s sim i there.0))
            ∙ ap (λ (x : Bool). cond {A = Handing} x (handing_over n (took s.recorded a (get_elem? s.recorded.messages i)) a (suc count) is tail) (record { count = count; refusal = (ours.take (s.ends a) b).refusal })) z)

  -- ---- a packet at an end of the sheet

  module _ (few : length items ≤ max_initial) (s : State ours ranks) (sim : Sim n items from s) (a : ℕ) (hi : a ≤ n) where
    -- the end is sound, so question 2 lets the packet through
    packet_is : (bytes : List ℕ) → ours.take_packet (s.ends a) bytes
        ≡ cond (between 1 max_packet (length bytes)) (handed_over ours.take (length bytes) 0 (s.ends a) bytes) (record { refusal = 15; end = s.ends a; report = no_report })
    unfolding packet_server packet_client
    packet_is bytes = go a hi
      where
        either : {A : Type 0} (f : A → End) (b : Bool) (x : Answer A) (y : Answer End) (e : A) → y ≡ answer_as f x
            → answer_as f (cond b x (record { refusal = 15; end = e; report = no_report })) ≡ cond b y (record { refusal = 15; end = f e; report = no_report })
        either f true x y e h = sym h
        either f false x y e h = refl

        go : (a : ℕ) → a ≤ n → ours.take_packet (s.ends a) bytes
            ≡ cond (between 1 max_packet (length bytes)) (handed_over ours.take (length bytes) 0 (s.ends a) bytes) (record { refusal = 15; end = s.ends a; report = no_report })
        go zero hi =
            let S = server_from n (length items) ranks sim.E.doc sim.E.lines sim.si in
            subst (λ (e : End). ours.take_packet e bytes ≡ cond (between 1 max_packet (length bytes)) (handed_over ours.take (length bytes) 0 e bytes) (record { refusal = 15; end = e; report = no_report }))
            (sym sim.server_is)
            (ap (λ (x : Answer Server). answer_as server x) (unpacked_sound sound_server take_server S bytes sim.server_sound)
            ∙ either server (between 1 max_packet (length bytes)) (handed_over take_server (length bytes) 0 S bytes) (handed_over ours.take (length bytes) 0 (server S) bytes) S
            (handed_as server take_server ours.take (λ d b. refl) (length bytes) 0 S bytes))
        go (suc l) hi =
            let C = client_from n (suc l) ranks (sim.E.clients (suc l)) (sim.E.docs (suc l)) (sim.ci (suc l)) (sim.bk (suc l)) in
            subst (λ (e : End). ours.take_packet e bytes ≡ cond (between 1 max_packet (length bytes)) (handed_over ours.take (length bytes) 0 e bytes) (record { refusal = 15; end = e; report = no_report }))
            (sym (sim.client_is (suc l) (omega arith) hi))
            (ap (λ (x : Answer Client). answer_as client x) (unpacked_sound sound_client take_client C bytes (sim.client_sound (suc l) (omega arith) hi))
            ∙ either client (between 1 max_packet (length bytes)) (handed_over take_client (length bytes) 0 C bytes) (handed_over ours.take (length bytes) 0 (client C) bytes) C
            (handed_as client take_client ours.take (λ d b. refl) (length bytes) 0 C bytes))

    module _ (is tail : List ℕ) (cut : parsed (take (next_size tail) tail) ≡ None) where
      abbrev js : List ℕ
      js = known (length s.messages) is

      abbrev bytes : List ℕ
      bytes = packet_of ours s is tail

      pub record Taken (r : Answer End) : Type 0 where
        pub follows : Sim n items from (packet_taken ours s a is r)
        pub handing_is : packet_handed n s.recorded a is tail ≡ record { count = r.report.passed; refusal = r.refusal }
        pub report_is : r.report ≡ counted r.report.passed

      -- the log by the bytes that the sheet wrote
      handed_by : (b : Bool) → between 1 max_packet (length bytes) ≡ b
          → packet_handed n s.recorded a is tail ≡ cond b (handing_over n s.recorded a 0 js tail) (record { count = 0; refusal = 15 })
      handed_by b e =
          ap (λ (ms : List (List ℕ)). cond {A = Handing} (between 1 max_packet (length (packet_from ms is tail))) (handing_over n s.recorded a 0 (known (length ms) is) tail) (record { count = 0; refusal = 15 })) (sym sim.messages)
          ∙ ap (λ (x : Bool). cond {A = Handing} x (handing_over n s.recorded a 0 js tail) (record { count = 0; refusal = 15 })) e

      settles : (r : Answer End) → between 1 max_packet (length bytes) ≡ true → Walked few a hi tail s js 0 r → Taken r
      unfolding took_first
      settles r e w =
          let w0 = s.recorded in
          let all : 0 + w.k ≡ w.k = omega arith in
          let report : r.report ≡ counted w.k = w.report_is ∙ ap counted all in
          let passed : r.report.passed ≡ w.k = ap (λ (k : Report). k.passed) report in
          record {
            follows =
                subst (λ (k : ℕ). Sim n items from (record { ends = at a r.end s.ends; messages = s.messages; reports = s.reports ++ (r.report ∷ []); recorded = took_packet w0 a k js })) (sym passed)
                (subst (λ (ms : List (List ℕ)). Sim n items from (record { ends = at a r.end s.ends; messages = ms; reports = s.reports ++ (r.report ∷ []); recorded = took_packet w0 a w.k js })) w.messages_are
                (subst (λ (l : Log ranks). Sim n items from (record { ends = at a r.end s.ends; messages = w.then.messages; reports = s.reports ++ (r.report ∷ []); recorded = writing l l.messages (w0.reports ++ (counted w.k ∷ [])) })) w.recorded_is
                (beside w.sim w.sim.later w.ends_are w.sim.messages w.sim.written (ap₂ (λ (ks : List Report) (k : Report). ks ++ (k ∷ [])) sim.reports report))));
            handing_is = handed_by true e ∙ w.handing_is ∙ ap (λ (k : ℕ). record { count = k; refusal = r.refusal }) (all ∙ sym passed);
            report_is = report ∙ ap counted (sym passed);
          }

      too_long : between 1 max_packet (length bytes) ≡ false → Taken (record { refusal = 15; end = s.ends a; report = no_report })
      unfolding took_first
      too_long e =
          record {
            follows = beside sim sim.later (at_its a (s.ends a) s.ends refl) sim.messages sim.written (ap (λ (ks : List Report). ks ++ (no_report ∷ [])) sim.reports);
            handing_is = handed_by false e;
            report_is = refl;
          }

      pub takes_packet : Taken (ours.take_packet (s.ends a) bytes)
      takes_packet = subst Taken (sym (packet_is bytes)) (go (between 1 max_packet (length bytes)) refl)
        where
          go : (b : Bool) → between 1 max_packet (length bytes) ≡ b → Taken (cond b (handed_over ours.take (length bytes) 0 (s.ends a) bytes) (record { refusal = 15; end = s.ends a; report = no_report }))
          go true e = settles (handed_over ours.take (length bytes) 0 (s.ends a) bytes) e (walk few a hi tail cut js s sim (known_below (length s.messages) is) (length bytes) 0 (le_refl (length bytes)) (s.ends a) refl)
          go false e = too_long e
