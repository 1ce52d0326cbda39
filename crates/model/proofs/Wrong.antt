-- The wrong sheets are refuted, each by a list of calls that antt runs.
use mathlib.Core.Path.{◌≡◌, refl, ap, sym, ◌∙◌, subst}
use mathlib.Core.Bool.{true, true≢false}
use mathlib.Core.List.{List, [], ◌∷◌, ◌++◌, reverse}
use Prim.Native.Nat.{ℕ, zero, suc, ◌+◌, ◌≤◌}
use native.Mathlib.Omega.{arith}
use lib.Dec.{ltb}
use lib.ListN.{take, get_or}
use borrow.Author.Tests.{ltb-true}
use Rattle.list.specs.Places.{Place}
use Rattle.list.specs.Seconds.{total_seconds}
use Rattle.model.specs.Questions.{Report, no_report, Answer, Sent}
use Rattle.model.specs.Client.{Client}
use Rattle.model.specs.Server.{Server}
use Rattle.model.specs.Ranks.{ranking, line_ranks}
use Rattle.model.specs.Log.{wire_message, edit_message}
use Rattle.model.specs.Sheet.{Sheet, Call, insert, delete, take_back, send, tell, receive, junk}
use Rattle.model.specs.Run.{State, run, start}
use Rattle.model.specs.Claim.{Delivered, Enough, Opened, Holds, Converges, Full}
use Rattle.model.specs.Consequences.{OneOrder}
use Rattle.model.specs.Marked.{lent}
use Rattle.model.specs.Wrong.{leaving, repeating, unsubtracted, first_only, refusing, miscounting, forgiving, listening, early, frozen, by_line, other_ranks, by_sender, by_message, arrived_twice, gone_shown, uncarried, carried_past_arrived, showing_as, turning, mirroring, Refuted, goes_on, going_on, forgetting}
use Rattle.model.proofs.Ranks.{line_ranking}
use Rattle.model.proofs.Ranges.{short}
use Rattle.model.proofs.Opens.{client_asks, server_asks, client_opens, server_opens}
use Rattle.model.proofs.Computing.{computing}

-- A sheet that converges opens with up to eight clients, any ranking and an empty list.
opened : (S : Sheet) → Converges S → (n : ℕ) → 1 ≤ n → n ≤ 8 → (ranks : List ℕ) → ranking n ranks ≡ true → Opened S n ranks []
opened S c n a b ranks r =
    record {
      numbers = unfold computing in refl;
      server = c.opens_server n ranks [] (unfold computing in refl) ∙ server_asks n ranks [] a b (omega arith) r;
      clients = λ l lo hi. c.opens_client n l ranks [] (unfold computing in refl) ∙ client_asks n l ranks [] a b lo hi (omega arith) r;
    }

-- what it then claims of a list of calls at a sheet with one client, with two, with three; and with two where client 2 has rank 1
lined : (S : Sheet) → Converges S → (n : ℕ) → 1 ≤ n → n ≤ 8 → (calls : List Call) → Holds S n (run S n (start S n (line_ranks n) []) calls)
lined S c n a b calls = c.holds n (line_ranks n) [] (opened S c n a b (line_ranks n) (line_ranking n)) calls

one : (S : Sheet) → Converges S → (calls : List Call) → Holds S 1 (run S 1 (start S 1 (line_ranks 1) []) calls)
one S c = lined S c 1 (omega arith) (omega arith)

two : (S : Sheet) → Converges S → (calls : List Call) → Holds S 2 (run S 2 (start S 2 (line_ranks 2) []) calls)
two S c = lined S c 2 (omega arith) (omega arith)

three : (S : Sheet) → Converges S → (calls : List Call) → Holds S 3 (run S 3 (start S 3 (line_ranks 3) []) calls)
three S c = lined S c 3 (omega arith) (omega arith)

abbrev turned : List ℕ
turned = 2 ∷ 1 ∷ []

two_turned : (S : Sheet) → Converges S → (calls : List Call) → Holds S 2 (run S 2 (start S 2 turned []) calls)
two_turned S c calls = c.holds 2 turned [] (opened S c 2 (omega arith) (omega arith) turned (unfold computing in refl)) calls

nil_cons : {A : Type 0} {x : A} {xs : List A} → [] ≡ x ∷ xs → ⊥
nil_cons e = let z : ◌≡◌ {A = ℕ} 0 1 = cc in omega arith

heads : {A : Type 0} {x y : A} {xs ys : List A} → x ∷ xs ≡ y ∷ ys → x ≡ y
heads e = cc

tails : {A : Type 0} {x y : A} {xs ys : List A} → x ∷ xs ≡ y ∷ ys → xs ≡ ys
tails e = cc

-- of two lists that are the same the first items, and their makers' lines and numbers
items : {p q : Place} {l k : List Place} → p ∷ l ≡ q ∷ k → p.item ≡ q.item
items e = ap (λ (p : Place). p.item) (heads e)

makers : {p q : Place} {l k : List Place} → p ∷ l ≡ q ∷ k → p.origin.line ≡ q.origin.line
makers e = ap (λ (p : Place). p.origin.line) (heads e)

numbers : {p q : Place} {l k : List Place} → p ∷ l ≡ q ∷ k → p.origin.number ≡ q.origin.number
numbers e = ap (λ (p : Place). p.origin.number) (heads e)

-- of two lists of reports that are the same the position applied of each report
applied_at_lem : (i : ℕ) {ks js : List Report} → ks ≡ js → (get_or ks i no_report).applied ≡ (get_or js i no_report).applied
applied_at_lem i e = ap (λ (ks : List Report). (get_or ks i no_report).applied) e

-- two numbers that are not the same
differ : (a b : ℕ) → ltb a b ≡ true → a ≡ b → ⊥
differ a b l e = omega (arith, ltb-true a b l)

leaving_fails : Converges leaving → ⊥
unfolding computing
leaving_fails c = nil_cons ((one leaving c (insert 1 1 7 ∷ [])).lists 1 (omega arith))

repeating_fails : Converges repeating → ⊥
unfolding computing
repeating_fails c = nil_cons ((one repeating c (insert 1 1 7 ∷ [])).lists 1 (omega arith))

-- Item 7 is 7 seconds long.
unsubtracted_fails : Converges unsubtracted → ⊥
unfolding computing total_seconds
unsubtracted_fails c = differ 0 7 refl (sym ((one unsubtracted c (insert 1 1 7 ∷ delete 1 1 ∷ [])).totals 1 (omega arith)))

-- Client 1 has two edits pending when client 2's arrives: its place is 3, and 2 past the first alone.
crossed : List Call
crossed = insert 1 1 1 ∷ insert 1 1 2 ∷ insert 2 1 9 ∷ send 2 2 1 lent ∷ receive 0 0 ∷ send 0 1 1 lent ∷ receive 1 1 ∷ []

first_only_fails : Converges first_only → ⊥
unfolding crossed computing
first_only_fails c =
    let e = items (tails ((two first_only c crossed).lists 1 (omega arith))) in
    nine_one e
  where
    nine_one : ◌≡◌ {A = ℕ} 9 1 → ⊥
    nine_one e = omega arith

-- 17 bytes are enough for any message
enough : (S : Sheet) (n : ℕ) {ranks : List ℕ} (s : State S ranks) (a l k : ℕ) → Enough S n s a l k lent
unfolding computing
enough S n s a l k = (refl, short (wire_message (edit_message s.recorded.history a l k)))

refusing_fails : Converges refusing → ⊥
unfolding computing
refusing_fails c =
    differ 0 4 refl
    (sym (((one refusing c (insert 1 1 7 ∷ [])).lines 1 (omega arith) (omega arith)).next_up lent (enough refusing 1 (run refusing 1 (start refusing 1 (line_ranks 1) []) (insert 1 1 7 ∷ [])) 1 1 1) (λ e. nil_cons (sym e)) (λ j a b o f. o (omega arith))).takes)

miscounting_fails : Converges miscounting → ⊥
unfolding computing
miscounting_fails c =
    differ 0 1 refl (sym (ap (λ (k : Report). k.passed) (heads (tails (one miscounting c (insert 1 1 7 ∷ send 1 1 1 lent ∷ receive 0 0 ∷ [])).reports))))

junk_taken_fails : Converges (forgiving 3) → ⊥
unfolding computing
junk_taken_fails c = differ 0 3 refl ((one (forgiving 3) c []).numbers (junk 1 []) refl)

-- a client takes its own message
misdirected_taken_fails : Converges (forgiving 4) → ⊥
unfolding computing
misdirected_taken_fails c = differ 0 4 refl ((one (forgiving 4) c (insert 1 1 7 ∷ send 1 1 1 lent ∷ [])).numbers (receive 1 0) refl)

repeat_taken_fails : Converges (forgiving 5) → ⊥
unfolding computing
repeat_taken_fails c = differ 0 5 refl ((one (forgiving 5) c (insert 1 1 7 ∷ send 1 1 1 lent ∷ receive 0 0 ∷ [])).numbers (receive 0 0) refl)

-- the second edit before the first
gap_taken_fails : Converges (forgiving 6) → ⊥
unfolding computing
gap_taken_fails c = differ 0 6 refl ((one (forgiving 6) c (insert 1 1 7 ∷ insert 1 1 8 ∷ send 1 1 2 lent ∷ [])).numbers (receive 0 0) refl)

-- Client 1's edit is sent before client 2's is taken, and acknowledged, there.
overtaken : List Call
overtaken = insert 1 1 7 ∷ send 1 1 1 lent ∷ insert 2 1 8 ∷ send 2 2 1 lent ∷ receive 0 1 ∷ send 0 1 1 lent ∷ receive 1 2 ∷ tell 1 1 lent ∷ receive 0 3 ∷ []

overtaken_taken_fails : Converges (forgiving 7) → ⊥
unfolding overtaken computing
overtaken_taken_fails c = differ 0 7 refl ((two (forgiving 7) c overtaken).numbers (receive 0 0) refl)

-- Client 2's edit reaches client 1 twice, the second time with client 1's own edit seen: that one is pending still.
twice : List Call
twice = insert 1 1 7 ∷ send 1 1 1 lent ∷ insert 2 1 8 ∷ send 2 2 1 lent ∷ receive 0 1 ∷ send 0 1 1 lent ∷ receive 1 2 ∷ receive 0 0 ∷ send 0 1 1 lent ∷ receive 1 3 ∷ []

listening_fails : Converges listening → ⊥
unfolding twice computing
listening_fails c = differ 0 13 refl (sym ((two listening c twice).numbers (send 1 1 1 lent) refl))

frozen_fails : Converges frozen → ⊥
unfolding computing
frozen_fails c = differ 0 9 refl (sym ((one frozen c []).numbers (insert 1 1 7) refl))

-- One edit is pending for client 2 when client 1's second goes up.
pending_one : List Call
pending_one = insert 1 1 7 ∷ send 1 1 1 lent ∷ receive 0 0 ∷ insert 1 1 8 ∷ []

early_full : (j : ℕ) → j ≡ 2 → Full (early 1) 2 (run (early 1) 2 (start (early 1) 2 (line_ranks 2) []) pending_one) j → ⊥
unfolding pending_one computing
early_full j e f = differ 1 64 refl (rw e at f)

early_fails : Converges (early 1) → ⊥
unfolding pending_one computing
early_fails c =
    differ 0 12 refl
    (sym (((two (early 1) c pending_one).lines 1 (omega arith) (omega arith)).next_up lent (enough (early 1) 2 (run (early 1) 2 (start (early 1) 2 (line_ranks 2) []) pending_one) 1 1 2) (λ e. nil_cons (sym e)) (λ j a b o f. early_full j (omega arith) f)).takes)

-- Client 1 inserts and deletes in turn, and the server takes each edit: 63 are pending for client 2 when the next goes up.
turns : ℕ → ℕ → List Call → List Call
turns zero i rest = rest
turns (suc k) i rest =
    insert 1 1 7 ∷ send 1 1 (i + 1) lent ∷ receive 0 i ∷ delete 1 1 ∷ send 1 1 (i + 2) lent ∷ receive 0 (i + 1) ∷ turns k (i + 2) rest

pending63 : List Call
unfolding turns
pending63 = turns 31 0 (insert 1 1 7 ∷ send 1 1 63 lent ∷ receive 0 62 ∷ delete 1 1 ∷ [])

-- where the calls leave it
after63 : State (early 63) (line_ranks 2)
after63 = run (early 63) 2 (start (early 63) 2 (line_ranks 2) []) pending63

nearly_full : Full (early 63) 2 after63 2 → ⊥
unfolding after63 pending63 computing
nearly_full f = differ 63 64 refl f

nearly_untaken : after63.recorded.history.untaken 1 ≡ [] → ⊥
unfolding after63 pending63 computing
nearly_untaken e = nil_cons (sym e)

abbrev posted63 : Sent
posted63 = (early 63).send (after63.ends 1) 1 64 lent

nearly_refused : ((early 63).take (after63.ends 0) (take posted63.written posted63.buffer)).refusal ≡ 12
unfolding after63 pending63 computing
nearly_refused = refl

nearly_taken : (early 63).taken (after63.ends 0) 1 ≡ 63
unfolding after63 pending63 computing
nearly_taken = refl

nearly_fails : Converges (early 63) → ⊥
unfolding after63
nearly_fails c =
    let line = (two (early 63) c pending63).lines 1 (omega arith) (omega arith) in
    let taken =
    line.next_up lent (enough (early 63) 2 after63 1 1 (suc ((early 63).taken (after63.ends 0) 1))) nearly_untaken
    (λ j a b o. subst (λ (i : ℕ). Full (early 63) 2 after63 i → ⊥) {x = 2} {y = j} (omega arith) nearly_full) in
    differ 0 12 refl (sym (subst (λ (k : ℕ). Delivered (early 63) (after63.ends 1) (after63.ends 0) 1 (suc k) lent) nearly_taken taken).takes ∙ nearly_refused)

-- Clients 1 and 2 insert at one place, and client 1 takes client 2's: it belongs before its own.
tied : List Call
tied = insert 1 1 7 ∷ insert 2 1 8 ∷ send 2 2 1 lent ∷ receive 0 0 ∷ send 0 1 1 lent ∷ receive 1 1 ∷ []

by_line_fails : Converges by_line → ⊥
unfolding tied computing
by_line_fails c = differ 7 8 refl (items ((two_turned by_line c tied).lists 1 (omega arith)))

-- The server turns client 1's insert down: there line 1 has rank 1.
other_ranks_fails : Converges other_ranks → ⊥
unfolding computing
other_ranks_fails c = differ 0 4 refl (sym ((two_turned other_ranks c (insert 1 1 7 ∷ send 1 1 1 lent ∷ [])).numbers (receive 0 0) refl))

-- Client 1 takes client 2's insert.
arrived : List Call
arrived = insert 2 1 8 ∷ send 2 2 1 lent ∷ receive 0 0 ∷ send 0 1 1 lent ∷ receive 1 1 ∷ []

by_sender_fails : Converges by_sender → ⊥
unfolding arrived computing
by_sender_fails c = differ 1 2 refl (makers ((two by_sender c arrived).lists 1 (omega arith)))

-- Client 3 takes client 2's insert and then client 1's: number 2 on its line, and the first that client 1 made. With two clients both numbers are the same.
relayed : List Call
relayed =
    insert 2 1 8 ∷ send 2 2 1 lent ∷ receive 0 0 ∷ insert 1 1 7 ∷ send 1 1 1 lent ∷ receive 0 1
    ∷ send 0 3 1 lent ∷ receive 3 2 ∷ send 0 3 2 lent ∷ receive 3 3 ∷ []

by_message_fails : Converges by_message → ⊥
unfolding relayed computing
by_message_fails c = differ 1 2 refl (sym (numbers ((three by_message c relayed).lists 3 (omega arith))))

-- Clients 1 and 2 insert at one place: client 2's insert arrives at client 1 in position 1, and is applied in 2.
arrived_twice_fails : Converges arrived_twice → ⊥
unfolding tied computing
arrived_twice_fails c = differ 1 2 refl (applied_at_lem 3 (two arrived_twice c tied).reports)

-- Clients 1 and 2 delete one item, and client 1 takes client 2's delete: it arrives in position 1, and is gone.
deleted_twice : List Call
deleted_twice =
    insert 1 1 7 ∷ send 1 1 1 lent ∷ receive 0 0 ∷ send 0 2 1 lent ∷ receive 2 1 ∷ delete 1 1 ∷ delete 2 1
    ∷ send 2 2 1 lent ∷ receive 0 2 ∷ send 0 1 1 lent ∷ receive 1 3 ∷ []

gone_shown_fails : Converges gone_shown → ⊥
unfolding deleted_twice computing
gone_shown_fails c = differ 0 1 refl (sym (applied_at_lem 6 (two gone_shown c deleted_twice).reports))

-- Client 1 then takes its insert back: client 2's step is left.
taken_back : List Call
unfolding tied
taken_back = tied ++ (take_back 1 ∷ [])

-- Where client 2's step stands before client 1's, that has moved: at its old place client 2's is deleted.
uncarried_fails : Converges uncarried → ⊥
unfolding taken_back computing
uncarried_fails c = differ 7 8 refl (items ((two_turned uncarried c taken_back).lists 1 (omega arith)))

-- Client 2's step arrives in position 1, and stands behind client 1's: that has not moved.
carried_past_arrived_fails : Converges carried_past_arrived → ⊥
unfolding taken_back computing
carried_past_arrived_fails c = differ 7 8 refl (items ((two carried_past_arrived c taken_back).lists 1 (omega arith)))

-- one client, whatever it shows
showing_open : (usual : List Place → List Place) (inserted : List Place → List Place → List Place) → Opened (showing_as usual inserted) 1 (line_ranks 1) []
showing_open usual inserted =
    record {
      numbers = unfold computing in refl;
      server = ap (λ (a : Answer Server). a.refusal) (server_opens 1 (line_ranks 1) [] (omega arith) (omega arith) (omega arith) (line_ranking 1));
      clients = λ l lo hi. ap (λ (a : Answer Client). a.refusal) (client_opens 1 l (line_ranks 1) [] (omega arith) (omega arith) lo hi (omega arith) (line_ranking 1));
    }

-- Client 1 inserts three steps, and shows them from the last to the first; it deletes the third, and shows the first before the second.
turning_fails : OneOrder turning → ⊥
unfolding computing
turning_fails c =
    true≢false
    (c 1 (line_ranks 1) [] (showing_open (λ own. own) (λ before own. reverse own)) (insert 1 1 7 ∷ insert 1 2 8 ∷ insert 1 3 9 ∷ []) (delete 1 3 ∷ []) 1 1 (omega arith) (omega arith)
    1 2 1 0 (record { here = omega arith; there = omega arith; origin = refl }) (record { here = omega arith; there = omega arith; origin = refl }))

-- Client 1 inserts two steps, and the server takes them: the client shows the second first.
mirroring_fails : OneOrder mirroring → ⊥
unfolding computing
mirroring_fails c =
    true≢false
    (c 1 (line_ranks 1) [] (showing_open reverse (λ before own. reverse own)) (insert 1 1 7 ∷ insert 1 2 8 ∷ send 1 1 1 lent ∷ receive 0 0 ∷ send 1 1 2 lent ∷ receive 0 1 ∷ []) [] 1 0 (omega arith) (omega arith)
    0 1 1 0 (record { here = omega arith; there = omega arith; origin = refl }) (record { here = omega arith; there = omega arith; origin = refl }))

-- Client 1 makes two edits. The server gets a packet of the first message twice and the second: the repeat is refused, and ends the packet.
repeated : List Call
repeated = insert 1 1 7 ∷ insert 1 1 8 ∷ send 1 1 1 lent ∷ send 1 1 2 lent ∷ []

going_on_fails : Converges going_on → ⊥
unfolding repeated computing goes_on
going_on_fails c = differ 1 2 refl (sym (ap (λ (k : Report). k.passed) ((one going_on c repeated).packets 0 (0 ∷ 0 ∷ 1 ∷ []) [] refl)))

forgetting_fails : Converges forgetting → ⊥
unfolding repeated computing
forgetting_fails c = differ 0 1 refl (ap (λ (k : Report). k.passed) ((one forgetting c repeated).packets 0 (0 ∷ 0 ∷ 1 ∷ []) [] refl))

pub refuted : Refuted
refuted =
    record {
      leaving_fails = leaving_fails;
      repeating_fails = repeating_fails;
      unsubtracted_fails = unsubtracted_fails;
      first_only_fails = first_only_fails;
      refusing_fails = refusing_fails;
      miscounting_fails = miscounting_fails;
      junk_taken_fails = junk_taken_fails;
      misdirected_taken_fails = misdirected_taken_fails;
      repeat_taken_fails = repeat_taken_fails;
      gap_taken_fails = gap_taken_fails;
      overtaken_taken_fails = overtaken_taken_fails;
      listening_fails = listening_fails;
      early_fails = early_fails;
      nearly_fails = nearly_fails;
      frozen_fails = frozen_fails;
      by_line_fails = by_line_fails;
      other_ranks_fails = other_ranks_fails;
      by_sender_fails = by_sender_fails;
      by_message_fails = by_message_fails;
      arrived_twice_fails = arrived_twice_fails;
      gone_shown_fails = gone_shown_fails;
      uncarried_fails = uncarried_fails;
      carried_past_arrived_fails = carried_past_arrived_fails;
      going_on_fails = going_on_fails;
      forgetting_fails = forgetting_fails;
      turning_fails = turning_fails;
      mirroring_fails = mirroring_fails;
    }
