-- Lists of calls: each call is a step, so that what holds between calls holds at the end of every run.
use Prim.Native.Nat.{ℕ, zero, suc, ◌≤◌, ◌<◌}
use native.Mathlib.Nat.{le_refl, le_trans}
use mathlib.Core.Path.{◌≡◌, refl, sym, subst}
use mathlib.Core.Bool.{Bool, true, false, not, cond, ◌&&◌}
use mathlib.Core.Option.{Option, none, some, none-ne-some, some-injective}
use mathlib.Core.List.{List, [], ◌∷◌}
use lib.Dec.{ltb, leb, eqb, leb→le, le→leb}
use lib.ListN.{length, get_elem?}
use Rattle.jupiter.specs.Algebra.{Algebra, Laws}
use Rattle.jupiter.specs.History.{History, order, made_by, new_name, after_edit, after_up, after_down, after_join}
use Rattle.jupiter.specs.Ends.{End, EditMessage, Ends, can_send, message, current, can_take, editing, taking_up, taking_down, acking_up, acking_down}
use Rattle.jupiter.specs.Run.{Message, up, down, up_ack, down_ack, Call, edit, send_up, send_down, tell_up, tell_down, deliver, join, State, initial, writes, goes, line_of, silent, unused, joins, receive, step, run}
use Rattle.jupiter.proofs.Lists.{All, all_append, all_map, not_true}
use Rattle.jupiter.proofs.Grid.{is_true, to_T, eqb_eq, ltb_lt, by_line_lem}
use Rattle.jupiter.proofs.World.{Inv}
use Rattle.jupiter.proofs.Step.{Later, later_refl, later_trans, Step, opens, UpMessage, DownMessage, up_later, down_later}
use Rattle.jupiter.proofs.Start.{whole, whole_message, message_same, from_opening, step_edit, step_up, step_down, step_ack_up, step_ack_down, step_join, up_message, down_message}
use Rattle.jupiter.proofs.Opening.{Longer, longer_refl, longer_edit, longer_up, longer_down, Opening, opening_first, opening_join, opening_later}
use Rattle.jupiter.proofs.Replay.{and_left, and_right}

pub leb_true : (m n : ℕ) → m ≤ n → leb m n ≡ true
leb_true m n h = is_true (leb m n) (le→leb m n h)

pub leb_le : (m n : ℕ) → leb m n ≡ true → m ≤ n
leb_le m n e = leb→le m n (to_T _ e)

module _ {𝓐 : Algebra} where
  -- the ends of a state, with all counts from the first opening list
  abbrev pub whole_ends : State 𝓐 → Ends 𝓐
  whole_ends s = whole s.start s.ends

-- what the tests of a call have found
module _ {𝓐 : Algebra} where
  is_current : (seen : ℕ) (v : End 𝓐) → current seen v ≡ true → v.acked ≤ seen
  is_current seen v e = leb_le _ _ (and_left (leb v.acked seen) (leb seen v.made) e)

  can_take_lem : (m : EditMessage 𝓐) (v : End 𝓐) → can_take m v ≡ true → (m.number ≡ suc v.taken) × (v.acked ≤ m.seen)
  can_take_lem m v e =
      let next = eqb m.number (suc v.taken) in
      (eqb_eq _ _ (and_left next (current m.seen v) e), is_current m.seen v (and_right next (current m.seen v) e))

  can_send_lem : (k : ℕ) (v : End 𝓐) → can_send k v ≡ true → (v.acked < k) × (k ≤ v.made)
  can_send_lem k v e = (ltb_lt _ _ (and_left (ltb v.acked k) (leb k v.made) e), leb_le _ _ (and_right (ltb v.acked k) (leb k v.made) e))

module _ {𝓐 : Algebra} (d : 𝓐.Doc) where
  -- a message may be taken at any time
  abbrev pub Fine : Ends 𝓐 → History 𝓐 → Message 𝓐 → Type 0
  Fine E h (up l m) = UpMessage d E h l m
  Fine E h (down l m) = DownMessage d E h l m
  Fine E h (up_ack l s) = s ≤ (E.clients l).taken
  Fine E h (down_ack l s) = s ≤ (E.lines l).taken

  pub fine_later : (E : Ends 𝓐) (h : History 𝓐) (E' : Ends 𝓐) (h' : History 𝓐) → Inv d E h → Later E h E' h' → (x : Message 𝓐) → Fine E h x → Fine E' h' x
  fine_later E h E' h' inv f (up l m) ok = up_later d E h E' h' inv f l m ok
  fine_later E h E' h' inv f (down l m) ok = down_later d E h E' h' inv f l m ok
  fine_later E h E' h' inv f (up_ack l s) ok = le_trans ok (f.c_later l)
  fine_later E h E' h' inv f (down_ack l s) ok = le_trans ok (f.v_later l)

  abbrev FineIn : State 𝓐 → Message 𝓐 → Type 0
  FineIn s x = Fine (whole_ends s) s.history (whole_message s.start x)

  pub record Reached (s : State 𝓐) : Type 0 where
    pub inv : Inv d (whole_ends s) s.history
    pub fine : All (λ x. Fine (whole_ends s) s.history (whole_message s.start x)) s.messages
    pub openings : (l : ℕ) → Opening d (order s.history l) s.history.served (s.history.applied l) (s.start l)

  pub record Onward (s s' : State 𝓐) : Type 0 where
    pub reached : Reached s'
    pub later : Later (whole_ends s) s.history (whole_ends s') s'.history

  stays : (s : State 𝓐) → Reached s → Onward s s
  stays s r = record { reached = r; later = later_refl (whole_ends s) s.history }

  -- a call that its test skips leaves everything as it is
  allowed : (s : State 𝓐) → Reached s → (b : Bool) (s' : State 𝓐) → (b ≡ true → Onward s s') → Onward s (cond b s' s)
  allowed s r true s' f = f refl
  allowed s r false s' f = stays s r

  -- a step of the ends
  moves : (s : State 𝓐) → Reached s → (f : Ends 𝓐 → Ends 𝓐) (g : History 𝓐 → History 𝓐) → Longer s.history (g s.history)
      → Step d (whole_ends s) s.history (whole s.start (f s.ends)) (g s.history) → Onward s (goes f g s)
  moves s r f g longer t =
      record {
        reached = record {
          inv = t.inv;
          fine = all_map (FineIn s) (FineIn (goes f g s)) s.messages
              (λ x. fine_later (whole_ends s) s.history (whole_ends (goes f g s)) (g s.history) r.inv t.later (whole_message s.start x)) r.fine;
          openings = λ l. opening_later d s.start s.ends s.history r.inv l (r.openings l) (whole_ends (goes f g s)) (g s.history) t.later longer;
        };
        later = t.later;
      }

  -- a message more
  wrote : (s : State 𝓐) → Reached s → (x : Message 𝓐) → FineIn s x → Onward s (writes x s)
  wrote s r x ok =
      record {
        reached = record { inv = r.inv; fine = all_append (FineIn s) s.messages (x ∷ []) r.fine (ok, tt); openings = r.openings };
        later = later_refl (whole_ends s) s.history;
      }

  -- a client joins: no message is on its line, so that each message reads as before
  joined_ok : (s : State 𝓐) → Reached s → (l : ℕ) → unused l s ≡ true → Onward s (joins l s)
  unfolding silent
  joined_ok s r l e =
      record {
        reached = record {
          inv = t.inv;
          fine = messages s.messages (and_right (eqb (made_by s.history l) 0) (silent l s.messages) e) r.fine;
          openings = by_line_lem l
              (λ k b. Opening d (order s.history k) s.history.served (cond b s.history.served (s.history.applied k)) (cond b n (s.start k)))
              (opening_join d (whole_ends s) s.history r.inv l none_made) (λ k q. r.openings k);
        };
        later = t.later;
      }
    where
      n : ℕ
      n = length s.history.served

      none_made : made_by s.history l ≡ 0
      none_made = eqb_eq (made_by s.history l) 0 (and_left (eqb (made_by s.history l) 0) (silent l s.messages) e)

      t : Step d (whole_ends s) s.history (whole_ends (joins l s)) (after_join l s.history)
      t = step_join d s.start s.ends s.history r.inv l none_made

      messages : (xs : List (Message 𝓐)) → silent l xs ≡ true → All (FineIn s) xs → All (FineIn (joins l s)) xs
      messages [] q ok = tt
      messages (x ∷ xs) q ok = (
        subst (Fine (whole_ends (joins l s)) (after_join l s.history)) (sym (message_same l n s.start x (not_true _ (and_left (not (eqb l (line_of x))) (silent l xs) q))))
            (fine_later (whole_ends s) s.history (whole_ends (joins l s)) (after_join l s.history) r.inv t.later (whole_message s.start x) ok.0),
        messages xs (and_right (not (eqb l (line_of x))) (silent l xs) q) ok.1,
      )

  pub all_get : (Q : Message 𝓐 → Type 0) (xs : List (Message 𝓐)) (i : ℕ) (x : Message 𝓐) → All Q xs → get_elem? xs i ≡ some x → Q x
  all_get Q [] i x h e = absurd (none-ne-some x e)
  all_get Q (y ∷ ys) zero x h e = subst Q (some-injective y x e) h.0
  all_get Q (y ∷ ys) (suc i) x h e = all_get Q ys i x h.1 e

  module _ (laws : Laws 𝓐) where
    receive_ok : (s : State 𝓐) → Reached s → (x : Message 𝓐) → FineIn s x → Onward s (receive (some x) s)
    unfolding receive
    receive_ok s r (up l m) ok =
        allowed s r (can_take m (s.ends.lines l)) _ (λ e. moves s r (taking_up l m) (after_up l) (longer_up l s.history)
        (step_up d s.start s.ends s.history r.inv laws l m ok (can_take_lem m (s.ends.lines l) e).0 (can_take_lem m (s.ends.lines l) e).1))
    receive_ok s r (down l m) ok =
        allowed s r (can_take m (s.ends.clients l)) _ (λ e. moves s r (taking_down l m) (after_down l) (longer_down l s.history)
        (step_down d s.start s.ends s.history r.inv l m ok (can_take_lem m (s.ends.clients l) e).0 (can_take_lem m (s.ends.clients l) e).1))
    receive_ok s r (up_ack l n) ok =
        allowed s r (current n (s.ends.lines l)) _ (λ e. moves s r (acking_up l n) (λ h. h) (longer_refl s.history)
        (step_ack_up d s.start s.ends s.history r.inv l n (is_current n (s.ends.lines l) e) ok))
    receive_ok s r (down_ack l n) ok =
        allowed s r (current n (s.ends.clients l)) _ (λ e. moves s r (acking_down l n) (λ h. h) (longer_refl s.history)
        (step_ack_down d s.start s.ends s.history r.inv l n (is_current n (s.ends.clients l) e) ok))

    pub step_ok : (s : State 𝓐) → Reached s → (call : Call 𝓐) → Onward s (step s call)
    unfolding step receive
    step_ok s r (edit l e) =
        let bears = 𝓐.by (new_name s.history l) e in
        let suits = 𝓐.fits e (s.ends.docs l) in
        allowed s r (bears && suits) _ (λ q. moves s r (editing l e) (after_edit l e) (longer_edit l e s.history)
        (step_edit d s.start s.ends s.history r.inv laws l e (to_T _ (and_left bears suits q)) (to_T _ (and_right bears suits q))))
    step_ok s r (send_up l k) =
        let c = s.ends.clients l in
        allowed s r (can_send k c) _ (λ q. wrote s r (up l (message k c)) (up_message d s.start s.ends s.history r.inv l k (can_send_lem k c q).0 (can_send_lem k c q).1))
    step_ok s r (send_down l k) =
        let v = s.ends.lines l in
        allowed s r (can_send k v) _ (λ q. wrote s r (down l (message k v)) (down_message d s.start s.ends s.history r.inv l k (can_send_lem k v q).0 (can_send_lem k v q).1))
    step_ok s r (tell_up l) = wrote s r (up_ack l (s.ends.clients l).taken) (le_refl _)
    step_ok s r (tell_down l) = wrote s r (down_ack l (s.ends.lines l).taken) (le_refl _)
    step_ok s r (deliver i) = go (get_elem? s.messages i) refl
      where
        go : (x : Option (Message 𝓐)) → get_elem? s.messages i ≡ x → Onward s (receive x s)
        go none e = stays s r
        go (some x) e = receive_ok s r x (all_get (FineIn s) s.messages i x r.fine e)
    step_ok s r (join l) = allowed s r (unused l s) _ (joined_ok s r l)

    pub run_ok : (cs : List (Call 𝓐)) (s : State 𝓐) → Reached s → Onward s (run s cs)
    unfolding run
    run_ok [] s r = stays s r
    run_ok (c ∷ cs) s r =
        let a = step_ok s r c in
        let b = run_ok cs (step s c) a.reached in
        record { reached = b.reached; later = later_trans _ _ _ _ _ _ a.later b.later }

    starts : Reached (initial d)
    starts = record { inv = from_opening d (initial d).ends (initial d).history (opens d); fine = tt; openings = λ l. opening_first d }

    pub reached_by : (cs : List (Call 𝓐)) → Reached (run (initial d) cs)
    reached_by cs = (run_ok cs (initial d) starts).reached
