-- The counts of a line begin at its start; `whole` counts from the first opening list instead, as the grid does. Every call does the same in
-- both counts, so each step of `Step` is a step in the ends' own counts.
use Prim.Native.Nat.{ℕ, suc, ◌+◌, ◌-◌, ◌≤◌, ◌<◌}
use native.Mathlib.Nat.{zero-add, add-zero}
use native.Mathlib.Omega.{arith}
use mathlib.Core.Path.{◌≡◌, refl, sym, ap, ◌∙◌, subst}
use mathlib.Core.Bool.{Bool, true, false, cond}
use mathlib.Core.List.{[]}
use lib.Dec.{T, eqb}
use lib.ListN.{length, get_or, drop}
use Rattle.jupiter.specs.Algebra.{Algebra, Laws}
use Rattle.jupiter.specs.History.{at, History, made_by, new_name, after_edit, after_up, after_down, after_join}
use Rattle.jupiter.specs.Ends.{past, over, End, EditMessage, Ends, fresh, keeps, unacked, acks, takes, arrived, message, editing, taking_up, taking_down, acking_up, acking_down, joining}
use Rattle.jupiter.specs.Run.{Message, up, down, up_ack, down_ack, line_of}
use Rattle.jupiter.proofs.Grid.{eqb_eq}
use Rattle.jupiter.proofs.World.{Inv}
use Rattle.jupiter.proofs.Step as S
use Rattle.jupiter.proofs.Step.{Step, UpMessage, DownMessage}
use Rattle.jupiter.proofs.Join as J
use Rattle.jupiter.proofs.Join.{client_at, server_at, joined}

module _ {𝓐 : Algebra} where
  -- of a line that starts behind s edits: its ends, and the messages on it
  abbrev pub whole_client : ℕ → End 𝓐 → End 𝓐
  whole_client s c = record { made = c.made; taken = s + c.taken; acked = c.acked; pending = c.pending }

  abbrev pub whole_server : ℕ → End 𝓐 → End 𝓐
  whole_server s v = record { made = s + v.made; taken = v.taken; acked = s + v.acked; pending = v.pending }

  abbrev pub whole_up : ℕ → EditMessage 𝓐 → EditMessage 𝓐
  whole_up s m = record { number = m.number; seen = s + m.seen; edit = m.edit }

  abbrev pub whole_down : ℕ → EditMessage 𝓐 → EditMessage 𝓐
  whole_down s m = record { number = s + m.number; seen = m.seen; edit = m.edit }

  abbrev pub whole_message : (ℕ → ℕ) → Message 𝓐 → Message 𝓐
  whole_message start (up l m) = up l (whole_up (start l) m)
  whole_message start (down l m) = down l (whole_down (start l) m)
  whole_message start (up_ack l seen) = up_ack l (start l + seen)
  whole_message start (down_ack l seen) = down_ack l seen

  abbrev pub whole : (ℕ → ℕ) → Ends 𝓐 → Ends 𝓐
  whole start E =
      record {
        doc = E.doc;
        lines = λ l. whole_server (start l) (E.lines l);
        docs = E.docs;
        clients = λ l. whole_client (start l) (E.clients l);
      }

  -- a start on another line is nothing to a message
  pub message_same : (l n : ℕ) (start : ℕ → ℕ) (x : Message 𝓐) → eqb l (line_of x) ≡ false → whole_message (at l n start) x ≡ whole_message start x
  message_same l n start (up k m) q = ap (λ b. up k (whole_up (cond b n (start k)) m)) q
  message_same l n start (down k m) q = ap (λ b. down k (whole_down (cond b n (start k)) m)) q
  message_same l n start (up_ack k seen) q = ap (λ b. up_ack k (cond b n (start k) + seen)) q
  message_same l n start (down_ack k seen) q = refl

  -- lines that are there from the opening
  pub whole_none : (E : Ends 𝓐) → whole (λ l. 0) E ≡ E
  whole_none E i =
      record {
        doc = E.doc;
        lines = λ l. record {
          made = zero-add (E.lines l).made i;
          taken = (E.lines l).taken;
          acked = zero-add (E.lines l).acked i;
          pending = (E.lines l).pending;
        };
        docs = E.docs;
        clients = λ l. record {
          made = (E.clients l).made;
          taken = zero-add (E.clients l).taken i;
          acked = (E.clients l).acked;
          pending = (E.clients l).pending;
        };
      }

  -- ---- one end
  pub unacked_whole : (s : ℕ) (v : End 𝓐) (seen : ℕ) → unacked (whole_server s v) (s + seen) ≡ unacked v seen
  unacked_whole s v seen = ap (λ k. drop k v.pending) (same s seen v.acked)
    where
      same : (s a b : ℕ) → s + a - (s + b) ≡ a - b
      same s a b = omega arith

  pub arrived_whole : (s : ℕ) (m : EditMessage 𝓐) (v : End 𝓐) → arrived (whole_up s m) (whole_server s v) ≡ arrived m v
  arrived_whole s m v = ap (past 𝓐 m.edit) (unacked_whole s v m.seen)

  pub message_whole : (s k : ℕ) (v : End 𝓐) → message (s + k) (whole_server s v) ≡ whole_down s (message k v)
  message_whole s k v i =
      record {
        number = s + k;
        seen = v.taken;
        edit = ap (λ j. get_or v.pending j 𝓐.nothing) (same s k v.acked) i;
      }
    where
      same : (s k a : ℕ) → s + k - suc (s + a) ≡ k - suc a
      same s k a = omega arith

  keeps_whole : (s : ℕ) (e : 𝓐.Edit) (v : End 𝓐) → keeps e (whole_server s v) ≡ whole_server s (keeps e v)
  keeps_whole s e v i =
      record { made = more s v.made i; taken = v.taken; acked = s + v.acked; pending = (keeps e v).pending }
    where
      more : (s m : ℕ) → suc (s + m) ≡ s + suc m
      more s m = omega arith

  acks_whole : (s seen : ℕ) (v : End 𝓐) → acks (s + seen) (whole_server s v) ≡ whole_server s (acks seen v)
  acks_whole s seen v i =
      record { made = s + v.made; taken = v.taken; acked = s + seen; pending = unacked_whole s v seen i }

  takes_whole_server : (s : ℕ) (m : EditMessage 𝓐) (v : End 𝓐) → takes (whole_up s m) (whole_server s v) ≡ whole_server s (takes m v)
  takes_whole_server s m v i =
      record { made = s + v.made; taken = suc v.taken; acked = s + m.seen; pending = over 𝓐 m.edit (unacked_whole s v m.seen i) }

  takes_whole_client : (s : ℕ) (m : EditMessage 𝓐) (c : End 𝓐) → takes (whole_down s m) (whole_client s c) ≡ whole_client s (takes m c)
  takes_whole_client s m c i =
      record { made = c.made; taken = more s c.taken i; acked = m.seen; pending = (takes m c).pending }
    where
      more : (s t : ℕ) → suc (s + t) ≡ s + suc t
      more s t = omega arith

  -- ---- all ends, line l replaced
  at_whole : (f : ℕ → End 𝓐 → End 𝓐) (l : ℕ) (u x : End 𝓐) (us xs : ℕ → End 𝓐) → u ≡ f l x → ((k : ℕ) → us k ≡ f k (xs k)) → (k : ℕ) → at l u us k ≡ f k (at l x xs k)
  at_whole f l u x us xs e es k = go (eqb l k) refl
    where
      go : (b : Bool) → eqb l k ≡ b → cond b u (us k) ≡ f k (cond b x (xs k))
      go true q = e ∙ ap (λ j. f j x) (eqb_eq l k q)
      go false q = es k

  module _ (start : ℕ → ℕ) (E : Ends 𝓐) where
    abbrev A : Ends 𝓐
    A = whole start E

    abbrev servers : ℕ → End 𝓐 → End 𝓐
    servers k v = whole_server (start k) v

    abbrev clients : ℕ → End 𝓐 → End 𝓐
    clients k c = whole_client (start k) c

    editing_whole : (l : ℕ) (e : 𝓐.Edit) → editing l e A ≡ whole start (editing l e E)
    editing_whole l e i =
        record {
          doc = E.doc;
          lines = A.lines;
          docs = (editing l e E).docs;
          clients = λ k. at_whole clients l (keeps e (A.clients l)) (keeps e (E.clients l)) A.clients E.clients refl (λ j. refl) k i;
        }

    taking_up_whole : (l : ℕ) (m : EditMessage 𝓐) → taking_up l (whole_up (start l) m) A ≡ whole start (taking_up l m E)
    taking_up_whole l m =
        let x = arrived m (E.lines l) in
        let is : arrived (whole_up (start l) m) (A.lines l) ≡ x = arrived_whole (start l) m (E.lines l) in
        λ i. record {
          doc = 𝓐.apply (is i) E.doc;
          lines = λ k. at_whole servers l (takes (whole_up (start l) m) (A.lines l)) (takes m (E.lines l)) (λ j. keeps (arrived (whole_up (start l) m) (A.lines l)) (A.lines j)) (λ j. keeps x (E.lines j))
              (takes_whole_server (start l) m (E.lines l)) (λ j. ap (λ e. keeps e (A.lines j)) is ∙ keeps_whole (start j) x (E.lines j)) k i;
          docs = E.docs;
          clients = A.clients;
        }

    taking_down_whole : (l : ℕ) (m : EditMessage 𝓐) → taking_down l (whole_down (start l) m) A ≡ whole start (taking_down l m E)
    taking_down_whole l m i =
        record {
          doc = E.doc;
          lines = A.lines;
          docs = (taking_down l m E).docs;
          clients = λ k. at_whole clients l (takes (whole_down (start l) m) (A.clients l)) (takes m (E.clients l)) A.clients E.clients (takes_whole_client (start l) m (E.clients l)) (λ j. refl) k i;
        }

    acking_up_whole : (l seen : ℕ) → acking_up l (start l + seen) A ≡ whole start (acking_up l seen E)
    acking_up_whole l seen i =
        record {
          doc = E.doc;
          lines = λ k. at_whole servers l (acks (start l + seen) (A.lines l)) (acks seen (E.lines l)) A.lines E.lines (acks_whole (start l) seen (E.lines l)) (λ j. refl) k i;
          docs = E.docs;
          clients = A.clients;
        }

    acking_down_whole : (l seen : ℕ) → acking_down l seen A ≡ whole start (acking_down l seen E)
    acking_down_whole l seen i =
        record {
          doc = E.doc;
          lines = A.lines;
          docs = E.docs;
          clients = λ k. at_whole clients l (acks seen (A.clients l)) (acks seen (E.clients l)) A.clients E.clients refl (λ j. refl) k i;
        }

    joining_whole : (l : ℕ) (h : History 𝓐) → joined l h A ≡ whole (at l (length h.served) start) (joining l E)
    joining_whole l h i =
        record {
          doc = E.doc;
          lines = λ k. lines' k (eqb l k) i;
          docs = (joining l E).docs;
          clients = λ k. clients' k (eqb l k) i;
        }
      where
        n : ℕ
        n = length h.served

        lines' : (k : ℕ) (b : Bool) → cond b (server_at n) (A.lines k) ≡ whole_server (cond b n (start k)) (cond b fresh (E.lines k))
        lines' k true = λ j. record { made = sym (add-zero n) j; taken = 0; acked = sym (add-zero n) j; pending = [] }
        lines' k false = refl

        clients' : (k : ℕ) (b : Bool) → cond b (client_at n) (A.clients k) ≡ whole_client (cond b n (start k)) (cond b fresh (E.clients k))
        clients' k true = λ j. record { made = 0; taken = sym (add-zero n) j; acked = 0; pending = [] }
        clients' k false = refl

module _ {𝓐 : Algebra} (d : 𝓐.Doc) where
  pub from_opening : (E : Ends 𝓐) (h : History 𝓐) → Inv d E h → Inv d (whole (λ l. 0) E) h
  from_opening E h inv = subst (λ A. Inv d A h) (sym (whole_none E)) inv

  -- ---- the steps
  module _ (start : ℕ → ℕ) (E : Ends 𝓐) (h : History 𝓐) (inv : Inv d (whole start E) h) where
    -- a step of the ends, in their own counts
    abbrev pub Goes : Ends 𝓐 → History 𝓐 → Type 0
    Goes E' h' = Step d (whole start E) h (whole start E') h'

    pub step_edit : Laws 𝓐 → (l : ℕ) (e : 𝓐.Edit) → T (𝓐.by (new_name h l) e) → T (𝓐.fits e (E.docs l)) → Goes (editing l e E) (after_edit l e h)
    step_edit laws l e bears ok =
        subst (λ X. Step d (whole start E) h X (after_edit l e h)) (editing_whole start E l e) (S.step_edit d laws (whole start E) h inv l e bears ok)

    pub step_up : Laws 𝓐 → (l : ℕ) (m : EditMessage 𝓐) → UpMessage d (whole start E) h l (whole_up (start l) m) → m.number ≡ suc (E.lines l).taken → (E.lines l).acked ≤ m.seen
        → Goes (taking_up l m E) (after_up l h)
    step_up laws l m ok next cur =
        subst (λ X. Step d (whole start E) h X (after_up l h)) (taking_up_whole start E l m) (S.step_up d laws (whole start E) h inv l (whole_up (start l) m) ok next (omega arith))

    pub step_down : (l : ℕ) (m : EditMessage 𝓐) → DownMessage d (whole start E) h l (whole_down (start l) m) → m.number ≡ suc (E.clients l).taken → (E.clients l).acked ≤ m.seen
        → Goes (taking_down l m E) (after_down l h)
    step_down l m ok next cur =
        subst (λ X. Step d (whole start E) h X (after_down l h)) (taking_down_whole start E l m) (S.step_down d (whole start E) h inv l (whole_down (start l) m) ok (omega arith) cur)

    pub step_ack_up : (l seen : ℕ) → (E.lines l).acked ≤ seen → start l + seen ≤ start l + (E.clients l).taken → Goes (acking_up l seen E) h
    step_ack_up l seen a b =
        subst (λ X. Step d (whole start E) h X h) (acking_up_whole start E l seen) (S.step_ack_up d (whole start E) h inv l (start l + seen) (omega arith) b)

    pub step_ack_down : (l seen : ℕ) → (E.clients l).acked ≤ seen → seen ≤ (E.lines l).taken → Goes (acking_down l seen E) h
    step_ack_down l seen a b =
        subst (λ X. Step d (whole start E) h X h) (acking_down_whole start E l seen) (S.step_ack_down d (whole start E) h inv l seen a b)

    -- line l starts anew
    pub step_join : (l : ℕ) → made_by h l ≡ 0 → Step d (whole start E) h (whole (at l (length h.served) start) (joining l E)) (after_join l h)
    step_join l none_made =
        subst (λ X. Step d (whole start E) h X (after_join l h)) (joining_whole start E l h) (J.step_join d (whole start E) h inv l none_made)

    -- ---- what is sent
    pub up_message : (l k : ℕ) → (E.clients l).acked < k → k ≤ (E.clients l).made → UpMessage d (whole start E) h l (whole_up (start l) (message k (E.clients l)))
    up_message l k a b = S.up_message d (whole start E) h inv l k a b

    pub down_message : (l k : ℕ) → (E.lines l).acked < k → k ≤ (E.lines l).made → DownMessage d (whole start E) h l (whole_down (start l) (message k (E.lines l)))
    down_message l k a b =
        subst (DownMessage d (whole start E) h l) (message_whole (start l) k (E.lines l)) (S.down_message d (whole start E) h inv l (start l + k) (omega arith) (omega arith))
