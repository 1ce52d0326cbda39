-- A sheet that follows another, call by call, converges where the other does.
use mathlib.Core.Path.{◌≡◌, refl, ap, ap₂, sym, ◌∙◌, subst}
use mathlib.Core.Bool.{Bool, true, false, ◌&&◌, cond}
use mathlib.Core.Option.{Option, none, some}
use mathlib.Core.List.{List, [], ◌∷◌, ◌++◌, map}
use Prim.Native.Nat.{ℕ, zero, suc, ◌≤◌}
use native.Mathlib.Omega.{arith}
use lib.Dec.{eqb, leb, ltb}
use lib.ListN.{length, take, drop, get_elem?}
use borrow.Author.Tests.{leb-true}
use Rattle.list.specs.Places.{Place}
use Rattle.wire.specs.Bytes.{parsed}
use Rattle.jupiter.specs.Form.{replay}
use Rattle.jupiter.specs.History.{History, order, missing, at}
use Rattle.jupiter.specs.Origins.{Once}
use Rattle.model.specs.Limits.{max_packet}
use Rattle.model.specs.Questions.{Report, Answer, Sent, between}
use Rattle.model.specs.Packets.{next_size, messages_in, known, packet_from, counted, handed_over}
use Rattle.model.specs.Edits.{name_of, edits}
use Rattle.model.specs.Sheet.{Sheet, Call, insert, delete, take_back, send, tell, receive, pack, packet, junk}
use Rattle.model.specs.SheetOf.{ServerCalls}
use Rattle.model.specs.Log.{Log, log, took_packet}
use Rattle.model.specs.Run.{State, are_bytes, unreadable, callable, answered, written, handed, packet_of, packet_taken, call, handed_number, number_of, run, opened, start}
use Rattle.model.specs.Claim.{Delivered, Enough, OnLine, Holds, LeavesAlone, Opened, Converges}
use Rattle.model.proofs.Tests.{and_left, between_true}
use Rattle.model.proofs.Sound.{three}
use Rattle.model.proofs.Consequences.{consequences}
use Rattle.convergence.specs.Built.{Carried}
use Rattle.convergence.proofs.Ranks.{ranks_bytes}

pub record Alike {A B : Type 0} (R : A → B → Type 0) (a : Answer A) (b : Answer B) : Type 0 where
  pub refusal : a.refusal ≡ b.refusal
  pub report : a.report ≡ b.report
  pub ends : R a.end b.end

-- The calls that every end has are the server's. One end follows another if these answer alike wherever R relates the two.
pub record EndFollows (v w : ServerCalls) (R : v.Server → w.Server → Type 0) : Type 0 where
  pub items : (a : v.Server) (b : w.Server) → R a b → v.items a ≡ w.items b
  pub total : (a : v.Server) (b : w.Server) → R a b → v.total a ≡ w.total b
  pub made : (a : v.Server) (b : w.Server) → R a b → (l : ℕ) → v.made a l ≡ w.made b l
  pub taken : (a : v.Server) (b : w.Server) → R a b → (l : ℕ) → v.taken a l ≡ w.taken b l
  pub opens_refusal : (n : ℕ) (ranks xs : List ℕ) → (v.opens n ranks xs).refusal ≡ (w.opens n ranks xs).refusal
  pub opens : (n : ℕ) (ranks xs : List ℕ) → (w.opens n ranks xs).refusal ≡ 0 → R (v.opens n ranks xs).end (w.opens n ranks xs).end
  pub takes : (a : v.Server) (b : w.Server) → R a b → (bytes : List ℕ) → Alike R (v.take a bytes) (w.take b bytes)
  -- a packet that is too short or too long; any other is its messages handed over
  pub packets : (a : v.Server) (b : w.Server) → R a b → (bytes : List ℕ) → between 1 max_packet (length bytes) ≡ false → (v.take_packet a bytes).refusal ≡ (w.take_packet b bytes).refusal
  pub packs : (a : v.Server) (b : w.Server) → R a b → (l : ℕ) (lent : List ℕ) (offset : ℕ) → v.pack a l lent offset ≡ w.pack b l lent offset
  pub sends : (a : v.Server) (b : w.Server) → R a b → (l number : ℕ) (lent : List ℕ) → v.send a l number lent ≡ w.send b l number lent
  pub tells : (a : v.Server) (b : w.Server) → R a b → (l : ℕ) (lent : List ℕ) → v.tell a l lent ≡ w.tell b l lent

-- any end of a sheet, by these calls
abbrev pub any_end : Sheet → ServerCalls
any_end S =
    record { Server = S.End; items = S.items; total = S.total; made = S.made; taken = S.taken; opens = S.open_server; send = S.send; tell = S.tell; take = S.take; pack = S.pack; take_packet = S.take_packet }

module _ (S T : Sheet) (R : S.End → T.End → Type 0) where
  pub record Follows : Type 0 where
    pub end : EndFollows (any_end S) (any_end T) R
    pub client_refusal : (n l : ℕ) (ranks xs : List ℕ) → (S.open_client n l ranks xs).refusal ≡ (T.open_client n l ranks xs).refusal
    pub client_opens : (n l : ℕ) (ranks xs : List ℕ) → (T.open_client n l ranks xs).refusal ≡ 0 → R (S.open_client n l ranks xs).end (T.open_client n l ranks xs).end
    pub inserts : (a : S.End) (b : T.End) → R a b → (p x : ℕ) → Alike R (S.insert a p x) (T.insert b p x)
    pub deletes : (a : S.End) (b : T.End) → R a b → (p : ℕ) → Alike R (S.delete a p) (T.delete b p)
    pub takes_back : (a : S.End) (b : T.End) → R a b → Alike R (S.take_back a) (T.take_back b)
    pub alone : LeavesAlone S

  module _ (f : Follows) where
    -- the messages of a packet are handed over alike
    handed_alike : (most count : ℕ) (a : S.End) (b : T.End) → R a b → (bytes : List ℕ) → Alike R (handed_over S.take most count a bytes) (handed_over T.take most count b bytes)
    unfolding handed_over
    handed_alike zero count a b r bytes = record { refusal = refl; report = refl; ends = r }
    handed_alike (suc most) count a b r bytes =
        let part = take (next_size bytes) bytes in
        let rest = drop (next_size bytes) bytes in
        let k = f.end.takes a b r part in
        go (eqb (length bytes) 0) (S.take a part) (T.take b part) k (handed_alike most (suc count) (S.take a part).end (T.take b part).end k.ends rest)
      where
        go : (z : Bool) (x : Answer S.End) (y : Answer T.End) → Alike R x y
            → Alike R (handed_over S.take most (suc count) x.end (drop (next_size bytes) bytes)) (handed_over T.take most (suc count) y.end (drop (next_size bytes) bytes))
            → Alike R
            (cond {A = Answer S.End} z (record { refusal = 0; end = a; report = counted count })
            (cond (eqb x.refusal 0) (handed_over S.take most (suc count) x.end (drop (next_size bytes) bytes)) (record { refusal = x.refusal; end = x.end; report = counted count })))
            (cond {A = Answer T.End} z (record { refusal = 0; end = b; report = counted count })
            (cond (eqb y.refusal 0) (handed_over T.take most (suc count) y.end (drop (next_size bytes) bytes)) (record { refusal = y.refusal; end = y.end; report = counted count })))
        go true x y k more = record { refusal = refl; report = refl; ends = r }
        go false x y k more =
            subst (λ (m : ℕ). Alike R
            (cond {A = Answer S.End} (eqb m 0) (handed_over S.take most (suc count) x.end (drop (next_size bytes) bytes)) (record { refusal = m; end = x.end; report = counted count }))
            (cond {A = Answer T.End} (eqb y.refusal 0) (handed_over T.take most (suc count) y.end (drop (next_size bytes) bytes)) (record { refusal = y.refusal; end = y.end; report = counted count })))
            (sym k.refusal) (step (eqb y.refusal 0))
          where
            step : (z : Bool) → Alike R
                (cond {A = Answer S.End} z (handed_over S.take most (suc count) x.end (drop (next_size bytes) bytes)) (record { refusal = y.refusal; end = x.end; report = counted count }))
                (cond {A = Answer T.End} z (handed_over T.take most (suc count) y.end (drop (next_size bytes) bytes)) (record { refusal = y.refusal; end = y.end; report = counted count }))
            step true = more
            step false = record { refusal = refl; report = refl; ends = k.ends }

    packet_alike : LeavesAlone T → (a : S.End) (b : T.End) → R a b → (bytes : List ℕ) → Alike R (S.take_packet a bytes) (T.take_packet b bytes)
    packet_alike g a b r bytes = go (between 1 max_packet (length bytes)) refl
      where
        go : (z : Bool) → between 1 max_packet (length bytes) ≡ z → Alike R (S.take_packet a bytes) (T.take_packet b bytes)
        go true e =
            subst (λ (x : Answer S.End). Alike R x (T.take_packet b bytes)) (sym (f.alone.packets a bytes e))
            (subst (Alike R (handed_over S.take (length bytes) 0 a bytes)) (sym (g.packets b bytes e)) (handed_alike (length bytes) 0 a b r bytes))
        go false e =
            let x = f.alone.no_packets a bytes e in
            let y = g.no_packets b bytes e in
            record {
              refusal = f.end.packets a b r bytes e;
              report = x.2 ∙ sym y.2;
              ends = subst (λ (d : S.End). R d (T.take_packet b bytes).end) (sym x.1) (subst (R a) (sym y.1) r);
            }

  module _ (f : Follows) (g : LeavesAlone T) (n : ℕ) (ranks : List ℕ) where
    pub record Same (s : State S ranks) (t : State T ranks) : Type 0 where
      pub ends : (a : ℕ) → a ≤ n → R (s.ends a) (t.ends a)
      pub messages : s.messages ≡ t.messages
      pub reports : s.reports ≡ t.reports
      pub recorded : s.recorded ≡ t.recorded

    -- a call that answers an end: the new ends are alike, whatever is logged
    same_answered : (s : State S ranks) (t : State T ranks) → Same s t → (a : ℕ) (x : Answer S.End) (y : Answer T.End) → Alike R x y → (v w : Log ranks) → v ≡ w
        → Same (record { ends = at a x.end s.ends; messages = s.messages; reports = s.reports ++ (x.report ∷ []); recorded = v })
        (record { ends = at a y.end t.ends; messages = t.messages; reports = t.reports ++ (y.report ∷ []); recorded = w })
    same_answered s t m a x y k v w logged =
        record {
          ends = λ j h. go j h (eqb a j);
          messages = m.messages;
          reports = ap₂ (λ (ks : List Report) (i : Report). ks ++ (i ∷ [])) m.reports k.report;
          recorded = logged;
        }
      where
        go : (j : ℕ) → j ≤ n → (b : Bool) → R (cond b x.end (s.ends j)) (cond b y.end (t.ends j))
        go j h true = k.ends
        go j h false = m.ends j h

    same_logged : (s : State S ranks) (t : State T ranks) → Same s t → (a : ℕ) (c : Call) (x : Answer S.End) (y : Answer T.End) → Alike R x y → Same (answered S s a c x) (answered T t a c y)
    same_logged s t m a c x y k = same_answered s t m a x y k _ _ (ap₂ (λ (w : Log ranks) (r : ℕ). log w c r) m.recorded k.refusal)

    same_packet : (s : State S ranks) (t : State T ranks) → Same s t → (a : ℕ) (is : List ℕ) (x : Answer S.End) (y : Answer T.End) → Alike R x y → Same (packet_taken S s a is x) (packet_taken T t a is y)
    same_packet s t m a is x y k = same_answered s t m a x y k _ _ (λ i. took_packet (m.recorded i) a (k.report i).passed (known (length (m.messages i)) is))

    -- a sending: the messages are those of before, with what add makes of the one answer
    same_sent : (s : State S ranks) (t : State T ranks) → Same s t → (c : Call) (add : List (List ℕ) → Sent → List (List ℕ)) (x y : Sent) → x ≡ y
        → Same (record { ends = s.ends; messages = add s.messages x; reports = s.reports; recorded = log s.recorded c x.refusal })
        (record { ends = t.ends; messages = add t.messages y; reports = t.reports; recorded = log t.recorded c y.refusal })
    same_sent s t m c add x y e =
        record { ends = m.ends; messages = ap₂ add m.messages e; reports = m.reports; recorded = ap₂ (λ (w : Log ranks) (r : Sent). log w c r.refusal) m.recorded e }

    same_written : (s : State S ranks) (t : State T ranks) → Same s t → (c : Call) (x y : Sent) → x ≡ y → Same (written S s c x) (written T t c y)
    same_written s t m c = same_sent s t m c (λ ms r. cond (eqb r.refusal 0) (ms ++ (take r.written r.buffer ∷ [])) ms)

    -- the packet of the same numbers is taken at both
    packets_alike : (s : State S ranks) (t : State T ranks) → Same s t → (a : ℕ) → a ≤ n → (is tail : List ℕ)
        → Alike R (S.take_packet (s.ends a) (packet_of S s is tail)) (T.take_packet (t.ends a) (packet_of T t is tail))
    packets_alike s t m a h is tail =
        subst (λ (ms : List (List ℕ)). Alike R (S.take_packet (s.ends a) (packet_from ms is tail)) (T.take_packet (t.ends a) (packet_from t.messages is tail))) (sym m.messages)
        (packet_alike f g (s.ends a) (t.ends a) (m.ends a h) (packet_from t.messages is tail))

    same_call : (s : State S ranks) (t : State T ranks) → Same s t → (c : Call) → callable n c ≡ true → Same (call S s c) (call T t c)
    unfolding call callable handed
    same_call s t m (insert l p x) ok =
        let h = between_true 1 n l (three (between 1 n l) (ltb p 65536) (ltb x 4294967296) ok).0 in
        same_logged s t m l (insert l p x) (S.insert (s.ends l) p x) (T.insert (t.ends l) p x) (f.inserts (s.ends l) (t.ends l) (m.ends l h.1) p x)
    same_call s t m (delete l p) ok =
        let h = between_true 1 n l (and_left (between 1 n l) (ltb p 65536) ok) in
        same_logged s t m l (delete l p) (S.delete (s.ends l) p) (T.delete (t.ends l) p) (f.deletes (s.ends l) (t.ends l) (m.ends l h.1) p)
    same_call s t m (take_back l) ok =
        let h = between_true 1 n l ok in
        same_logged s t m l (take_back l) (S.take_back (s.ends l)) (T.take_back (t.ends l)) (f.takes_back (s.ends l) (t.ends l) (m.ends l h.1))
    same_call s t m (send a l number lent) ok =
        let h = leb-true a n (three (leb a n) (ltb l 256) (ltb number 65536) (and_left (leb a n && ltb l 256 && ltb number 65536) (are_bytes lent) ok)).0 in
        same_written s t m (send a l number lent) (S.send (s.ends a) l number lent) (T.send (t.ends a) l number lent) (f.end.sends (s.ends a) (t.ends a) (m.ends a h) l number lent)
    same_call s t m (tell a l lent) ok =
        let h = leb-true a n (three (leb a n) (ltb l 256) (are_bytes lent) ok).0 in
        same_written s t m (tell a l lent) (S.tell (s.ends a) l lent) (T.tell (t.ends a) l lent) (f.end.tells (s.ends a) (t.ends a) (m.ends a h) l lent)
    same_call s t m (receive a i) ok =
        subst (λ (ms : List (List ℕ)). Same (handed S s a (receive a i) (get_elem? ms i)) (handed T t a (receive a i) (get_elem? t.messages i))) (sym m.messages) (go (get_elem? t.messages i))
      where
        go : (b : Option (List ℕ)) → Same (handed S s a (receive a i) b) (handed T t a (receive a i) b)
        go none = m
        go (some b) = same_logged s t m a (receive a i) (S.take (s.ends a) b) (T.take (t.ends a) b) (f.end.takes (s.ends a) (t.ends a) (m.ends a (leb-true a n ok)) b)
    same_call s t m (pack a l offset lent) ok =
        let h = leb-true a n (three (leb a n) (ltb l 256) (are_bytes lent) ok).0 in
        same_sent s t m (pack a l offset lent) (λ ms r. ms ++ messages_in r.written (take r.written (drop offset r.buffer))) (S.pack (s.ends a) l lent offset) (T.pack (t.ends a) l lent offset) (f.end.packs (s.ends a) (t.ends a) (m.ends a h) l lent offset)
    same_call s t m (packet a is tail) ok =
        let h = leb-true a n (three (leb a n) (are_bytes tail) (unreadable (parsed (take (next_size tail) tail))) ok).0 in
        same_packet s t m a is (S.take_packet (s.ends a) (packet_of S s is tail)) (T.take_packet (t.ends a) (packet_of T t is tail)) (packets_alike s t m a h is tail)
    same_call s t m (junk a bytes) ok =
        let h = leb-true a n (three (leb a n) (are_bytes bytes) (unreadable (parsed bytes)) ok).0 in
        same_logged s t m a (junk a bytes) (S.take (s.ends a) bytes) (T.take (t.ends a) bytes) (f.end.takes (s.ends a) (t.ends a) (m.ends a h) bytes)

    same_run : (calls : List Call) (s : State S ranks) (t : State T ranks) → Same s t → Same (run S n s calls) (run T n t calls)
    unfolding run
    same_run [] s t m = m
    same_run (c ∷ cs) s t m = same_run cs (cond (callable n c) (call S s c) s) (cond (callable n c) (call T t c) t) (go (callable n c) refl)
      where
        go : (b : Bool) → callable n c ≡ b → Same (cond b (call S s c) s) (cond b (call T t c) t)
        go true e = same_call s t m c e
        go false e = m

    same_number : (s : State S ranks) (t : State T ranks) → Same s t → (c : Call) → callable n c ≡ true → number_of S s c ≡ number_of T t c
    unfolding number_of callable
    same_number s t m (insert l p x) ok =
        let h = between_true 1 n l (three (between 1 n l) (ltb p 65536) (ltb x 4294967296) ok).0 in
        (f.inserts (s.ends l) (t.ends l) (m.ends l h.1) p x).refusal
    same_number s t m (delete l p) ok =
        let h = between_true 1 n l (and_left (between 1 n l) (ltb p 65536) ok) in
        (f.deletes (s.ends l) (t.ends l) (m.ends l h.1) p).refusal
    same_number s t m (take_back l) ok = (f.takes_back (s.ends l) (t.ends l) (m.ends l (between_true 1 n l ok).1)).refusal
    same_number s t m (send a l number lent) ok =
        let h = leb-true a n (three (leb a n) (ltb l 256) (ltb number 65536) (and_left (leb a n && ltb l 256 && ltb number 65536) (are_bytes lent) ok)).0 in
        ap (λ (x : Sent). x.refusal) (f.end.sends (s.ends a) (t.ends a) (m.ends a h) l number lent)
    same_number s t m (tell a l lent) ok =
        let h = leb-true a n (three (leb a n) (ltb l 256) (are_bytes lent) ok).0 in
        ap (λ (x : Sent). x.refusal) (f.end.tells (s.ends a) (t.ends a) (m.ends a h) l lent)
    same_number s t m (receive a i) ok = ap (λ (ms : List (List ℕ)). handed_number S s a (get_elem? ms i)) m.messages ∙ go (get_elem? t.messages i)
      where
        go : (b : Option (List ℕ)) → handed_number S s a b ≡ handed_number T t a b
        go none = refl
        go (some b) = (f.end.takes (s.ends a) (t.ends a) (m.ends a (leb-true a n ok)) b).refusal
    same_number s t m (pack a l offset lent) ok =
        let h = leb-true a n (three (leb a n) (ltb l 256) (are_bytes lent) ok).0 in
        ap (λ (x : Sent). x.refusal) (f.end.packs (s.ends a) (t.ends a) (m.ends a h) l lent offset)
    same_number s t m (packet a is tail) ok =
        (packets_alike s t m a (leb-true a n (three (leb a n) (are_bytes tail) (unreadable (parsed (take (next_size tail) tail))) ok).0) is tail).refusal
    same_number s t m (junk a bytes) ok =
        let h = leb-true a n (three (leb a n) (are_bytes bytes) (unreadable (parsed bytes)) ok).0 in
        (f.end.takes (s.ends a) (t.ends a) (m.ends a h) bytes).refusal

    -- ---- the claim
    delivered : (a a' : S.End) (b b' : T.End) → R a b → R a' b' → (l number : ℕ) (lent : List ℕ) → Delivered T b b' l number lent → Delivered S a a' l number lent
    delivered a a' b b' r r' l number lent d =
        let same = f.end.sends a b r l number lent in
        let bytes = take (T.send b l number lent).written (T.send b l number lent).buffer in
        record {
          sends = ap (λ (x : Sent). x.refusal) same ∙ d.sends;
          takes = ap (λ (x : Sent). (S.take a' (take x.written x.buffer)).refusal) same ∙ (f.end.takes a' b' r' bytes).refusal ∙ d.takes;
          rises = ap (λ (x : Sent). S.taken (S.take a' (take x.written x.buffer)).end l) same
              ∙ f.end.taken (S.take a' bytes).end (T.take b' bytes).end (f.end.takes a' b' r' bytes).ends l ∙ d.rises ∙ ap suc (sym (f.end.taken a' b' r' l));
        }

    packet_end : (a : ℕ) (is tail : List ℕ) → callable n (packet a is tail) ≡ true → a ≤ n
    unfolding callable
    packet_end a is tail ok = leb-true a n (three (leb a n) (are_bytes tail) (unreadable (parsed (take (next_size tail) tail))) ok).0

    module _ (ends : ℕ → S.End) (t : State T ranks) (related : (a : ℕ) → a ≤ n → R (ends a) (t.ends a)) where
      abbrev beside : State S ranks
      beside = record { ends = ends; messages = t.messages; reports = t.reports; recorded = t.recorded }

      holds_line : (l : ℕ) → 1 ≤ l → l ≤ n → OnLine T n t l → OnLine S n beside l
      holds_line l lo hi o =
          let base = related 0 (omega arith) in
          let here = related l hi in
          let h : History (edits ranks) = t.recorded.history in
          record {
            client_made = f.end.made (ends l) (t.ends l) here l ∙ o.client_made;
            client_taken_lem = f.end.taken (ends l) (t.ends l) here l ∙ o.client_taken_lem;
            server_made = f.end.made (ends 0) (t.ends 0) base l ∙ o.server_made;
            server_taken_lem = f.end.taken (ends 0) (t.ends 0) base l ∙ o.server_taken_lem;
            meeting = ap (replay (order h l) (h.applied l) (missing h l)) (f.end.items (ends l) (t.ends l) here) ∙ o.meeting
                ∙ ap (replay (order h l) h.served (h.untaken l)) (sym (f.end.items (ends 0) (t.ends 0) base));
            equal = λ p q.
                f.end.items (ends l) (t.ends l) here
                ∙ o.equal (sym (f.end.made (ends l) (t.ends l) here l) ∙ p ∙ f.end.taken (ends 0) (t.ends 0) base l) (sym (f.end.taken (ends l) (t.ends l) here l) ∙ q ∙ f.end.made (ends 0) (t.ends 0) base l)
                ∙ sym (f.end.items (ends 0) (t.ends 0) base);
            next_down = λ lent enough more.
                let same = f.end.taken (ends l) (t.ends l) here l in
                subst (λ (k : ℕ). Delivered S (ends 0) (ends l) l (suc k) lent) (sym same)
                (delivered (ends 0) (ends l) (t.ends 0) (t.ends l) base here l (suc (T.taken (t.ends l) l)) lent
                (o.next_down lent (subst (λ (k : ℕ). Enough T n t 0 l (suc k) lent) same enough) more));
            next_up = λ lent enough more free.
                let same = f.end.taken (ends 0) (t.ends 0) base l in
                subst (λ (k : ℕ). Delivered S (ends l) (ends 0) l (suc k) lent) (sym same)
                (delivered (ends l) (ends 0) (t.ends l) (t.ends 0) here base l (suc (T.taken (t.ends 0) l)) lent
                (o.next_up lent (subst (λ (k : ℕ). Enough T n t l l (suc k) lent) same enough) more (λ j x y z full. free j x y z (f.end.made (ends 0) (t.ends 0) base j ∙ full))));
          }

      holds_beside : Holds T n t → Holds S n beside
      holds_beside o =
          record {
            lists = λ a h. f.end.items (ends a) (t.ends a) (related a h) ∙ o.lists a h;
            totals = λ a h. f.end.total (ends a) (t.ends a) (related a h) ∙ o.totals a h;
            origins = λ a h. subst (λ (l : List Place). Once (map (λ p. name_of p.origin) l)) (sym (f.end.items (ends a) (t.ends a) (related a h))) (o.origins a h);
            messages = o.messages;
            read_back = o.read_back;
            numbers = λ c ok. same_number beside t (record { ends = related; messages = refl; reports = refl; recorded = refl }) c ok ∙ o.numbers c ok;
            reports = o.reports;
            packets = λ a is tail ok. (packet_alike f g (ends a) (t.ends a) (related a (packet_end a is tail ok)) (packet_of T t is tail)).report ∙ o.packets a is tail ok;
            lines = λ l lo hi. holds_line l lo hi (o.lines l lo hi);
          }

    holds_same : (s : State S ranks) (t : State T ranks) → Same s t → Holds T n t → Holds S n s
    holds_same s t m o =
        let path : beside s.ends t m.ends ≡ s =
        λ i. record { ends = s.ends; messages = sym m.messages i; reports = sym m.reports i; recorded = sym m.recorded i } in
        subst (Holds S n) path (holds_beside s.ends t m.ends o)

    starts : (items : List ℕ) → Opened T n ranks items → Same (start S n ranks items) (start T n ranks items)
    starts items o = record { ends = go; messages = refl; reports = refl; recorded = refl }
      where
        go : (l : ℕ) → l ≤ n → R (opened S n ranks items l) (opened T n ranks items l)
        go zero h = f.end.opens n ranks items o.server
        go (suc l) h = f.client_opens n (suc l) ranks items (o.clients (suc l) (omega arith) h)

  pub carries : Follows → Converges T → Converges S
  carries f c =
      record {
        opens_server = λ n ranks items few. f.end.opens_refusal n ranks items ∙ c.opens_server n ranks items few;
        opens_client = λ n l ranks items few. f.client_refusal n l ranks items ∙ c.opens_client n l ranks items few;
        alone = f.alone;
        holds = λ n ranks items o calls.
            let o' : Opened T n ranks items =
            record {
              numbers = o.numbers;
              server = sym (f.end.opens_refusal n ranks items) ∙ o.server;
              clients = λ l a b. sym (f.client_refusal n l ranks items) ∙ o.clients l a b;
            } in
            let s = start S n ranks items in
            let t = start T n ranks items in
            holds_same f c.alone n ranks (run S n s calls) (run T n t calls) (same_run f c.alone n ranks calls s t (starts f c.alone n ranks items o')) (c.holds n ranks items o' calls);
      }

-- what the claim of a sheet gives, beside another that it holds of
pub carried_by : (S T : Sheet) → Converges S → Converges T → Carried S T
carried_by S T c d =
    record {
      claimed = c;
      ranks = ranks_bytes S c;
      consistent = consequences.consistent S c;
      order = consequences.order S c;
      refusals = consequences.refusals S c;
      takes_back = consequences.takes_back S c;
      agree = consequences.agree S T c d;
    }
