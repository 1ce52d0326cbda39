-- Any call of a list of calls keeps the sheet with the theory, and is answered with the number that the questions give.
use mathlib.Core.Path.{◌≡◌, refl, ap, sym, ◌∙◌, subst}
use mathlib.Core.Bool.{true, ◌&&◌}
use mathlib.Core.Option.{Option, none, some}
use mathlib.Core.List.{List}
use Prim.Native.Nat.{ℕ, ◌≤◌}
use native.Mathlib.Omega.{arith}
use lib.Dec.{leb, ltb}
use lib.ListN.{length, take, get_elem?}
use borrow.Author.Tests.{eq-eqb, leb-true, ltb-true, le-leb}
use Rattle.ot.specs.Edit.{Delete, Insert}
use Rattle.list.specs.Places.{Place}
use Rattle.wire.specs.Message.{between}
use Rattle.wire.specs.Bytes.{parsed}
use Rattle.model.specs.Limits.{max_initial}
use Rattle.model.specs.Packets.{next_size, counted}
use Rattle.model.specs.Ranks.{rank_of}
use Rattle.model.specs.Sheet.{Call, insert, delete, take_back, send, tell, receive, pack, packet, junk}
use Rattle.model.specs.Log.{Log, logged, refused_log}
use Rattle.model.specs.Numbers.{Handing, packet_handed, number}
use Rattle.model.specs.Run.{State, answered, handed, packet_of, call, callable, number_of, unreadable, are_bytes}
use Rattle.model.specs.Ours.{End, ours}
use Rattle.model.proofs.Tests.{three, and_left, between_true}
use Rattle.model.proofs.Sim.{Moment, Sim}
use Rattle.model.proofs.Calls as calls
use Rattle.model.proofs.Calls.{unread}
use Rattle.model.proofs.Numbers as numbers
use Rattle.model.proofs.WritesPackets.{packs_at, packs_number}
use Rattle.model.proofs.TakesPackets.{takes_packet}

module _ (n : ℕ) (items : List Place) {ranks : List ℕ} {from : Moment ranks} (s : State ours ranks) (sim : Sim n items from s) (few : length items ≤ max_initial) where
  abbrev w : Log ranks
  w = s.recorded

  pub called : (c : Call) → callable n c ≡ true → Sim n items from (call ours s c)
  unfolding call callable handed logged refused_log
  called (insert l p x) ok =
      let t = three (between 1 n l) (ltb p 65536) (ltb x 4294967296) ok in
      let at_l = between_true 1 n l t.0 in
      subst (λ (e : End). Sim n items from (answered ours s l (insert l p x) (ours.insert e p x))) (sym (sim.client_is l at_l.0 at_l.1))
      (calls.edits_at n items s sim (insert l p x) l (Insert p x (rank_of ranks l)) at_l.0 at_l.1 (eq-eqb (rank_of ranks l) (rank_of ranks l) refl) (le-leb x 4294967295 (omega (arith, ltb-true x 4294967296 t.2))) refl refl)
  called (delete l p) ok =
      let at_l = between_true 1 n l (and_left (between 1 n l) (ltb p 65536) ok) in
      subst (λ (e : End). Sim n items from (answered ours s l (delete l p) (ours.delete e p))) (sym (sim.client_is l at_l.0 at_l.1))
      (calls.edits_at n items s sim (delete l p) l (Delete p) at_l.0 at_l.1 refl refl refl refl)
  called (take_back l) ok =
      let at_l = between_true 1 n l ok in
      subst (λ (e : End). Sim n items from (answered ours s l (take_back l) (ours.take_back e))) (sym (sim.client_is l at_l.0 at_l.1)) (calls.takes_back_at n items s sim l at_l.0 at_l.1)
  called (send a l number lent) ok =
      calls.sends_at n items s sim a l number lent (leb-true a n (three (leb a n) (ltb l 256) (ltb number 65536) (and_left (leb a n && ltb l 256 && ltb number 65536) (are_bytes lent) ok)).0)
  called (tell a l lent) ok = calls.tells_at n items s sim a l lent (leb-true a n (three (leb a n) (ltb l 256) (are_bytes lent) ok).0)
  called (receive a i) ok = go (get_elem? s.messages i) refl
    where
      go : (m : Option (List ℕ)) → get_elem? s.messages i ≡ m → Sim n items from (handed ours s a (receive a i) m)
      go none e = sim
      go (some b) e = calls.takes_at n items s sim a i (leb-true a n ok) b e
  called (pack a l offset lent) ok = packs_at n items s sim a l offset lent (leb-true a n (three (leb a n) (ltb l 256) (are_bytes lent) ok).0)
  called (packet a is tail) ok =
      let t = three (leb a n) (are_bytes tail) (unreadable (parsed (take (next_size tail) tail))) ok in
      (takes_packet n items ranks from few s sim a (leb-true a n t.0) is tail (unread (parsed (take (next_size tail) tail)) t.2)).follows
  called (junk a bytes) ok =
      let t = three (leb a n) (are_bytes bytes) (unreadable (parsed bytes)) ok in
      calls.junks_at n items s sim a bytes (leb-true a n t.0) (unread (parsed bytes) t.2)

  pub numbered : (c : Call) → callable n c ≡ true → number_of ours s c ≡ number n w c
  unfolding number_of number callable
  numbered (insert l p x) ok =
      let there = between_true 1 n l (three (between 1 n l) (ltb p 65536) (ltb x 4294967296) ok).0 in
      ap (λ (e : End). (ours.insert e p x).refusal) (sim.client_is l there.0 there.1) ∙ numbers.edits_at n items s sim few l there.0 there.1 (Insert p x (rank_of ranks l))
  numbered (delete l p) ok =
      let there = between_true 1 n l (and_left (between 1 n l) (ltb p 65536) ok) in
      ap (λ (e : End). (ours.delete e p).refusal) (sim.client_is l there.0 there.1) ∙ numbers.edits_at n items s sim few l there.0 there.1 (Delete p)
  numbered (take_back l) ok =
      let there = between_true 1 n l ok in
      ap (λ (e : End). (ours.take_back e).refusal) (sim.client_is l there.0 there.1) ∙ numbers.undoes_at n items s sim few l there.0 there.1
  numbered (send a l k lent) ok =
      numbers.sends_at n items s sim few a l k lent (leb-true a n (three (leb a n) (ltb l 256) (ltb k 65536) (and_left (leb a n && ltb l 256 && ltb k 65536) (are_bytes lent) ok)).0)
  numbered (tell a l lent) ok = numbers.tells_at n items s sim few a l lent (leb-true a n (three (leb a n) (ltb l 256) (are_bytes lent) ok).0)
  numbered (receive a i) ok = numbers.hands_at n items s sim few a i (leb-true a n ok)
  numbered (pack a l offset lent) ok = packs_number n items s sim a l offset lent (leb-true a n (three (leb a n) (ltb l 256) (are_bytes lent) ok).0)
  numbered (packet a is tail) ok =
      let t = three (leb a n) (are_bytes tail) (unreadable (parsed (take (next_size tail) tail))) ok in
      ap (λ (k : Handing). k.refusal) (sym (takes_packet n items ranks from few s sim a (leb-true a n t.0) is tail (unread (parsed (take (next_size tail) tail)) t.2)).handing_is)
  numbered (junk a bytes) ok =
      let t = three (leb a n) (are_bytes bytes) (unreadable (parsed bytes)) ok in
      numbers.junk_at n items s sim few a bytes (leb-true a n t.0) (unread (parsed bytes) t.2)

  -- a packet reports how many of its messages were taken
  pub counts : (a : ℕ) (is tail : List ℕ) → callable n (packet a is tail) ≡ true → (ours.take_packet (s.ends a) (packet_of ours s is tail)).report ≡ counted (packet_handed n w a is tail).count
  unfolding callable
  counts a is tail ok =
      let t = three (leb a n) (are_bytes tail) (unreadable (parsed (take (next_size tail) tail))) ok in
      let done = takes_packet n items ranks from few s sim a (leb-true a n t.0) is tail (unread (parsed (take (next_size tail) tail)) t.2) in
      done.report_is ∙ ap (λ (k : Handing). counted k.count) (sym done.handing_is)
