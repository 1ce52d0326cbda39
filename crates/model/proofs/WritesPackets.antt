-- A packet that is written keeps the sheet with the theory, as the sendings of its messages do.
use mathlib.Core.Path.{◌≡◌, refl, ap, ap₂, sym, ◌∙◌, subst}
use mathlib.Core.Bool.{Bool, true, false, cond}
use mathlib.Core.List.{List, [], ◌∷◌, ◌++◌, append-nil, map}
use Prim.Native.Nat.{ℕ, zero, suc, ◌+◌, ◌-◌, ◌≤◌, ◌<◌}
use native.Mathlib.Numerals.{add-one}
use native.Mathlib.Nat.{le_refl}
use native.Mathlib.Omega.{arith}
use lib.Dec.{eqb, leb}
use lib.ListN.{length, take, drop}
use borrow.Author.Tests.{eqb-true, eqb-false}
use Rattle.list.specs.Places.{Place}
use Rattle.wire.specs.Bytes.{bytes_of}
use Rattle.jupiter.specs.History.{History}
use Rattle.jupiter.specs.Ends.{Ends}
use Rattle.jupiter.specs.Run.{Message}
use Rattle.jupiter.proofs.Lists.{All}
use Rattle.model.specs.Questions.{Question, ask, asks, between, Sent}
use Rattle.model.specs.Packets.{joined, fitting, first_fits, put_from, packed, messages_in}
use Rattle.model.specs.Line.{Line, numbers_from, pending_numbers}
use Rattle.model.specs.Client.{sound_client, client_message, pack_client}
use Rattle.model.specs.Server.{Server, line_of, sound_server, server_message, pack_server}
use Rattle.model.specs.Edits.{Rule, edits_by, edits}
use Rattle.model.specs.Sheet.{Call, pack}
use Rattle.model.specs.Log.{Log, wire_message, message_bytes, edit_message, made_at, fitting_messages, pending_messages, packs, log, logged, refused_log}
use Rattle.model.specs.Numbers.{packing}
use Rattle.model.specs.Run.{State, packed_into}
use Rattle.model.specs.Ours.{End, ours}
use Rattle.model.proofs.Tests.{Alike, alike, yes_all, between_true}
use Rattle.model.proofs.Packets.{Whole, whole_bytes, messages_in_lem, fitting_room, put_read}
use Rattle.model.proofs.Sim.{client_from, server_from, line_from, line_from_lem, MessageOk, Moment, Sim}
use Rattle.model.proofs.Follow.{writes_all}
use Rattle.model.proofs.Counts.{client_made, server_made}
use Rattle.model.proofs.Calls.{log_no, up_is, up_bytes, up_ok, down_is, down_bytes, down_ok}

-- ---- the messages that fit

fitting_map : {by : Rule} (room : ℕ) (xs : List (Message (edits_by by))) → fitting room (map message_bytes xs) ≡ map message_bytes (fitting_messages room xs)
unfolding fitting fitting_messages
fitting_map room [] = refl
fitting_map room (x ∷ xs) = go (leb (length (message_bytes x)) room) (fitting_map (room - length (message_bytes x)) xs)
  where
    go : (b : Bool) → fitting (room - length (message_bytes x)) (map message_bytes xs) ≡ map message_bytes (fitting_messages (room - length (message_bytes x)) xs)
        → cond b (message_bytes x ∷ fitting (room - length (message_bytes x)) (map message_bytes xs)) [] ≡ map message_bytes (cond b (x ∷ fitting_messages (room - length (message_bytes x)) xs) [])
    go true e = ap (λ (bs : List (List ℕ)). message_bytes x ∷ bs) e
    go false e = refl

fitting_all : {by : Rule} (Q : Message (edits_by by) → Type 0) (room : ℕ) (xs : List (Message (edits_by by))) → All Q xs → All Q (fitting_messages room xs)
unfolding fitting_messages
fitting_all Q room [] ok = tt
fitting_all Q room (x ∷ xs) ok = go (leb (length (message_bytes x)) room) (fitting_all Q (room - length (message_bytes x)) xs ok.1)
  where
    go : (b : Bool) → All Q (fitting_messages (room - length (message_bytes x)) xs) → All Q (cond b (x ∷ fitting_messages (room - length (message_bytes x)) xs) [])
    go true rest = (ok.0, rest)
    go false rest = tt

all_whole : {by : Rule} (xs : List (Message (edits_by by))) → All Whole (map message_bytes xs)
all_whole [] = tt
all_whole (x ∷ xs) = (whole_bytes (wire_message x), all_whole xs)

-- the number of a packet's answer
pub packed_number : (qs : List Question) (ms : List (List ℕ)) (offset : ℕ) (lent : List ℕ) → (packed qs ms offset lent).refusal ≡ asks (qs ++ (ask 14 (first_fits (length lent - offset) ms) ∷ []))
unfolding packed
packed_number qs ms offset lent = go (asks (qs ++ (ask 14 (first_fits (length lent - offset) ms) ∷ [])))
  where
    bytes : List ℕ
    bytes = joined (fitting (length lent - offset) ms)

    by : (r : ℕ) (b : Bool) → eqb r 0 ≡ b → (cond {A = Sent} b (record { refusal = 0; written = length bytes; buffer = put_from offset bytes lent }) (record { refusal = r; written = 0; buffer = lent })).refusal ≡ r
    by r true e = sym (eqb-true r 0 e)
    by r false e = refl

    go : (r : ℕ) → (cond {A = Sent} (eqb r 0) (record { refusal = 0; written = length bytes; buffer = put_from offset bytes lent }) (record { refusal = r; written = 0; buffer = lent })).refusal ≡ r
    go r = by r (eqb r 0) refl

module _ (n : ℕ) (items : List Place) {ranks : List ℕ} {from : Moment ranks} (s : State ours ranks) (sim : Sim n items from s) where
  abbrev E : Ends (edits ranks)
  E = sim.E

  abbrev h : History (edits ranks)
  h = s.recorded.history

  abbrev w : Log ranks
  w = s.recorded

  abbrev S : Server
  S = server_from n (length items) ranks E.doc E.lines sim.si

  -- ---- the messages of a line

  -- bytes that are those of messages which can be taken
  record Right (ms : List (List ℕ)) (xs : List (Message (edits ranks))) : Type 0 where
    same : ms ≡ map message_bytes xs
    fine : All (MessageOk n ranks items E h) xs

  numbered_right : (f : ℕ → List ℕ) (g : ℕ → Message (edits ranks)) (count first : ℕ) → ((k : ℕ) → first < k → k ≤ first + count → (f k ≡ message_bytes (g k)) × MessageOk n ranks items E h (g k))
      → Right (map f (numbers_from (suc first) count)) (map g (numbers_from (suc first) count))
  unfolding numbers_from
  numbered_right f g zero first ok = record { same = refl; fine = tt }
  numbered_right f g (suc count) first ok =
      let rest = numbered_right f g count (suc first) (λ k low high. ok k (omega arith) (omega arith)) in
      let one = ok (suc first) (omega arith) (omega arith) in
      record { same = ap₂ (λ (b : List ℕ) (bs : List (List ℕ)). b ∷ bs) one.0 rest.same; fine = (one.1, rest.fine) }

  client_right : (l : ℕ) (lo : 1 ≤ l) (hi : l ≤ n)
      → Right (map (λ k. bytes_of (client_message (client_from n l ranks (E.clients l) (E.docs l) (sim.ci l) (sim.bk l)) k)) (pending_numbers (line_from (E.clients l) (sim.ci l)))) (pending_messages w l l)
  client_right l lo hi =
      let v = E.clients l in
      let C = client_from n l ranks v (E.docs l) (sim.ci l) (sim.bk l) in
      let f : ℕ → List ℕ = λ k. bytes_of (client_message C k) in
      let g : ℕ → Message (edits ranks) = edit_message h l l in
      let from_is : suc v.acked ≡ v.acked + 1 = sym (add-one v.acked) in
      subst (λ (i : ℕ). Right (map f (numbers_from (v.acked + 1) (v.made - v.acked))) (map g (numbers_from (suc i) (made_at h l l - i)))) (sym (sim.client_heard l lo))
      (subst (λ (m : ℕ). Right (map f (numbers_from (v.acked + 1) (v.made - v.acked))) (map g (numbers_from (suc v.acked) (m - v.acked)))) (client_made n items s sim l lo)
      (subst (λ (i : ℕ). Right (map f (numbers_from i (v.made - v.acked))) (map g (numbers_from (suc v.acked) (v.made - v.acked)))) from_is
      (numbered_right f g (v.made - v.acked) v.acked (λ k low high.
      let most : k ≤ v.made = omega arith in
      let is = up_is n items s sim l lo hi k low most l in
      (up_bytes n items s sim l lo hi k low most ∙ ap message_bytes (sym is), subst (MessageOk n ranks items E h) (sym is) (up_ok n items s sim l lo hi k low most))))))

  server_right : (l : ℕ) (lo : 1 ≤ l) (hi : l ≤ n) → Right (map (λ k. bytes_of (server_message S l k)) (pending_numbers (line_of S l))) (pending_messages w 0 l)
  server_right l lo hi =
      let v = E.lines l in
      let f : ℕ → List ℕ = λ k. bytes_of (server_message S l k) in
      let g : ℕ → Message (edits ranks) = edit_message h 0 l in
      let from_is : suc v.acked ≡ v.acked + 1 = sym (add-one v.acked) in
      subst (λ (i : ℕ). Right (map f (pending_numbers (line_of S l))) (map g (numbers_from (suc i) (made_at h 0 l - i)))) (sym (sim.server_heard l))
      (subst (λ (u : Line). Right (map f (pending_numbers u)) (map g (numbers_from (suc v.acked) (made_at h 0 l - v.acked)))) (sym (line_from_lem n (length items) ranks E.doc E.lines sim.si l lo hi))
      (subst (λ (m : ℕ). Right (map f (numbers_from (v.acked + 1) (v.made - v.acked))) (map g (numbers_from (suc v.acked) (m - v.acked)))) (server_made n items s sim l)
      (subst (λ (i : ℕ). Right (map f (numbers_from i (v.made - v.acked))) (map g (numbers_from (suc v.acked) (v.made - v.acked)))) from_is
      (numbered_right f g (v.made - v.acked) v.acked (λ k low high.
      let most : k ≤ v.made = omega arith in
      let is = down_is n items s sim l lo hi k low most in
      (down_bytes n items s sim l lo hi k low most ∙ ap message_bytes (sym is), subst (MessageOk n ranks items E h) (sym is) (down_ok n items s sim l lo hi k low most)))))))

  -- ---- a packet that is written

  posts : (c : Call) (qs : List Question) (ms : List (List ℕ)) (offset : ℕ) (lent : List ℕ) (xs : List (Message (edits ranks))) → logged w c ≡ packs w (fitting_messages (length lent - offset) xs) → refused_log w c ≡ w
      → (asks (qs ++ (ask 14 (first_fits (length lent - offset) ms) ∷ [])) ≡ 0 → Right ms xs) → Sim n items from (packed_into ours s c offset (packed qs ms offset lent))
  unfolding packed log messages_in
  posts c qs ms offset lent xs made quiet right = go (asks (qs ++ (ask 14 (first_fits room ms) ∷ []))) right
    where
      room : ℕ
      room = length lent - offset

      bytes : List ℕ
      bytes = joined (fitting room ms)

      by : (r : ℕ) (b : Bool) → eqb r 0 ≡ b → (r ≡ 0 → Right ms xs)
          → Sim n items from (packed_into ours s c offset (cond b (record { refusal = 0; written = length bytes; buffer = put_from offset bytes lent }) (record { refusal = r; written = 0; buffer = lent })))
      by r true e ok =
          let good = ok (eqb-true r 0 e) in
          let fit : fitting room ms ≡ map message_bytes (fitting_messages room xs) = ap (fitting room) good.same ∙ fitting_map room xs in
          let found : messages_in (length bytes) (take (length bytes) (drop offset (put_from offset bytes lent))) ≡ map message_bytes (fitting_messages room xs) =
          ap (messages_in (length bytes)) (put_read offset lent bytes (fitting_room room ms))
          ∙ messages_in_lem (fitting room ms) (subst (All Whole) (sym fit) (all_whole (fitting_messages room xs))) (length bytes) (le_refl (length bytes)) ∙ fit in
          subst (λ (l : Log ranks). Sim n items from (record { ends = s.ends; messages = s.messages ++ messages_in (length bytes) (take (length bytes) (drop offset (put_from offset bytes lent))); reports = s.reports; recorded = l })) (sym made)
          (subst (λ (bs : List (List ℕ)). Sim n items from (record { ends = s.ends; messages = s.messages ++ bs; reports = s.reports; recorded = packs w (fitting_messages room xs) })) (sym found)
          (writes_all n items s sim (fitting_messages room xs) (fitting_all (MessageOk n ranks items E h) room xs good.fine)))
      by r false e ok =
          subst (λ (l : Log ranks). Sim n items from (record { ends = s.ends; messages = s.messages ++ []; reports = s.reports; recorded = l })) (sym (log_no w c r (eqb-false r 0 e) ∙ quiet))
          (subst (λ (ms : List (List ℕ)). Sim n items from (record { ends = s.ends; messages = ms; reports = s.reports; recorded = w })) (sym (append-nil s.messages)) sim)

      go : (r : ℕ) → (r ≡ 0 → Right ms xs)
          → Sim n items from (packed_into ours s c offset (cond (eqb r 0) (record { refusal = 0; written = length bytes; buffer = put_from offset bytes lent }) (record { refusal = r; written = 0; buffer = lent })))
      go r ok = by r (eqb r 0) refl ok

  pub packs_at : (a l offset : ℕ) (lent : List ℕ) → a ≤ n → Sim n items from (packed_into ours s (pack a l offset lent) offset (ours.pack (s.ends a) l lent offset))
  unfolding pack_server pack_client logged refused_log
  packs_at zero l offset lent hi =
      let qs : List Question = ask 2 (sound_server S) ∷ ask 4 (between 1 n l) ∷ [] in
      let ms = map (λ k. bytes_of (server_message S l k)) (pending_numbers (line_of S l)) in
      subst (λ (e : End). Sim n items from (packed_into ours s (pack 0 l offset lent) offset (ours.pack e l lent offset))) (sym sim.server_is)
      (posts (pack 0 l offset lent) qs ms offset lent (pending_messages w 0 l) refl refl (λ z.
      let there = between_true 1 n l (yes_all (qs ++ (ask 14 (first_fits (length lent - offset) ms) ∷ [])) (omega arith) z).1.0 in
      server_right l there.0 there.1))
  packs_at (suc a) l offset lent hi =
      let C = client_from n (suc a) ranks (E.clients (suc a)) (E.docs (suc a)) (sim.ci (suc a)) (sim.bk (suc a)) in
      let qs : List Question = ask 2 (sound_client C) ∷ ask 4 (eqb l (suc a)) ∷ [] in
      let ms = map (λ k. bytes_of (client_message C k)) (pending_numbers (line_from (E.clients (suc a)) (sim.ci (suc a)))) in
      subst (λ (e : End). Sim n items from (packed_into ours s (pack (suc a) l offset lent) offset (ours.pack e l lent offset))) (sym (sim.client_is (suc a) (omega arith) hi))
      (posts (pack (suc a) l offset lent) qs ms offset lent (pending_messages w (suc a) l) refl refl (λ z.
      let own : l ≡ suc a = eqb-true l (suc a) (yes_all (qs ++ (ask 14 (first_fits (length lent - offset) ms) ∷ [])) (omega arith) z).1.0 in
      subst (λ (j : ℕ). Right ms (pending_messages w (suc a) j)) (sym own) (client_right (suc a) (omega arith) hi)))

  pub packs_number : (a l offset : ℕ) (lent : List ℕ) → a ≤ n → (ours.pack (s.ends a) l lent offset).refusal ≡ asks (packing n w a l (length lent - offset))
  unfolding pack_server pack_client
  packs_number zero l offset lent hi =
      let room = length lent - offset in
      let ms = map (λ k. bytes_of (server_message S l k)) (pending_numbers (line_of S l)) in
      ap (λ (e : End). (ours.pack e l lent offset).refusal) sim.server_is ∙ packed_number (ask 2 (sound_server S) ∷ ask 4 (between 1 n l) ∷ []) ms offset lent
      ∙ alike (ask 2 (sound_server S) ∷ ask 4 (between 1 n l) ∷ ask 14 (first_fits room ms) ∷ []) (packing n w 0 l room) (Alike.over sim.server_sound (Alike.same refl (λ y4.
      let there = between_true 1 n l y4 in
      Alike.same (ap (first_fits room) (server_right l there.0 there.1).same) (λ y14. Alike.done))))
  packs_number (suc a) l offset lent hi =
      let room = length lent - offset in
      let C = client_from n (suc a) ranks (E.clients (suc a)) (E.docs (suc a)) (sim.ci (suc a)) (sim.bk (suc a)) in
      let ms = map (λ k. bytes_of (client_message C k)) (pending_numbers (line_from (E.clients (suc a)) (sim.ci (suc a)))) in
      ap (λ (e : End). (ours.pack e l lent offset).refusal) (sim.client_is (suc a) (omega arith) hi) ∙ packed_number (ask 2 (sound_client C) ∷ ask 4 (eqb l (suc a)) ∷ []) ms offset lent
      ∙ alike (ask 2 (sound_client C) ∷ ask 4 (eqb l (suc a)) ∷ ask 14 (first_fits room ms) ∷ []) (packing n w (suc a) l room) (Alike.over (sim.client_sound (suc a) (omega arith) hi) (Alike.same refl (λ y4.
      let own : l ≡ suc a = eqb-true l (suc a) y4 in
      Alike.same (ap (first_fits room) (subst (λ (j : ℕ). ms ≡ map message_bytes (pending_messages w (suc a) j)) (sym own) (client_right (suc a) (omega arith) hi).same)) (λ y14. Alike.done))))
