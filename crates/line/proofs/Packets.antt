-- A packet as the definition has it: no message, a first that does not fit, and what is written else; and what the two ends cite of it.
use Prim.Native.Nat.{ℕ, zero, suc, ◌+◌, ◌-◌, ◌*◌, ◌≤◌, ◌<◌}
use native.Mathlib.Omega.{arith}
use mathlib.Core.Path.{◌≡◌, refl, ap, ap₂, sym, ◌∙◌, subst}
use mathlib.Core.Bool.{Bool, true, false, cond}
use mathlib.Core.List.{List, [], ◌∷◌, ◌++◌, map}
use lib.Dec.{leb, eqb}
use lib.ListN.{length, get_or, length-append}
use borrow.Author.Tests.{ne_eqb, eqb-true}
use Rattle.std.specs.Prelude.{Ok, Err}
use Rattle.refusal.specs.declared.Refusal.{Refusal}
use Rattle.refusal.specs.declared.Refusal.TheVariants as refusal
use Rattle.refusal.specs.Number.{number}
use Rattle.refusal.proofs.Some.{number_some}
use Rattle.limits.specs.Limits.{max_pending}
use Rattle.list.specs.declared.Origin.{Origin}
use Rattle.list.specs.Places.{origin_at}
use Rattle.wire.specs.declared.Message.{Message}
use Rattle.wire.specs.Bytes.{bytes_of}
use Rattle.model.specs.Line as model
use Rattle.model.specs.Line.{numbers_from}
use Rattle.model.specs.Questions.{Question, ask, asks, Sent}
use Rattle.model.specs.Packets.{joined, fitting, first_fits, put_from, packed}
use Rattle.model.proofs.Tests.{Numbered}
use Rattle.line.specs.declared.Line.{Line}
use Rattle.line.specs.Line.{line_of}
use Rattle.line.proofs.Parts.{asks_append, then_left, then_yes, then_no}
use Rattle.line.specs.Sending.{answered, IsPending}
use Rattle.line.specs.Packet.{origin_of, message_at, messages, Filled}
use Rattle.line.proofs.Putting.{some_bytes, few_bytes, fitting_first, fitting_stops, fitting_none}
use Rattle.line.proofs.Filling.{behind, behind_next, behind_last}

-- ---- the message of a pending edit

pub message_is : (line direction : ℕ) (v : Line) (words origins : List ℕ) (number : ℕ) (o : Origin) (m : Message)
    → o ≡ origin_at (get_or origins (number - 1 - v.acked) 0) → m ≡ model.line_message line direction o (line_of v words) number
    → m ≡ message_at line direction v words origins number
unfolding message_at
message_is line direction v words origins number o m eo em =
    let place : number - 1 - v.acked ≡ number - (v.acked + 1) = omega arith in
    em ∙ ap (λ (x : Origin). model.line_message line direction x (line_of v words) number) (eo ∙ ap (λ (i : ℕ). origin_at (get_or origins i 0)) place)

-- ---- the answer

module _ (offset : ℕ) (lent : List ℕ) where
  none_packed : answered (Ok 0) lent ≡ packed [] [] offset lent
  unfolding packed joined fitting
  none_packed = refl

  module _ (m : List ℕ) (ms : List (List ℕ)) (some : 1 ≤ length m) (n : ℕ) (after : List ℕ) (w : Filled (m ∷ ms) offset lent n after) where
    abbrev room : ℕ
    room = length lent - offset

    -- by whether the first fits
    abbrev answer : Bool → List ℕ → Sent
    answer b bytes =
        let r = asks (ask 14 b ∷ []) in
        cond (eqb r 0) (record { refusal = 0; written = length bytes; buffer = put_from offset bytes lent }) (record { refusal = r; written = 0; buffer = lent })

    packed_is : (b : Bool) → leb (length m) room ≡ b → answer b (joined (fitting room (m ∷ ms))) ≡ packed [] (m ∷ ms) offset lent
    unfolding packed
    packed_is b e = sym (ap (λ (c : Bool). answer c (joined (fitting room (m ∷ ms)))) e)

    first_short : n ≡ 0 → answered (Err refusal.Room) after ≡ packed [] (m ∷ ms) offset lent
    first_short z = go (leb (length m) room) refl
      where
        go : (b : Bool) → leb (length m) room ≡ b → answered (Err refusal.Room) after ≡ packed [] (m ∷ ms) offset lent
        go true t =
            let e = w.size ∙ ap length (fitting_first room m ms t) ∙ length-append m (joined (fitting (room - length m) ms)) in
            absurd (omega (arith, e))
        go false f =
            ap (answered (Err refusal.Room)) (w.bytes ∙ ap (λ (x : List ℕ). put_from offset x lent) (fitting_stops room m ms f)) ∙ packed_is false f

    first_fits_lem : (n ≡ 0 → ⊥) → answered (Ok n) after ≡ packed [] (m ∷ ms) offset lent
    first_fits_lem h = go (leb (length m) room) refl
      where
        go : (b : Bool) → leb (length m) room ≡ b → answered (Ok n) after ≡ packed [] (m ∷ ms) offset lent
        go true t = ap₂ (λ (k : ℕ) (l : List ℕ). answered (Ok k) l) w.size w.bytes ∙ packed_is true t
        go false f = absurd (h (w.size ∙ ap length (fitting_stops room m ms f)))

module _ (line direction : ℕ) (v : Line) (words origins : List ℕ) (offset : ℕ) (lent : List ℕ) where
  abbrev all : List (List ℕ)
  all = messages line direction v words origins

  abbrev first : Message
  first = message_at line direction v words origins (v.acked + 1)

  pub nothing_pending : v.made ≤ v.acked
      → answered (Ok 0) lent ≡ packed [] (messages line direction v words origins) offset lent
  unfolding messages
  nothing_pending h =
      none_packed offset lent ∙ sym (ap (λ (ms : List (List ℕ)). packed [] ms offset lent) (behind_last line direction v words origins v.acked h))

  module _ (some : v.acked < v.made) (n : ℕ) (after : List ℕ) (w : Filled (messages line direction v words origins) offset lent n after) where
    abbrev others : List (List ℕ)
    others = behind line direction v words origins (v.acked + 1)

    split : all ≡ bytes_of first ∷ others
    unfolding messages
    split = behind_next line direction v words origins v.acked some

    filled : Filled (bytes_of first ∷ others) offset lent n after
    filled = subst (λ (ms : List (List ℕ)). Filled ms offset lent n after) split w

    back : packed [] (bytes_of first ∷ others) offset lent ≡ packed [] all offset lent
    back = sym (ap (λ (ms : List (List ℕ)). packed [] ms offset lent) split)

    pub first_too_long : n ≡ 0 → answered (Err refusal.Room) after ≡ packed [] (messages line direction v words origins) offset lent
    first_too_long z =
        first_short offset lent (bytes_of first) others (some_bytes first) n after filled z
        ∙ back

    pub some_written : (n ≡ 0 → ⊥)
        → answered (Ok n) after ≡ packed [] (messages line direction v words origins) offset lent
    some_written h = first_fits_lem offset lent (bytes_of first) others (some_bytes first) n after filled h ∙ back

-- ---- for the two ends

-- The messages are those of an end, where each of its pending edits has that message.
pub messages_are : (line direction : ℕ) (v : Line) (words origins : List ℕ) (f : ℕ → Message)
    → ((k : ℕ) → IsPending v k → model.line_message line direction (origin_of v origins k) (line_of v words) k ≡ f k)
    → messages line direction v words origins ≡ map (λ k. bytes_of (f k)) (model.pending_numbers (line_of v words))
unfolding messages message_at numbers_from
messages_are line direction v words origins f e = go (v.acked + 1) (v.made - v.acked) (λ k low high. ap bytes_of (e k (omega arith, omega arith)))
  where
    g : ℕ → List ℕ
    g k = bytes_of (message_at line direction v words origins k)

    go : (from count : ℕ) → ((k : ℕ) → from ≤ k → k < from + count → g k ≡ bytes_of (f k))
        → map g (numbers_from from count) ≡ map (λ k. bytes_of (f k)) (numbers_from from count)
    go from zero h = refl
    go from (suc count) h =
        ap₂ (λ (x : List ℕ) (xs : List (List ℕ)). x ∷ xs) (h from (omega arith) (omega arith)) (go (suc from) count (λ k low high. h k (omega arith) (omega arith)))

-- An end's own questions come before 14.
module _ (qs : List Question) (ms : List (List ℕ)) (offset : ℕ) (lent : List ℕ) where
  abbrev bytes : List ℕ
  bytes = joined (fitting (length lent - offset) ms)

  abbrev last : List Question
  last = ask 14 (first_fits (length lent - offset) ms) ∷ []

  abbrev answer_if : Bool → ℕ → Sent
  answer_if b r =
      cond b (record { refusal = 0; written = length bytes; buffer = put_from offset bytes lent }) (record { refusal = r; written = 0; buffer = lent })

  -- where all said yes, the packet is as if there were none
  pub packed_yes : Numbered qs → asks qs ≡ 0 → packed [] ms offset lent ≡ packed qs ms offset lent
  unfolding packed
  packed_yes numbered z = sym (ap (λ (r : ℕ). answer_if (eqb r 0) r) (asks_append qs last numbered ∙ then_yes (asks qs) (asks last) z))

  -- a refusal writes nothing
  pub packed_no : Numbered qs → (r : Refusal) → number r ≡ asks qs → answered (Err r) lent ≡ packed qs ms offset lent
  unfolding packed
  packed_no numbered r er =
      let n : asks qs ≡ 0 → ⊥ = λ z. number_some r (er ∙ z) in
      ap (λ (k : ℕ). answer_if false k) er
      ∙ sym
      (ap (λ (r : ℕ). answer_if (eqb r 0) r) (asks_append qs last numbered ∙ then_no (asks qs) (asks last) n)
      ∙ ap (λ (b : Bool). answer_if b (asks qs)) (ne_eqb (asks qs) 0 n))

  -- where no question refuses, what is written are the messages that fit
  written_most : (most : ℕ) → Numbered qs → (asks qs ≡ 0 → length bytes ≤ most) → (packed qs ms offset lent).written ≤ most
  unfolding packed
  written_most most numbered h = go (eqb (asks (qs ++ last)) 0) refl
    where
      go : (b : Bool) → eqb (asks (qs ++ last)) 0 ≡ b → (answer_if b (asks (qs ++ last))).written ≤ most
      go true t = h (then_left (asks qs) (asks last) (sym (asks_append qs last numbered) ∙ eqb-true (asks (qs ++ last)) 0 t))
      go false f = omega arith

-- ---- how long a packet is

-- at most 17 bytes for each message
joined_small : (f : ℕ → Message) (room from count : ℕ) → length (joined (fitting room (map (λ k. bytes_of (f k)) (numbers_from from count)))) ≤ 17 * count
unfolding numbers_from
joined_small f room from zero = omega (arith, ap length (fitting_none room))
joined_small f room from (suc count) = go (leb (length x) room) refl (joined_small f (room - length x) (suc from) count)
  where
    x : List ℕ
    x = bytes_of (f from)

    others : List (List ℕ)
    others = map (λ k. bytes_of (f k)) (numbers_from (suc from) count)

    go : (b : Bool) → leb (length x) room ≡ b → length (joined (fitting (room - length x) others)) ≤ 17 * count
        → length (joined (fitting room (x ∷ others))) ≤ 17 * suc count
    go true t h =
        omega
        (arith, few_bytes (f from), h, ap length (fitting_first room x others t), length-append x (joined (fitting (room - length x) others)))
    go false e h = omega (arith, ap length (fitting_stops room x others e))

-- 64 × 17, so that the length of a packet fits 16 bits. That at most 64 edits are pending is known where the questions said yes.
pub written_small : (qs : List Question) (f : ℕ → Message) (from count offset : ℕ) (lent : List ℕ) → Numbered qs → (asks qs ≡ 0 → count ≤ max_pending)
    → (packed qs (map (λ k. bytes_of (f k)) (numbers_from from count)) offset lent).written ≤ 1088
written_small qs f from count offset lent numbered few =
    written_most qs (map (λ k. bytes_of (f k)) (numbers_from from count)) offset lent 1088 numbered
    (λ z. omega (arith, few z, joined_small f (length lent - offset) from count))
