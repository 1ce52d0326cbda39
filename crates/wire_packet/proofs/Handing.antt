-- A packet taken by offsets: where the loop over its messages begins, one turn of it, where it ends, and what questions 2 and 15 refuse.
-- All of it over any end and any taking of one message, so that the client and the server cite the same laws.
use Prim.Native.Nat.{ℕ, zero, suc, ◌+◌, ◌-◌, ◌≤◌, ◌<◌}
use native.Mathlib.Numerals.{add-one}
use native.Mathlib.Omega.{arith}
use mathlib.Core.Path.{◌≡◌, refl, ap, ap₂, sym, ◌∙◌}
use mathlib.Core.Bool.{Bool, true, false, cond}
use mathlib.Core.List.{List, [], ◌∷◌}
use lib.Dec.{eqb}
use lib.ListN.{length, take, drop, length-drop}
use borrow.Author.Tests.{eq-eqb, ne_eqb, eqb-true, eqb-false}
use Rattle.model.specs.Limits.{max_packet}
use Rattle.model.specs.Questions.{ask, asks, between, no_report, Answer}
use Rattle.model.specs.Packets.{next_size, counted, handed_over, unpacked}
use Rattle.wire_packet.specs.Packet.{message_start, message_end, message_taken}
use Rattle.wire_packet.proofs.Ends.{next_least, end_after, end_within, sub_is, drop_is, start_left}

-- ---- what a packet answers

-- every message was taken
abbrev pub all_taken : {E : Type 0} → ℕ → E → Answer E
all_taken count e = record { refusal = 0; end = e; report = counted count }

-- a message was refused, behind so many that were taken
abbrev pub stopped_at : {E : Type 0} → ℕ → Answer E → Answer E
stopped_at count a = record { refusal = a.refusal; end = a.end; report = counted count }

-- the packet was refused, and none of its messages was asked
abbrev pub refused_by : {E : Type 0} → ℕ → E → Answer E
refused_by r e = record { refusal = r; end = e; report = no_report }

-- ---- one message and the rest

-- the rest behind a message is shorter
rest_less : (bytes : List ℕ) (most : ℕ) → length bytes ≤ suc most → length (drop (next_size bytes) bytes) ≤ most
rest_less bytes most h = go (eqb (length bytes) 0) refl
  where
    go : (b : Bool) → eqb (length bytes) 0 ≡ b → length (drop (next_size bytes) bytes) ≤ most
    go true t = omega (arith, eqb-true (length bytes) 0 t, length-drop (next_size bytes) bytes)
    go false f =
        let some : 1 ≤ length bytes = omega (arith, eqb-false (length bytes) 0 f) in
        omega (arith, next_least bytes some, length-drop (next_size bytes) bytes)

-- behind a message that answered a: what the rest answers, unless it was refused
abbrev goes_on : {E : Type 0} → ℕ → Answer E → Answer E → Answer E
goes_on count a rest = cond (eqb a.refusal 0) rest (stopped_at count a)

module _ {E : Type 0} (taking : E → List ℕ → Answer E) where
  abbrev next : E → List ℕ → Answer E
  next e bytes = taking e (take (next_size bytes) bytes)

  abbrev rest : ℕ → ℕ → E → List ℕ → Answer E
  rest most count e bytes = handed_over taking most (suc count) (next e bytes).end (drop (next_size bytes) bytes)

  -- one step of the definition
  abbrev step : ℕ → E → List ℕ → Answer E → Answer E
  step count e bytes behind = cond (eqb (length bytes) 0) (all_taken count e) (goes_on count (next e bytes) behind)

  -- how many messages there can be does not matter, as long as it is at least the length
  most_same : (most more count : ℕ) (e : E) (bytes : List ℕ) → length bytes ≤ most → length bytes ≤ more
      → handed_over taking most count e bytes ≡ handed_over taking more count e bytes
  unfolding handed_over
  most_same zero zero count e bytes h g = refl
  most_same zero (suc more) count e bytes h g = rw (eq-eqb (length bytes) 0 (omega arith)) refl
  most_same (suc most) zero count e bytes h g = rw (eq-eqb (length bytes) 0 (omega arith)) refl
  most_same (suc most) (suc more) count e bytes h g =
      ap (step count e bytes)
      (most_same most more (suc count) (next e bytes).end (drop (next_size bytes) bytes) (rest_less bytes most h) (rest_less bytes more g))

  -- what some bytes answer behind so many messages taken
  abbrev handed : ℕ → E → List ℕ → Answer E
  handed count e bytes = handed_over taking (length bytes) count e bytes

  handed_none : (count : ℕ) (e : E) (bytes : List ℕ) → length bytes ≡ 0 → all_taken count e ≡ handed count e bytes
  unfolding handed_over
  handed_none count e bytes z = sym (ap (λ (n : ℕ). handed_over taking n count e bytes) z)

  handed_next : (count : ℕ) (e : E) (bytes : List ℕ) → 1 ≤ length bytes → (a : Answer E) → a ≡ next e bytes
      → goes_on count a (handed (suc count) a.end (drop (next_size bytes) bytes)) ≡ handed count e bytes
  unfolding handed_over
  handed_next count e bytes some a ea = answered ∙ shorter (length bytes) refl
    where
      behind : List ℕ
      behind = drop (next_size bytes) bytes

      answered : goes_on count a (handed (suc count) a.end behind) ≡ goes_on count (next e bytes) (rest (length behind) count e bytes)
      answered = ap (λ (x : Answer E). goes_on count x (handed (suc count) x.end behind)) ea

      shorter : (n : ℕ) → length bytes ≡ n → goes_on count (next e bytes) (rest (length behind) count e bytes) ≡ handed count e bytes
      shorter zero z = absurd (omega arith)
      shorter (suc n) en =
          ap (goes_on count (next e bytes)) (most_same (length behind) n (suc count) (next e bytes).end behind (omega arith) (rest_less bytes n (omega arith)))
          ∙ sym (ap (λ (b : Bool). cond b (all_taken count e) (goes_on count (next e bytes) (rest n count e bytes))) (ne_eqb (length bytes) 0 (λ z. omega (arith, z))))
          ∙ sym (ap (λ (m : ℕ). handed_over taking m count e bytes) en)

-- ---- the loop by offsets

-- The messages before a place were taken, so many of them, and made this of the end.
pub record Handing {E : Type 0} (taking : E → List ℕ → Answer E) (bytes : List ℕ) (start : E) (at count : ℕ) (e : E) : Type 0 where
  pub inside : at ≤ length bytes
  pub few : count ≤ at
  pub left : handed_over taking (length (drop at bytes)) count e (drop at bytes) ≡ handed_over taking (length bytes) 0 start bytes

module _ {E : Type 0} (taking : E → List ℕ → Answer E) (bytes : List ℕ) (start : E) where
  pub handing_start : Handing taking bytes start 0 0 start
  handing_start = record { inside = omega arith; few = omega arith; left = refl }

  module _ {at count : ℕ} {e : E} (h : Handing taking bytes start at count e) where
    -- no byte is left
    pub handing_end : length bytes ≤ at → all_taken count e ≡ handed_over taking (length bytes) 0 start bytes
    handing_end g = handed_none taking count e (drop at bytes) (omega (arith, length-drop at bytes)) ∙ h.left

    -- the message from here to its end is lent, and answers a
    module _ (more : at < length bytes) (to : ℕ) (et : to ≡ message_end bytes at) (a : Answer E) (ea : a ≡ taking e (take (to - at) (drop at bytes))) where
      is_next : a ≡ taking e (take (next_size (drop at bytes)) (drop at bytes))
      is_next = ea ∙ ap (λ (n : ℕ). taking e (take (n - at) (drop at bytes))) et ∙ ap (taking e) (sub_is bytes at)

      behind : drop (next_size (drop at bytes)) (drop at bytes) ≡ drop to bytes
      behind = sym (drop_is bytes at) ∙ ap (λ (n : ℕ). drop n bytes) (sym et)

      goes_on_lem : goes_on count a (handed taking (suc count) a.end (drop to bytes)) ≡ handed_over taking (length bytes) 0 start bytes
      goes_on_lem =
          ap (λ (l : List ℕ). goes_on count a (handed taking (suc count) a.end l)) (sym behind)
          ∙ handed_next taking count e (drop at bytes) (omega (arith, length-drop at bytes)) a is_next
          ∙ h.left

      abbrev if : Bool → Answer E
      if taken = cond taken (handed taking (suc count) a.end (drop to bytes)) (stopped_at count a)

      -- it was refused
      pub handing_stop : (a.refusal ≡ 0 → ⊥) → stopped_at count a ≡ handed_over taking (length bytes) 0 start bytes
      handing_stop n = sym (ap if (ne_eqb a.refusal 0 n)) ∙ goes_on_lem

      -- or taken
      pub handing_turn : a.refusal ≡ 0 → Handing taking bytes start to (count + 1) a.end
      handing_turn z =
          record {
            inside = omega (arith, end_within bytes at);
            few = omega (arith, end_after bytes at more, h.few);
            left = ap (λ (n : ℕ). handed taking n a.end (drop to bytes)) (add-one count) ∙ sym (ap if (eq-eqb a.refusal 0 z)) ∙ goes_on_lem;
          }

-- ---- questions 2 and 15

module _ {E : Type 0} (sound : E → Bool) (taking : E → List ℕ → Answer E) (e : E) (bytes : List ℕ) where
  abbrev right_length : Bool
  right_length = between 1 max_packet (length bytes)

  -- by what the two questions say
  abbrev asked : Bool → Bool → Answer E → Answer E
  asked s l a = let r = asks (ask 2 s ∷ ask 15 l ∷ []) in cond (eqb r 0) a (refused_by r e)

  unpacked_is : (s l : Bool) → sound e ≡ s → right_length ≡ l → asked s l (handed taking 0 e bytes) ≡ unpacked sound taking e bytes
  unfolding unpacked
  unpacked_is s l es el = ap₂ (λ (x y : Bool). asked x y (handed taking 0 e bytes)) (sym es) (sym el)

  pub packet_unsound : sound e ≡ false → refused_by 2 e ≡ unpacked sound taking e bytes
  packet_unsound h = unpacked_is false right_length h refl

  pub packet_length : sound e ≡ true → between 1 max_packet (length bytes) ≡ false → refused_by 15 e ≡ unpacked sound taking e bytes
  packet_length h l = unpacked_is true false h l

  pub packet_taken_lem : sound e ≡ true → between 1 max_packet (length bytes) ≡ true → handed_over taking (length bytes) 0 e bytes ≡ unpacked sound taking e bytes
  packet_taken_lem h l = unpacked_is true true h l

  -- ---- one message of a packet

  module _ (at : ℕ) where
    abbrev here : Answer E
    here = taking e (take (next_size (drop at bytes)) (drop at bytes))

    taken_is : (s l : Bool) → sound e ≡ s → right_length ≡ l → asked s l here ≡ message_taken sound taking e bytes at
    unfolding message_taken
    taken_is s l es el = ap₂ (λ (x y : Bool). asked x y here) (sym es) (sym el)

    pub message_unsound : sound e ≡ false → refused_by 2 e ≡ message_taken sound taking e bytes at
    message_unsound h = taken_is false right_length h refl

    pub message_length : sound e ≡ true → between 1 max_packet (length bytes) ≡ false → refused_by 15 e ≡ message_taken sound taking e bytes at
    message_length h l = taken_is true false h l

    -- the message is lent from its start, where no other bytes are left than at its place, to its end
    module _ (from to : ℕ) (ef : from ≡ message_start bytes at) (et : to ≡ message_end bytes from) where
      lent_is : take (to - from) (drop from bytes) ≡ take (next_size (drop at bytes)) (drop at bytes)
      lent_is =
          ap (λ (n : ℕ). take (n - from) (drop from bytes)) et ∙ sub_is bytes from
          ∙ ap (λ (l : List ℕ). take (next_size l) l) (ap (λ (n : ℕ). drop n bytes) ef ∙ start_left bytes at)

      pub message_taken_lem : sound e ≡ true → between 1 max_packet (length bytes) ≡ true
          → taking e (take (to - from) (drop from bytes)) ≡ message_taken sound taking e bytes at
      message_taken_lem h l = ap (taking e) lent_is ∙ taken_is true true h l
