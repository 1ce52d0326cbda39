-- The bytes of one message of a packet: what the code finds, and that one which was taken has at most 17.
use Prim.Native.Nat.{ℕ, ◌-◌, ◌%◌, ◌≤◌, ◌<◌}
use native.Mathlib.Omega.{arith}
use mathlib.Core.Path.{◌≡◌, refl, ap, sym, ◌∙◌, subst}
use mathlib.Core.Bool.{Bool, true, false, cond, and-false}
use mathlib.Core.List.{List, [], ◌∷◌}
use lib.Dec.{eqb, leb, ltb}
use lib.ListN.{length, get_or, take, drop, drop_of_length-le}
use lib.Seq.{length-take-le}
use borrow.Author.Tests.{ne_eqb, eqb-false, leb-true, leb-false, ltb-true, ltb-false}
use Rattle.std.specs.Prelude.{Option, None}
use Rattle.wire.specs.declared.Message.{Message}
use Rattle.wire.specs.Bytes.{size_of_kind, parsed}
use Rattle.model.specs.Limits.{max_packet}
use Rattle.model.specs.Questions.{ask, asks, between, no_report, Answer, answer}
use Rattle.model.specs.Packets.{next_size}
use Rattle.wire_packet.specs.Packet.{message_start, message_end, message_taken}
use Rattle.wire_packet.proofs.Ends.{next_most, end_past, end_is, start_left}

-- ---- what the code finds

-- from a place of the packet, or from its end on
from_place : (bytes : List ℕ) (from : ℕ) → message_end bytes from - from ≡ next_size (drop from bytes)
from_place bytes from = go (ltb from (length bytes)) refl
  where
    go : (b : Bool) → ltb from (length bytes) ≡ b → message_end bytes from - from ≡ next_size (drop from bytes)
    go true e = omega (arith, end_is bytes from (ltb-true from (length bytes) e))
    go false e =
        let past = ltb-false from (length bytes) e in
        let none : next_size (drop from bytes) ≡ 0 = ap next_size (drop_of_length-le bytes past) in
        omega (arith, end_past bytes from past, none)

pub size_found : (bytes : List ℕ) (at from to r : ℕ) → from ≡ message_start bytes at → to ≡ message_end bytes from → r ≡ (to - from) % 256
    → r ≡ next_size (drop at bytes) % 256
size_found bytes at from to r ef et er =
    let left : next_size (drop from bytes) ≡ next_size (drop at bytes) = ap (λ (n : ℕ). next_size (drop n bytes)) ef ∙ ap next_size (start_left bytes at) in
    let size : to - from ≡ next_size (drop at bytes) = ap (λ (n : ℕ). n - from) et ∙ from_place bytes from ∙ left in
    er ∙ ap (λ (n : ℕ). n % 256) size

-- ---- a message that was taken

size_few : (k : ℕ) → size_of_kind k ≤ 17
size_few k = go (eqb k 5) (eqb k 7) (eqb k 8) (eqb k 4)
  where
    go : (a b c d : Bool) → cond a 17 (cond b 12 (cond c 10 (cond d 5 0))) ≤ 17
    go true b c d = omega arith
    go false true c d = omega arith
    go false false true d = omega arith
    go false false false true = omega arith
    go false false false false = omega arith

-- longer bytes are no message
long_refused : (s : List ℕ) → 17 < length s → parsed s ≡ None
unfolding parsed
long_refused s h = simp (ne_eqb (length s) (size_of_kind (get_or s 0 0)) (λ e. omega (arith, e, size_few (get_or s 0 0))), and-false)

-- and bytes that are no message are refused
pub unread_refused : {M : Type 0} (m : M) (b : Bool) → (answer (asks (ask 2 b ∷ ask 3 false ∷ [])) m m no_report).refusal ≡ 0 → ⊥
unfolding answer
unread_refused m true e = omega (arith, e)
unread_refused m false e = omega (arith, e)

-- So an end refuses longer bytes. It answers no' if it is not sound, and else by what it reads.
pub long_unread : {A : Type 0} (refusal : A → ℕ) (yes' : Option Message → A) (no' : A) → (refusal (yes' None) ≡ 0 → ⊥) → (refusal no' ≡ 0 → ⊥)
    → (b : Bool) (s : List ℕ) → 17 < length s → refusal (cond b (yes' (parsed s)) no') ≡ 0 → ⊥
long_unread refusal yes' no' p q true s h = subst (λ (r : Option Message). refusal (yes' r) ≡ 0 → ⊥) (sym (long_refused s h)) p
long_unread refusal yes' no' p q false s h = q

module _ {E : Type 0} (sound : E → Bool) (taking : E → List ℕ → Answer E) (long : (e : E) (m : List ℕ) → 17 < length m → (taking e m).refusal ≡ 0 → ⊥) where
  pub taken_few : (e : E) (bytes : List ℕ) (at : ℕ) → (message_taken sound taking e bytes at).refusal ≡ 0 → next_size (drop at bytes) ≤ 17
  unfolding message_taken
  taken_few e bytes at = go (eqb r 0) refl
    where
      r : ℕ
      r = asks (ask 2 (sound e) ∷ ask 15 (between 1 max_packet (length bytes)) ∷ [])

      left : List ℕ
      left = drop at bytes

      size : ℕ
      size = next_size left

      message : Answer E
      message = taking e (take size left)

      short : (b : Bool) → leb size 17 ≡ b → message.refusal ≡ 0 → size ≤ 17
      short true l z = leb-true size 17 l
      short false l z = absurd (long e (take size left) (omega (arith, length-take-le size left (next_most left), leb-false size 17 l)) z)

      go : (b : Bool) → eqb r 0 ≡ b → (cond b message (record { refusal = r; end = e; report = no_report })).refusal ≡ 0 → size ≤ 17
      go true q z = short (leb size 17) refl z
      go false q z = absurd (eqb-false r 0 q z)

  -- so its length fits a byte
  pub size_read : (e : E) (bytes : List ℕ) (at : ℕ) → (message_taken sound taking e bytes at).refusal ≡ 0
      → next_size (drop at bytes) % 256 ≡ next_size (drop at bytes)
  size_read e bytes at z = omega (arith, taken_few e bytes at z)
