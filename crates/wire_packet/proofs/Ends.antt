-- Where the messages of a packet end: what a loop over a packet uses of it, and what the code finds.
use Prim.Native.Nat.{ℕ, zero, suc, ◌+◌, ◌-◌, ◌≤◌, ◌<◌}
use native.Mathlib.Omega.{arith}
use native.Mathlib.Nat.{add-zero}
use mathlib.Core.Path.{◌≡◌, refl, ap, sym, ◌∙◌}
use mathlib.Core.Bool.{Bool, true, false, ◌&&◌, cond}
use mathlib.Core.List.{List}
use lib.Dec.{leb, ltb, eqb}
use lib.ListN.{length, get_or, take, drop, length-drop, drop_of_length-le}
use lib.Seq.{take-nil, drop-nil, drop-drop, drop-length, get_or-drop}
use borrow.Author.Tests.{lt-ltb, le-ltb, ltb-true, ltb-false, le-leb, lt-leb, leb-true, leb-false}
use Rattle.std.specs.Prelude.{min, Some, None, unwrap_or}
use Rattle.std.proofs.lemmas.Grind.{common_steps}
use Rattle.wire.specs.Bytes.{size_of_kind}
use Rattle.wire.specs.Size.{size_of}
use Rattle.model.specs.Packets.{next_size}
use Rattle.model.proofs.Tests.{and_left, and_right}
use Rattle.wire_packet.specs.Packet.{message_start, message_end}

-- ---- the next message

-- a message of a kind's size among so many bytes that are left
abbrev size_in : ℕ → ℕ → ℕ
size_in size left = cond (leb 1 size && leb size left) size left

module _ (size left : ℕ) where
  size_most : (whole : Bool) → (leb 1 size && leb size left) ≡ whole → cond whole size left ≤ left
  size_most true e = leb-true size left (and_right (leb 1 size) (leb size left) e)
  size_most false e = omega arith

  size_least : (whole : Bool) → (leb 1 size && leb size left) ≡ whole → 1 ≤ left → 1 ≤ cond whole size left
  size_least true e h = leb-true 1 size (and_left (leb 1 size) (leb size left) e)
  size_least false e h = h

-- The next message has at most the bytes that there are,
pub next_most : (bytes : List ℕ) → next_size bytes ≤ length bytes
next_most bytes = size_most (size_of_kind (get_or bytes 0 0)) (length bytes) _ refl

-- and one of them at least.
pub next_least : (bytes : List ℕ) → 1 ≤ length bytes → 1 ≤ next_size bytes
next_least bytes h = size_least (size_of_kind (get_or bytes 0 0)) (length bytes) _ refl h

-- ---- its end

module _ (bytes : List ℕ) (at : ℕ) where
  -- past the end of the packet
  pub end_past : length bytes ≤ at → message_end bytes at ≡ length bytes
  unfolding message_end
  end_past h = rw (le-ltb at (length bytes) h) refl

  -- within it
  pub end_is : at < length bytes → message_end bytes at ≡ at + next_size (drop at bytes)
  unfolding message_end
  end_is h = rw (lt-ltb at (length bytes) h) refl

  -- a place of the packet, or past its end
  by_place : (P : Type 0) → (at < length bytes → P) → (length bytes ≤ at → P) → P
  by_place P inside past = go (ltb at (length bytes)) refl
    where
      go : (b : Bool) → ltb at (length bytes) ≡ b → P
      go true e = inside (ltb-true at (length bytes) e)
      go false e = past (ltb-false at (length bytes) e)

  -- The end stands behind the place: a loop over a packet comes to an end.
  pub end_after : at < length bytes → at < message_end bytes at
  end_after h =
      let some = next_least (drop at bytes) (omega (arith, length-drop at bytes)) in
      omega (arith, end_is h)

  -- It stands within the packet.
  pub end_within : message_end bytes at ≤ length bytes
  end_within =
      by_place
      (message_end bytes at ≤ length bytes)
      (λ h. omega (arith, end_is h, next_most (drop at bytes), length-drop at bytes))
      (λ h. omega (arith, end_past h))

  -- What is lent from its place to its end is the next message of the rest.
  pub sub_is : take (message_end bytes at - at) (drop at bytes) ≡ take (next_size (drop at bytes)) (drop at bytes)
  sub_is =
      by_place
      (take (message_end bytes at - at) (drop at bytes) ≡ take (next_size (drop at bytes)) (drop at bytes))
      (λ h. let size : message_end bytes at - at ≡ next_size (drop at bytes) = omega (arith, end_is h) in ap (λ (n : ℕ). take n (drop at bytes)) size)
      (λ h. simp (drop_of_length-le bytes h, take-nil))

  -- What stands behind its end is what is left of the rest.
  pub drop_is : drop (message_end bytes at) bytes ≡ drop (next_size (drop at bytes)) (drop at bytes)
  drop_is =
      by_place
      (drop (message_end bytes at) bytes ≡ drop (next_size (drop at bytes)) (drop at bytes))
      (λ h. rw (end_is h) (sym (drop-drop (next_size (drop at bytes)) at bytes)))
      (λ h. rw (end_past h, drop-length, drop_of_length-le bytes h, drop-nil) refl)

-- ---- a place past the end

module _ (bytes : List ℕ) (at : ℕ) where
  pub start_at : at ≤ length bytes → at ≡ message_start bytes at
  start_at h = rw (le-leb at (length bytes) h) refl

  pub start_past : length bytes < at → length bytes ≡ message_start bytes at
  start_past h = rw (lt-leb at (length bytes) h) refl

  -- in the packet or not
  by_start : (P : Type 0) → (at ≤ length bytes → P) → (length bytes < at → P) → P
  by_start P inside past = go (leb at (length bytes)) refl
    where
      go : (b : Bool) → leb at (length bytes) ≡ b → P
      go true e = inside (leb-true at (length bytes) e)
      go false e = past (leb-false at (length bytes) e)

  -- A message begins no later than it ends,
  pub start_before : (from to : ℕ) → from ≡ message_start bytes at → to ≡ message_end bytes from → from ≤ to
  start_before from to ef et =
      by_place bytes from (from ≤ to) (λ h. omega (arith, end_after bytes from h)) (λ h. omega (arith, end_past bytes from h, within))
    where
      within : from ≤ length bytes
      within = by_start (from ≤ length bytes) (λ h. omega (arith, start_at h)) (λ h. omega (arith, start_past h))

  -- and the same bytes are left of the packet.
  pub start_left : drop (message_start bytes at) bytes ≡ drop at bytes
  start_left =
      by_start (drop (message_start bytes at) bytes ≡ drop at bytes)
      (λ h. ap (λ (n : ℕ). drop n bytes) (sym (start_at h)))
      (λ h. ap (λ (n : ℕ). drop n bytes) (sym (start_past h)) ∙ drop-length bytes ∙ sym (drop_of_length-le bytes {i = at} (omega arith)))

-- ---- what the code finds

-- the kind's size, or all that is left, and no more than that
size_lem : (size left : ℕ) → min (unwrap_or (cond (eqb size 0) None (Some size)) left) left ≡ size_in size left
size_lem zero left = omega arith
size_lem (suc size) left = grind (arith, common_steps)

module _ (bytes : List ℕ) (at : ℕ) (inside : at < length bytes) where
  -- the size of the next message, by the byte at its place and the bytes that are left
  next_at : next_size (drop at bytes) ≡ size_in (size_of_kind (get_or bytes at 0)) (length bytes - at)
  next_at = rw (get_or-drop, length-drop, add-zero) refl

  pub found : at + min (unwrap_or (size_of (get_or bytes at 0)) (length bytes - at)) (length bytes - at) ≡ message_end bytes at
  found = omega (arith, end_is bytes at inside, next_at, size_lem (size_of_kind (get_or bytes at 0)) (length bytes - at))
