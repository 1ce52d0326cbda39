-- Bytes put into a buffer from a place on, one stretch behind another, and the messages that fit there.
use Prim.Native.Nat.{ℕ, ◌+◌, ◌-◌, ◌≤◌}
use native.Mathlib.Nat.{add-zero, add_assoc}
use native.Mathlib.Omega.{arith}
use mathlib.Core.Path.{◌≡◌, refl, ap, ap₂, sym, ◌∙◌}
use mathlib.Core.Bool.{Bool, true, false, cond}
use mathlib.Core.List.{List, [], ◌∷◌, ◌++◌, append_assoc, append-nil}
use lib.Dec.{leb}
use lib.ListN.{length, take, drop, length-append, length-drop, take-append-drop}
use lib.Seq.{length-take-le, take_at, drop_at, drop-drop}
use Rattle.wire.specs.declared.Message.{Message}
use Rattle.wire.specs.declared.Message.TheVariants.{Insert, Delete, Nothing, Ack}
use Rattle.wire.specs.Bytes.{bytes_of}
use Rattle.model.specs.Packets.{joined, fitting, put_from}

-- ---- the length of a message

pub some_bytes : (m : Message) → 1 ≤ length (bytes_of m)
unfolding bytes_of
some_bytes (Insert h p x r) = omega arith
some_bytes (Delete h p) = omega arith
some_bytes (Nothing h) = omega arith
some_bytes (Ack l d s) = omega arith

pub few_bytes : (m : Message) → length (bytes_of m) ≤ 17
unfolding bytes_of
few_bytes (Insert h p x r) = omega arith
few_bytes (Delete h p) = omega arith
few_bytes (Nothing h) = omega arith
few_bytes (Ack l d s) = omega arith

-- ---- a stretch

-- inside the buffer, no bytes are no exception
pub put_inside : (at : ℕ) (x lent : List ℕ) → at ≤ length lent → put_from at x lent ≡ take at lent ++ (x ++ drop (at + length x) lent)
put_inside at [] lent h = sym (ap (λ (n : ℕ). take at lent ++ drop n lent) (add-zero at) ∙ take-append-drop at lent)
put_inside at (b ∷ bs) lent h = refl

pub put_length : (at : ℕ) (x lent : List ℕ) → length x ≤ length lent - at → length (put_from at x lent) ≡ length lent
put_length at [] lent h = refl
put_length at (b ∷ bs) lent h =
    let t : length (take at lent) ≡ at = length-take-le at lent (omega arith) in
    simp (length-append, length-drop) (omega (arith, t))

-- one stretch, and another behind it
pub put_behind : (at : ℕ) (x y lent : List ℕ) → at + length x + length y ≤ length lent
    → put_from (at + length x) y (put_from at x lent) ≡ put_from at (x ++ y) lent
put_behind at x y lent h =
    let n = at + length x in
    let front = take at lent ++ x in
    let rest = drop n lent in
    let size : length front ≡ n = length-append (take at lent) x ∙ ap (λ (k : ℕ). k + length x) (length-take-le at lent (omega arith)) in
    let first : put_from at x lent ≡ front ++ rest = put_inside at x lent (omega arith) ∙ sym (append_assoc (take at lent) x rest) in
    let long : length (put_from at x lent) ≡ length lent = put_length at x lent (omega arith) in
    let before : take n (put_from at x lent) ≡ front = ap (take n) first ∙ take_at front rest n size in
    let after : drop (n + length y) (put_from at x lent) ≡ drop (n + length y) lent =
    sym (drop-drop (length y) n (put_from at x lent)) ∙ ap (drop (length y)) (ap (drop n) first ∙ drop_at front rest n size) ∙ drop-drop (length y) n lent in
    let end : n + length y ≡ at + length (x ++ y) = add_assoc at (length x) (length y) ∙ ap (λ (k : ℕ). at + k) (sym (length-append x y)) in
    put_inside n y (put_from at x lent) (omega (arith, long))
    ∙ ap₂ (λ (l r : List ℕ). l ++ (y ++ r)) before (after ∙ ap (λ (k : ℕ). drop k lent) end)
    ∙ append_assoc (take at lent) x (y ++ drop (at + length (x ++ y)) lent)
    ∙ ap (λ (l : List ℕ). take at lent ++ l) (sym (append_assoc x y (drop (at + length (x ++ y)) lent)))
    ∙ sym (put_inside at (x ++ y) lent (omega arith))

-- ---- the messages that fit

module _ (room : ℕ) (m : List ℕ) (ms : List (List ℕ)) where
  pub fitting_first : leb (length m) room ≡ true → joined (fitting room (m ∷ ms)) ≡ m ++ joined (fitting (room - length m) ms)
  unfolding joined fitting
  fitting_first t = ap (λ (b : Bool). joined (cond b (m ∷ fitting (room - length m) ms) [])) t

  pub fitting_stops : leb (length m) room ≡ false → joined (fitting room (m ∷ ms)) ≡ []
  unfolding joined fitting
  fitting_stops f = ap (λ (b : Bool). joined (cond b (m ∷ fitting (room - length m) ms) [])) f

pub fitting_none : (room : ℕ) → joined (fitting room []) ≡ []
unfolding joined fitting
fitting_none room = refl

-- one message alone
pub fitting_one : (room : ℕ) (m : List ℕ) → leb (length m) room ≡ true → joined (fitting room (m ∷ [])) ≡ m
fitting_one room m t =
    fitting_first room m [] t ∙ ap (λ (l : List ℕ). m ++ l) (fitting_none (room - length m)) ∙ append-nil m
