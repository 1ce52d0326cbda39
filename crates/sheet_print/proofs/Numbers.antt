-- Laws of numbers as text.
use Prim.Native.Nat.{ℕ, suc, ◌+◌, ◌-◌, ◌*◌, ◌<◌, ◌≤◌, min}
use mathlib.Core.Path.{◌≡◌, refl, ◌∙◌}
use mathlib.Core.Bool.{◌&&◌}
use mathlib.Core.List.{List, [], ◌∷◌}
use native.Mathlib.Numerals.{add-one}
use native.Mathlib.Omega.{arith}
use lib.Dec.{leb}
use lib.ListN.{length, get_or, drop, drop_of_length-le}
use lib.Seq.{drop-cons}
use Rattle.sheet_print.specs.Sink.{Sink, put, puts}
use Rattle.sheet_print.specs.Decimal.{decimal, listed, too_wide, with_digit, number_from, number_of}
use Rattle.sheet_print.proofs.Sinks.{both, puts_append}

-- Reading a word byte by byte.
pub with_digit_le : (n b : ℕ) → with_digit n b ≤ too_wide
with_digit_le n b = both (λ k. k ≤ too_wide) (leb 48 b && leb b 57) (min too_wide (n * 10 + (b - 48))) too_wide (omega arith) (omega arith)

pub number_on : (w : List ℕ) (n i : ℕ) → i < length w → number_from (with_digit n (get_or w i 0)) (drop (i + 1) w) ≡ number_from n (drop i w)
unfolding number_from
number_on w n i h = rw (drop-cons w i 0 h, add-one i)

pub number_end : (w : List ℕ) (n i : ℕ) → length w ≤ i → number_from n (drop i w) ≡ n
unfolding number_from
number_end w n i h = rw (drop_of_length-le w h)

pub number_none : (w : List ℕ) → length w ≡ 0 → number_of w ≡ too_wide
unfolding number_of
number_none [] h = refl
number_none (b ∷ w) h = absurd (omega arith)

pub number_some : (w : List ℕ) → (length w ≡ 0 → ⊥) → number_of w ≡ number_from 0 w
unfolding number_of
number_some [] h = absurd (h refl)
number_some (b ∷ w) h = refl

-- Printing a list: one turn of the loop over a list, and its end
pub listed_turn : (l : List ℕ) (i : ℕ) (a : Sink) {b z : Sink} → i < length l → b ≡ puts (32 ∷ decimal (get_or l i 0)) a
    → puts (listed (drop i l)) a ≡ z → puts (listed (drop (i + 1) l)) b ≡ z
unfolding listed
listed_turn l i a {b} {z} h e r =
    rw (e, add-one i, ← (puts_append (32 ∷ decimal (get_or l i 0)) (listed (drop (suc i) l)) a)) (rw (drop-cons l i 0 h) at r)

pub listed_end : (l : List ℕ) (i : ℕ) (a : Sink) {b z : Sink} → length l ≤ i → b ≡ put 10 a → puts (listed (drop i l)) a ≡ z → b ≡ z
unfolding listed puts
listed_end l i a {b} {z} h e r = e ∙ (rw (drop_of_length-le l h) at r)
