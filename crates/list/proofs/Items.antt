-- Laws of the array that holds a list: the loop that fills it with the initial list, and what it is once the test of its unused places has passed.
use Prim.Native.Nat.{ℕ, min, zero, suc, ◌-◌, ◌≤◌}
use native.Mathlib.Omega.{arith}
use mathlib.Core.Path.{◌≡◌, refl, ap, ◌∙◌, sym}
use mathlib.Core.Bool.{Bool, true, false, ◌&&◌, and-true, and_assoc}
use mathlib.Core.List.{List, [], ◌∷◌}
use lib.Dec.{eqb, leb}
use lib.ListN.{length, take, drop, replicate, length-drop, drop_of_length-le}
use lib.Bits.{bit_or}
use borrow.Author.Tests.{eqb-true, leb-true, leb-false}
use Rattle.std.specs.List.{fold}
use Rattle.ot.proofs.Fits.{and_left, and_right}
use Rattle.list.proofs.Pad.{pad_of, pad_drop}
use Rattle.list.proofs.Zero.{or_zero}
use Rattle.list.specs.Items.{capacity, padded, stored, all_zero}

-- ---- unused places

-- all words together, ORed into one
pub zero_fold : (l : List ℕ) (all : ℕ) → eqb (fold bit_or all l) 0 ≡ (eqb all 0 && all_zero l)
unfolding all_zero
zero_fold [] all = sym (and-true (eqb all 0))
zero_fold (x ∷ l) all =
    zero_fold l (bit_or all x) ∙ ap (λ (b : Bool). b && all_zero l) (or_zero all x) ∙ and_assoc (eqb all 0) (eqb x 0) (all_zero l)

pub zero_end : (l : List ℕ) (i : ℕ) (flag : Bool) → length l ≤ i → flag ≡ (flag && all_zero (drop i l))
unfolding all_zero
zero_end l i flag h =
    sym (and-true flag) ∙ ap (λ (r : List ℕ). flag && all_zero r) (sym (drop_of_length-le l {i = i} h))

pub zeros : (l : List ℕ) → all_zero l ≡ true → l ≡ replicate (length l) 0
unfolding all_zero
zeros [] h = refl
zeros (x ∷ l) h =
    ap (λ (y : ℕ). y ∷ l) (eqb-true x 0 (and_left (eqb x 0) (all_zero l) h))
    ∙ ap (λ (r : List ℕ). 0 ∷ r) (zeros l (and_right (eqb x 0) (all_zero l) h))

pub all_zero_lem : (n : ℕ) → all_zero (replicate n 0) ≡ true
unfolding all_zero
all_zero_lem zero = refl
all_zero_lem (suc n) = all_zero_lem n

-- An array whose places from len on are zero holds its first len items.
pub padded_of : (n : ℕ) (a : List ℕ) (len : ℕ) → length a ≡ n → len ≤ n → all_zero (drop len a) ≡ true → a ≡ padded 0 n (take len a)
padded_of n a len e h z =
    pad_of n 0 a len e h
    (zeros (drop len a) z ∙ ap (λ (m : ℕ). replicate m 0) (length-drop len a ∙ ap (λ (m : ℕ). m - len) e))

pub padded_zero : (n : ℕ) (l : List ℕ) → all_zero (drop (length l) (padded 0 n l)) ≡ true
padded_zero n l = ap all_zero (pad_drop n 0 l (length l) (omega arith)) ∙ all_zero_lem (n - length l)

pub stored_of : (a : List ℕ) (len : ℕ) → length a ≡ capacity → len ≤ capacity → all_zero (drop len a) ≡ true → a ≡ stored (take len a)
stored_of = padded_of capacity

-- the places from len on, where there are any
pub drop_least : (l : List ℕ) (len k : ℕ) → k ≡ min len (length l) → drop k l ≡ drop len l
drop_least l len k e = go (leb len (length l)) refl
  where
    go : (b : Bool) → leb len (length l) ≡ b → drop k l ≡ drop len l
    go true t =
        let same : k ≡ len = omega (arith, leb-true len (length l) t) in
        ap (λ (j : ℕ). drop j l) same
    go false t =
        let past : length l ≤ len = omega (arith, leb-false len (length l) t) in
        drop_of_length-le l {i = k} (omega arith) ∙ sym (drop_of_length-le l {i = len} past)
