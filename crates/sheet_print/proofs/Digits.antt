-- A number's digits read back as the number, and only 0 begins with a zero.
use Prim.Native.Nat.{ℕ, zero, suc, ◌+◌, ◌*◌, ◌^◌, ◌/◌, ◌%◌, ◌<◌}
use mathlib.Core.Path.{◌≡◌, refl, ◌∙◌}
use mathlib.Core.Bool.{Bool, true, false, cond}
use mathlib.Core.List.{List, [], ◌∷◌, ◌++◌}
use native.Mathlib.Omega.{arith}
use borrow.Author.Tests.{leb-true, leb-false, le-leb}
use lib.Dec.{leb}
use lib.ListN.{length, get_or, length-append}
use Rattle.sheet_print.specs.Decimal.{digits, decimal, too_wide, with_digit, number_from, ReadsBack, NoLeadingZero, Zero}
use Rattle.sheet_print.proofs.Numbers.{number_some}

digit_read : (n d : ℕ) → d < 10 → n * 10 + d < too_wide → with_digit n (48 + d) ≡ n * 10 + d
digit_read n d h small = rw (le-leb 48 (48 + d) (omega arith), le-leb (48 + d) 57 (omega arith)) (omega arith)

one_more : (m : ℕ) (a : List ℕ) (b : ℕ) → number_from m (a ++ (b ∷ [])) ≡ with_digit (number_from m a) b
unfolding number_from
one_more m [] b = refl
one_more m (x ∷ a) b = one_more (with_digit m x) a b

last_read : (m n : ℕ) → n < too_wide → m ≡ n / 10 → with_digit m (48 + n % 10) ≡ n
last_read m n small e = digit_read m (n % 10) (omega arith) (omega arith) ∙ omega arith

-- the digits of a number that has no more than one after k
read : (k n : ℕ) → n < 10 ^ suc k → n < too_wide → number_from 0 (digits k n) ≡ n
unfolding digits number_from
read zero n h small = last_read 0 n small (omega arith)
read (suc k) n h small = go (leb 10 n) refl (read k (n / 10) (omega arith) (omega arith))
  where
    go : (t : Bool) → leb 10 n ≡ t → number_from 0 (digits k (n / 10)) ≡ n / 10 → number_from 0 (cond t (digits k (n / 10)) [] ++ ((48 + n % 10) ∷ [])) ≡ n
    go true e ih = one_more 0 (digits k (n / 10)) (48 + n % 10) ∙ last_read (number_from 0 (digits k (n / 10))) n small ih
    go false e ih = let l = leb-false 10 n e in last_read 0 n small (omega arith)

some_digit : (k n : ℕ) → length (digits k n) ≡ 0 → ⊥
unfolding digits
some_digit zero n e = omega arith
some_digit (suc k) n e = let l = length-append (cond (leb 10 n) (digits k (n / 10)) []) ((48 + n % 10) ∷ []) in omega arith

pub reads_back : ReadsBack
unfolding decimal
reads_back n h = number_some (decimal n) (some_digit 9 n) ∙ read 9 n (omega arith) h

-- what stands in front of a list that is not empty
front_of : (a b : List ℕ) (d : ℕ) → (get_or a 0 d ≡ d → ⊥) → get_or (a ++ b) 0 d ≡ d → ⊥
front_of [] b d h e = h refl
front_of (x ∷ a) b d h e = h e

no_zero : (k n : ℕ) → n < 10 ^ suc k → 0 < n → get_or (digits k n) 0 48 ≡ 48 → ⊥
unfolding digits
no_zero zero n h pos e = omega arith
no_zero (suc k) n h pos e = go (leb 10 n) refl (λ big. no_zero k (n / 10) (omega arith) (omega arith)) e
  where
    go : (t : Bool) → leb 10 n ≡ t → (9 < n → get_or (digits k (n / 10)) 0 48 ≡ 48 → ⊥)
        → get_or (cond t (digits k (n / 10)) [] ++ ((48 + n % 10) ∷ [])) 0 48 ≡ 48 → ⊥
    go true q ih = front_of (digits k (n / 10)) ((48 + n % 10) ∷ []) 48 (ih (let l = leb-true 10 n q in omega arith))
    go false q ih = λ first. let l = leb-false 10 n q in omega arith

pub no_leading_zero : NoLeadingZero
unfolding decimal
no_leading_zero zero h e = refl
no_leading_zero (suc n) h e = absurd (no_zero 9 (suc n) (omega arith) (omega arith) e)

pub zero_digit : Zero
unfolding decimal digits
zero_digit = refl
