-- Numbers as text: the decimal digits of a 32-bit number, and the number that a word reads as (01: "Run program").
use Rattle.std.specs.Prelude.{ℕ, zero, suc, ◌+◌, ◌-◌, ◌*◌, ◌/◌, ◌%◌, ◌<◌, min, ◌≡◌, ◌&&◌, cond, List, [], ◌∷◌, ◌++◌, leb, get_or}

-- The digits of n, at most k of them before the last: the last is n % 10, and those of n / 10 stand before it.
unfoldable pub digits : ℕ → ℕ → List ℕ
digits zero n = (48 + n % 10) ∷ []
digits (suc k) n = cond (leb 10 n) (digits k (n / 10)) [] ++ ((48 + n % 10) ∷ [])

-- a number of 32 bits has at most nine before its last
unfoldable pub decimal : ℕ → List ℕ
decimal n = digits 9 n

-- a list of numbers to the end of a line: a space before each
unfoldable pub listed : List ℕ → List ℕ
listed [] = 10 ∷ []
listed (x ∷ xs) = (32 ∷ decimal x) ++ listed xs

-- what a word reads as that is no number, or a number of more than 32 bits: it fits no field
abbrev pub too_wide : ℕ
too_wide = 4294967296

-- a number so far, and the next byte of its word
abbrev pub with_digit : ℕ → ℕ → ℕ
with_digit n b = cond (leb 48 b && leb b 57) (min too_wide (n * 10 + (b - 48))) too_wide

unfoldable pub number_from : ℕ → List ℕ → ℕ
number_from n [] = n
number_from n (b ∷ bs) = number_from (with_digit n b) bs

-- Unsigned decimal, leading zeros read.
unfoldable pub number_of : List ℕ → ℕ
number_of [] = too_wide
number_of (b ∷ bs) = number_from 0 (b ∷ bs)

-- What was printed reads back as the number.
abbrev pub ReadsBack : Type 0
ReadsBack = (n : ℕ) → n < too_wide → number_of (decimal n) ≡ n

-- Only 0 begins with a zero.
abbrev pub NoLeadingZero : Type 0
NoLeadingZero = (n : ℕ) → n < too_wide → get_or (decimal n) 0 48 ≡ 48 → n ≡ 0

-- 0 is `0`.
abbrev pub Zero : Type 0
Zero = decimal 0 ≡ 48 ∷ []
