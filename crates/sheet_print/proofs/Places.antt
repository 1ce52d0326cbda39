-- A number's digits from the front: finding one, and printing them down the powers of ten.
use Prim.Native.Nat.{ℕ, zero, suc, ◌+◌, ◌-◌, ◌*◌, ◌^◌, ◌/◌, ◌%◌, ◌<◌, ◌≤◌}
use mathlib.Core.Path.{◌≡◌, refl, ap, ap₂, sym, ◌∙◌, subst}
use mathlib.Core.Bool.{Bool, true, false, ◌&&◌, cond}
use mathlib.Core.List.{List, [], ◌∷◌, ◌++◌, append_assoc}
use native.Mathlib.Nat.{add-zero, zero-add, lt_of_mul-lt-mul_left, mod-lt, mod-le, mod-eq_of_lt, div-lt_iff_lt-mul, div-div-eq-div-mul, pow-succ', pow-le-pow_right, one-le-pow}
use native.Mathlib.Omega.{arith}
use borrow.Author.Tests.{eqb-true, leb-true, leb-false, le-leb, lt-leb}
use lib.Arith.{digits_div, digits_mod, mod-mul}
use lib.Dec.{leb, eqb}
use lib.ListN.{length, get_or}
use Rattle.sheet_print.specs.declared.Part.{Part}
use Rattle.sheet_print.specs.Sink.{Sink, put, puts}
use Rattle.sheet_print.specs.Decimal.{digits, decimal}
use Rattle.sheet_print.specs.Parts.{split, taken, digit_from, lower}
use Rattle.sheet_print.proofs.Sinks.{and_left, and_right, puts_append}

-- The powers of ten in a table.
abbrev rising : ℕ → List ℕ → Bool
rising j [] = true
rising j (x ∷ l) = eqb x (10 ^ j) && rising (suc j) l

rising_at : (l : List ℕ) (j k : ℕ) → rising j l ≡ true → k < length l → get_or l k 0 ≡ 10 ^ (j + k)
rising_at [] j k h small = absurd (omega arith)
rising_at (x ∷ l) j zero h small = eqb-true x (10 ^ j) (and_left (eqb x (10 ^ j)) (rising (suc j) l) h) ∙ ap (λ i. 10 ^ i) (sym (add-zero j))
rising_at (x ∷ l) j (suc k) h small =
    rising_at l (suc j) k (and_right (eqb x (10 ^ j)) (rising (suc j) l) h) (omega arith) ∙ ap (λ i. 10 ^ i) (omega arith)

abbrev pub powers : List ℕ
powers = 1 ∷ 10 ∷ 100 ∷ 1000 ∷ 10000 ∷ 100000 ∷ 1000000 ∷ 10000000 ∷ 100000000 ∷ 1000000000 ∷ []

pub power_at : (k : ℕ) → k < 10 → get_or powers k 0 ≡ 10 ^ k
power_at k small = rising_at powers 0 k refl small ∙ ap (λ i. 10 ^ i) (zero-add k)

-- Finding a digit: it stands for so many p, which with what is left make n; what is left is below b.
pub record Left (n p b : ℕ) (a : Part) : Type 0 where
  pub sum : a.digit * p + a.rest ≡ n
  pub less : a.rest < b

pub left_take : (n p b c times : ℕ) (a : Part) {r : Part} → r ≡ taken a p times → Left n p b a → b ≤ times * p + c → times * p ≤ c → Left n p c r
unfolding taken
left_take n p b c times a {r} is l h h' = subst (Left n p c) (sym is) (go (leb (times * p) a.rest) refl)
  where
    go : (t : Bool) → leb (times * p) a.rest ≡ t
        → Left n p c (cond t (record { digit = a.digit + times; rest = a.rest - times * p }) a)
    go true e =
        let k = leb-true (times * p) a.rest e in
        let s = l.sum in
        let r = l.less in
        record { sum = omega arith; less = omega arith }
    go false e =
        let k = leb-false (times * p) a.rest e in
        record { sum = l.sum; less = omega arith }

pub left_digit : (n p b : ℕ) (a : Part) → Left n p b a → n < 10 * p → a.digit < 10
left_digit n p b a l h = lt_of_mul-lt-mul_left p (let s = l.sum in omega arith)

abbrev part : ℕ → ℕ → Part
part d r = record { digit = d; rest = r }

pub left_end : (n p : ℕ) (a : Part) → Left n p p a → a ≡ split n p
left_end n p a l =
    let q : a.digit ≡ n / p = sym (digits_div a.digit l.less) ∙ ap (λ k. k / p) l.sum in
    let r : a.rest ≡ n % p = sym (digits_mod a.digit l.less) ∙ ap (λ k. k % p) l.sum in
    ap₂ part q r

-- a digit where n is not below the power p, and none where it is
module _ (n rest p : ℕ) (a : Sink) where
  pub none_put : n < p → rest ≤ n → (a ≡ puts (digit_from p n rest) a) × (rest ≡ (split rest p).rest)
  unfolding puts
  none_put h le = (rw (lt-leb p n h), sym (mod-eq_of_lt (omega arith)))

  pub digit_put : (d : Part) {b : Sink} → p ≤ n → d ≡ split rest p → b ≡ put (48 + d.digit) a → (b ≡ puts (digit_from p n rest) a) × (d.rest ≡ (split rest p).rest)
  unfolding puts
  digit_put d h q e = (rw (le-leb p n h) (e ∙ ap (λ (x : Part). put (48 + x.digit) a) q), ap (λ (x : Part). x.rest) q)

pub digit_lt : (n p : ℕ) (d : Part) → n < 10 * p → d ≡ split n p → d.digit < 10
digit_lt n p d h q = rw q ((div-lt_iff_lt-mul {k = p} (omega arith)).1 h)

-- The digits from the front: the one at a power of ten, unless n is below it, and then those after it.
abbrev front : ℕ → ℕ → List ℕ
front p n = cond (leb p n) ((48 + n / p % 10) ∷ []) []

leb_tenth : (p n : ℕ) → leb p (n / 10) ≡ leb (10 * p) n
leb_tenth p n = go (leb (10 * p) n) refl
  where
    go : (t : Bool) → leb (10 * p) n ≡ t → leb p (n / 10) ≡ t
    go true e = let h = leb-true (10 * p) n e in le-leb p (n / 10) (omega arith)
    go false e = let h = leb-false (10 * p) n e in lt-leb p (n / 10) (omega arith)

front_tenth : (p n : ℕ) → front p (n / 10) ≡ front (10 * p) n
front_tenth p n = rw (leb_tenth p n, div-div-eq-div-mul n 10 p)

peel : (k n : ℕ) → digits (suc k) n ≡ front (10 ^ suc k) n ++ digits k n
unfolding digits
peel zero n = refl
peel (suc k) n = go (leb 10 n) refl (peel k (n / 10))
  where
    go : (t : Bool) → leb 10 n ≡ t → digits (suc k) (n / 10) ≡ front (10 ^ suc k) (n / 10) ++ digits k (n / 10)
        → cond t (digits (suc k) (n / 10)) [] ++ ((48 + n % 10) ∷ []) ≡ front (10 ^ suc (suc k)) n ++ (cond t (digits k (n / 10)) [] ++ ((48 + n % 10) ∷ []))
    go true e ih = rw (ih, front_tenth (10 ^ suc k) n, ← (pow-succ' 10 (suc k)), append_assoc (front (10 ^ suc (suc k)) n) (digits k (n / 10)) ((48 + n % 10) ∷ []))
    go false e ih =
        let h = leb-false 10 n e in
        let p = pow-le-pow_right {n = 10} (omega arith) {i = 1} {j = suc (suc k)} (omega arith) in
        rw (lt-leb (10 ^ suc (suc k)) n (omega arith))

-- Printing has come to the place k: the digits from there on are still to come, and what is left of n is what they stand for.
pub record Coming (n k rest : ℕ) (a z : Sink) : Type 0 where
  pub few : k ≤ 9
  pub left : rest ≡ lower k n
  pub come : puts (digits k n) a ≡ z

-- what is left, over a power of ten and below it
module _ (n p rest : ℕ) (pos : 0 < p) (e : rest ≡ n % (10 * p)) where
  parts : rest ≡ n / p % 10 * p + n % p
  parts = e ∙ mod-mul n {m = 10} {c = p} (omega arith) pos

  over : rest / p ≡ n / p % 10
  over = ap (λ x. x / p) parts ∙ digits_div (n / p % 10) (mod-lt n pos)

  under : rest % p ≡ n % p
  under = ap (λ x. x % p) parts ∙ digits_mod (n / p % 10) (mod-lt n pos)

power_pos : (k : ℕ) → 0 < 10 ^ k
power_pos k = one-le-pow k 10 (omega arith)

-- one turn of the loop over the powers
pub coming_turn : (n k rest p r : ℕ) (a b z : Sink) → Coming n k rest a z → 0 < k → p ≡ 10 ^ k
    → (b ≡ puts (digit_from p n rest) a) × (r ≡ (split rest p).rest) → Coming n (k - 1) r b z
coming_turn n zero rest p r a b z c pos ep q = absurd (omega arith)
coming_turn n (suc k) rest p r a b z c pos ep q =
    let e : rest ≡ n % (10 * 10 ^ suc k) = c.left ∙ ap (λ x. n % x) (pow-succ' 10 (suc k)) in
    let back : suc k - 1 ≡ k = omega arith in
    rw back
    record {
      few = let f = c.few in omega arith;
      left = q.1 ∙ ap (λ x. rest % x) ep ∙ under n (10 ^ suc k) rest (power_pos (suc k)) e;
      come =
          rw (q.0, ep, over n (10 ^ suc k) rest (power_pos (suc k)) e, ← (puts_append (front (10 ^ suc k) n) (digits k n) a), ← (peel k n))
          c.come;
    }

-- what printing a digit asks
pub coming_less : (n k rest p : ℕ) (a z : Sink) → Coming n k rest a z → p ≡ 10 ^ k → (rest ≤ n) × (rest < 10 * p) × (p ≤ 1000000000)
coming_less n k rest p a z c ep =
    rw (ep, c.left, pow-succ' 10 k)
    (mod-le n (10 * 10 ^ k), mod-lt n (let h = power_pos k in omega arith), pow-le-pow_right {n = 10} (omega arith) c.few)

pub coming_at : (n k rest to : ℕ) (a z : Sink) → Coming n k rest a z → to ≤ k → k ≤ to → (puts (digits to n) a ≡ z) × (rest ≡ lower to n)
coming_at n k rest to a z c h h' = let e : to ≡ k = omega arith in rw e (c.come, c.left)

-- the last digit
pub last_put : (n rest : ℕ) (a b z : Sink) → rest ≡ lower 0 n → b ≡ put (48 + rest) a → puts (digits 0 n) a ≡ z → b ≡ z
unfolding digits puts
last_put n rest a b z e eb ez = rw (eb, e) ez

-- A number below a power of ten has no digit there or above.
above : (j k n : ℕ) → n < 10 ^ suc k → digits (j + k) n ≡ digits k n
above zero k n h = rw (zero-add k)
above (suc j) k n h =
    let more : 10 ^ suc k ≤ 10 ^ suc (j + k) = pow-le-pow_right {n = 10} (omega arith) (omega arith) in
    let e : suc j + k ≡ suc (j + k) = omega arith in
    ap (λ i. digits i n) e ∙ peel (j + k) n ∙ rw (lt-leb (10 ^ suc (j + k)) n (omega arith)) (above j k n h)

pub short_front : (n : ℕ) (a : Sink) → n < 1000 → (puts (digits 2 n) a ≡ puts (decimal n) a) × (n ≡ lower 2 n)
unfolding decimal
short_front n a h = (ap (λ (l : List ℕ). puts l a) (sym (above 7 2 n h)), sym (mod-eq_of_lt h))

-- a number below ten is its one digit
short : (k n : ℕ) → n < 10 → digits k n ≡ (48 + n) ∷ []
unfolding digits
short zero n h = rw (mod-eq_of_lt h)
short (suc k) n h = rw (lt-leb 10 n h, mod-eq_of_lt h)

pub one_put : (n : ℕ) (a : Sink) {b : Sink} → n < 10 → b ≡ put (48 + n) a → b ≡ puts (decimal n) a
unfolding puts decimal
one_put n a h e = e ∙ ap (λ (l : List ℕ). puts l a) (sym (short 9 n h))
