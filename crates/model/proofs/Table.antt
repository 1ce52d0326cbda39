-- Tables: the values of a function at l, l + 1, and on. The server's lines are one.
use mathlib.Core.Path.{◌≡◌, refl, ap, ap₂, sym, ◌∙◌, subst}
use mathlib.Core.Bool.{Bool, true, false, cond}
use mathlib.Core.List.{List, [], ◌∷◌, map}
use Prim.Native.Nat.{ℕ, zero, suc, ◌+◌, ◌≤◌, ◌<◌}
use native.Mathlib.Nat.{add-zero}
use native.Mathlib.Omega.{arith}
use lib.Dec.{eqb}
use lib.ListN.{length, get_or, replicate}
use borrow.Author.Tests.{eq-eqb, ne_eqb, eqb-true, eqb-false}
use Rattle.model.specs.Questions.{every}
use Rattle.model.specs.Line.{Line, roomy}
use Rattle.model.specs.Server.{at_place, others_roomy, total}
use Rattle.model.proofs.Tests.{both, and_left, and_right}

abbrev pub table : {A : Type 0} → (ℕ → A) → ℕ → ℕ → List A
table f l zero = []
table f l (suc k) = f l ∷ table f (suc l) k

pub length_table : {A : Type 0} (f : ℕ → A) (l k : ℕ) → length (table f l k) ≡ k
length_table f l zero = refl
length_table f l (suc k) = ap suc (length_table f (suc l) k)

pub table_cong : {A : Type 0} (f g : ℕ → A) (l k : ℕ) → ((j : ℕ) → l ≤ j → j < l + k → f j ≡ g j) → table f l k ≡ table g l k
table_cong f g l zero h = refl
table_cong f g l (suc k) h = ap₂ ◌∷◌ (h l (omega arith) (omega arith)) (table_cong f g (suc l) k (λ j a b. h j (omega arith) (omega arith)))

pub table_get : {A : Type 0} (f : ℕ → A) (d : A) (l k i : ℕ) → i < k → get_or (table f l k) i d ≡ f (l + i)
table_get f d l zero i h = absurd (omega arith)
table_get f d l (suc k) zero h = ap f (sym (add-zero l))
table_get f d l (suc k) (suc i) h = table_get f d (suc l) k i (omega arith) ∙ ap f (omega arith)

pub table_map : {A B : Type 0} (g : A → B) (f : ℕ → A) (l k : ℕ) → map g (table f l k) ≡ table (λ j. g (f j)) l k
table_map g f l zero = refl
table_map g f l (suc k) = ap (◌∷◌ (g (f l))) (table_map g f (suc l) k)

pub table_replicate : {A : Type 0} (x : A) (l k : ℕ) → replicate k x ≡ table (λ j. x) l k
table_replicate x l zero = refl
table_replicate x l (suc k) = ap (◌∷◌ x) (table_replicate x (suc l) k)

pub cond_eq : {A : Type 0} (i j : ℕ) (x y : A) → i ≡ j → cond (eqb i j) x y ≡ x
cond_eq i j x y e = rw (eq-eqb i j e)

pub cond_ne : {A : Type 0} (i j : ℕ) (x y : A) → (i ≡ j → ⊥) → cond (eqb i j) x y ≡ y
cond_ne i j x y e = rw (ne_eqb i j e)

-- one place treated by f and all others by g
pub table_at : {A : Type 0} (f g : A → A) (h : ℕ → A) (l k i : ℕ) → at_place i f g (table h l k) ≡ table (λ j. cond (eqb (l + i) j) (f (h j)) (g (h j))) l k
unfolding at_place
table_at f g h l zero zero = refl
table_at f g h l zero (suc i) = refl
table_at f g h l (suc k) zero =
    ap₂ ◌∷◌ (sym (cond_eq (l + 0) l (f (h l)) (g (h l)) (omega arith)))
    (table_map g h (suc l) k ∙ table_cong (λ j. g (h j)) (λ j. cond (eqb (l + 0) j) (f (h j)) (g (h j))) (suc l) k (λ j a b. sym (cond_ne (l + 0) j (f (h j)) (g (h j)) (λ e. omega arith))))
table_at f g h l (suc k) (suc i) =
    ap₂ ◌∷◌ (sym (cond_ne (l + suc i) l (f (h l)) (g (h l)) (λ e. omega arith)))
    (table_at f g h (suc l) k i ∙ ap (λ (m : ℕ). table (λ j. cond (eqb m j) (f (h j)) (g (h j))) (suc l) k) (omega arith))

pub table_roomy : (h : ℕ → Line) (l k i : ℕ) → ((j : ℕ) → l ≤ j → j < l + k → (j ≡ l + i → ⊥) → roomy (h j) ≡ true) → others_roomy i (table h l k) ≡ true
unfolding others_roomy
table_roomy h l zero zero r = refl
table_roomy h l zero (suc i) r = refl
table_roomy h l (suc k) zero r = rest (suc l) k (λ j a b. r j (omega arith) (omega arith) (λ e. omega arith))
  where
    rest : (m c : ℕ) → ((j : ℕ) → m ≤ j → j < m + c → roomy (h j) ≡ true) → every (map roomy (table h m c)) ≡ true
    rest m zero q = refl
    rest m (suc c) q =
        both (roomy (h m)) (every (map roomy (table h (suc m) c))) (q m (omega arith) (omega arith)) (rest (suc m) c (λ j a b. q j (omega arith) (omega arith)))
table_roomy h l (suc k) (suc i) r =
    both (roomy (h l)) (others_roomy i (table h (suc l) k)) (r l (omega arith) (omega arith) (λ e. omega arith))
    (table_roomy h (suc l) k i (λ j a b c. r j (omega arith) (omega arith) (λ e. c (omega arith))))

-- a place is the first or a later one
here_or_later : (P : ℕ → Type 0) (m j : ℕ) → m ≤ j → P m → (m < j → P j) → P j
here_or_later P m j le here later = go (eqb m j) refl
  where
    go : (t : Bool) → eqb m j ≡ t → P j
    go true e = subst P (eqb-true m j e) here
    go false e = later (omega (arith, eqb-false m j e))

pub roomy_table : (h : ℕ → Line) (l k i : ℕ) → others_roomy i (table h l k) ≡ true → (j : ℕ) → l ≤ j → j < l + k → (j ≡ l + i → ⊥) → roomy (h j) ≡ true
unfolding others_roomy
roomy_table h l zero i r j a b d = absurd (omega arith)
roomy_table h l (suc k) zero r j a b d = rest (suc l) k r j (omega (arith, d)) (omega arith)
  where
    rest : (m c : ℕ) → every (map roomy (table h m c)) ≡ true → (j : ℕ) → m ≤ j → j < m + c → roomy (h j) ≡ true
    rest m zero q j a b = absurd (omega arith)
    rest m (suc c) q j a b =
        here_or_later (λ i. roomy (h i) ≡ true) m j a (and_left (roomy (h m)) (every (map roomy (table h (suc m) c))) q)
        (λ lt. rest (suc m) c (and_right (roomy (h m)) (every (map roomy (table h (suc m) c))) q) j lt (omega arith))
roomy_table h l (suc k) (suc i) r j a b d =
    here_or_later (λ i. roomy (h i) ≡ true) l j a (and_left (roomy (h l)) (others_roomy i (table h (suc l) k)) r)
    (λ lt. roomy_table h (suc l) k i (and_right (roomy (h l)) (others_roomy i (table h (suc l) k)) r) j lt (omega arith) (λ z. d (omega arith)))

-- a number of each entry, added up, is at most k times its bound
pub table_total : (f : Line → ℕ) (h : ℕ → Line) (most l k : ℕ) → ((j : ℕ) → l ≤ j → j < l + k → f (h j) ≤ most) → total f (table h l k) ≤ Prim.Native.Nat.◌*◌ k most
table_total f h most l zero b = omega arith
table_total f h most l (suc k) b = omega (arith, b l (omega arith) (omega arith), table_total f h most (suc l) k (λ j a c. b j (omega arith) (omega arith)))
