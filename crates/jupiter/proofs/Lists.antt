-- Laws of the lists that the definitions use: the elements that pass a test and those that do not, and the first so many of each.
use Prim.Native.Nat.{ℕ, zero, suc, ◌+◌, ◌≤◌, ◌<◌, suc-le-suc, zero-le}
use native.Mathlib.Nat.{le_of_suc-le-suc, not-suc-le-zero}
use native.Mathlib.Omega.{arith}
use mathlib.Core.Path.{◌≡◌, refl, sym, ap, ◌∙◌, subst}
use mathlib.Core.Logic.{◌⊎◌, inl, inr}
use mathlib.Core.Bool.{Bool, true, false, not, ◌&&◌, cond}
use mathlib.Core.List.{List, [], ◌∷◌, ◌++◌, append-nil}
use lib.Dec.{ltb, leb-zero, leb-suc-suc, leb-suc-zero}
use lib.ListN.{length, get_or, drop}
use Rattle.jupiter.specs.Made.{select, reject}
use Rattle.jupiter.specs.Point.{enter, firsts}

-- every element has the property
abbrev pub All : {A : Type 0} → (A → Type 0) → List A → Type 0
All Q [] = Unit {0}
All Q (x ∷ xs) = Q x × All Q xs

pub all_append : {A : Type 0} (Q : A → Type 0) (xs ys : List A) → All Q xs → All Q ys → All Q (xs ++ ys)
all_append Q [] ys h k = k
all_append Q (x ∷ xs) ys h k = (h.0, all_append Q xs ys h.1 k)

pub all_map : {A : Type 0} (Q R : A → Type 0) (xs : List A) → ((x : A) → Q x → R x) → All Q xs → All R xs
all_map Q R [] f h = tt
all_map Q R (x ∷ xs) f h = (f x h.0, all_map Q R xs f h.1)

pub all_from : {A : Type 0} (Q : A → Type 0) (d : A) (xs : List A) → ((i : ℕ) → i < length xs → Q (get_or xs i d)) → All Q xs
all_from Q d [] f = tt
all_from Q d (x ∷ xs) f = (f 0 (suc-le-suc zero-le), all_from Q d xs (λ i h. f (suc i) (suc-le-suc h)))

pub all_at : {A : Type 0} (Q : A → Type 0) (d : A) (xs : List A) → All Q xs → (i : ℕ) → i < length xs → Q (get_or xs i d)
all_at Q d [] h i lt = absurd (not-suc-le-zero lt)
all_at Q d (x ∷ xs) h zero lt = h.0
all_at Q d (x ∷ xs) h (suc i) lt = all_at Q d xs h.1 i (le_of_suc-le-suc lt)

pub not_true : (b : Bool) → not b ≡ true → b ≡ false
not_true true e = sym e
not_true false e = refl

module _ {A : Type 0} (p : A → Bool) (d : A) where
  pub select_append : (xs ys : List A) → select p (xs ++ ys) ≡ select p xs ++ select p ys
  unfolding select
  select_append [] ys = refl
  select_append (x ∷ xs) ys = go (p x) (select_append xs ys)
    where
      go : (b : Bool) → select p (xs ++ ys) ≡ select p xs ++ select p ys
          → cond b (x ∷ select p (xs ++ ys)) (select p (xs ++ ys)) ≡ cond b (x ∷ select p xs) (select p xs) ++ select p ys
      go true e = ap {B = List A} (λ r. x ∷ r) e
      go false e = e

  -- what is selected passes
  pub select_passes : (xs : List A) (i : ℕ) → i < length (select p xs) → p (get_or (select p xs) i d) ≡ true
  unfolding select
  select_passes [] i h = absurd (omega arith)
  select_passes (x ∷ xs) i h = go (p x) refl i h (λ i h. select_passes xs i h)
    where
      go : (b : Bool) → p x ≡ b → (i : ℕ) → i < length (cond b (x ∷ select p xs) (select p xs))
          → ((i : ℕ) → i < length (select p xs) → p (get_or (select p xs) i d) ≡ true)
          → p (get_or (cond b (x ∷ select p xs) (select p xs)) i d) ≡ true
      go true e zero h ih = e
      go true e (suc i) h ih = ih i (le_of_suc-le-suc h)
      go false e i h ih = ih i h

module _ {A : Type 0} (p : A → Bool) (d : A) where
  -- what is rejected, the opposite test selects
  reject_is : (xs : List A) → reject p xs ≡ select (λ x. not (p x)) xs
  unfolding select reject
  reject_is [] = refl
  reject_is (x ∷ xs) = go (p x) (reject_is xs)
    where
      go : (b : Bool) → reject p xs ≡ select (λ x. not (p x)) xs → cond b (reject p xs) (x ∷ reject p xs) ≡ cond (not b) (x ∷ select (λ x. not (p x)) xs) (select (λ x. not (p x)) xs)
      go true e = e
      go false e = ap {B = List A} (λ r. x ∷ r) e

  pub reject_append : (xs ys : List A) → reject p (xs ++ ys) ≡ reject p xs ++ reject p ys
  reject_append xs ys = rw (reject_is (xs ++ ys), reject_is xs, reject_is ys) (select_append (λ x. not (p x)) d xs ys)

  pub reject_fails : (xs : List A) (i : ℕ) → i < length (reject p xs) → p (get_or (reject p xs) i d) ≡ false
  reject_fails xs i h = rw (reject_is xs) (not_true _ (select_passes (λ x. not (p x)) d xs i (subst (λ r. i < length r) (reject_is xs) h)))

  -- a list all of whose elements pass
  pub select_all : (xs : List A) → All (λ x. p x ≡ true) xs → select p xs ≡ xs
  unfolding select
  select_all [] h = refl
  select_all (x ∷ xs) h = rw h.0 (ap {B = List A} (λ r. x ∷ r) (select_all xs h.1))

  pub reject_all : (xs : List A) → All (λ x. p x ≡ true) xs → reject p xs ≡ []
  unfolding reject
  reject_all [] h = refl
  reject_all (x ∷ xs) h = rw h.0 (reject_all xs h.1)

  pub select_reject_length : (xs : List A) → length (select p xs) + length (reject p xs) ≡ length xs
  unfolding select reject
  select_reject_length [] = refl
  select_reject_length (x ∷ xs) = go (p x) (select_reject_length xs)
    where
      go : (b : Bool) → length (select p xs) + length (reject p xs) ≡ length xs
          → length (cond b (x ∷ select p xs) (select p xs)) + length (cond b (reject p xs) (x ∷ reject p xs)) ≡ suc (length xs)
      go true ih = omega arith
      go false ih = omega arith

  -- How many that pass stand before the k-th that does not.
  counted : Bool → ℕ → (ℕ → ℕ) → ℕ
  counted true k tail = suc (tail k)
  counted false zero tail = zero
  counted false (suc k) tail = tail k

  pub lag : List A → ℕ → ℕ
  lag [] k = zero
  lag (x ∷ xs) k = counted (p x) k (λ k'. lag xs k')

  pub lag_le : (xs : List A) (k : ℕ) → lag xs k ≤ length (select p xs)
  unfolding lag select counted
  lag_le [] k = zero-le
  lag_le (x ∷ xs) k = go (p x) k (λ k. lag_le xs k)
    where
      go : (b : Bool) (k : ℕ) → ((k : ℕ) → lag xs k ≤ length (select p xs))
          → counted b k (λ k'. lag xs k') ≤ length (cond b (x ∷ select p xs) (select p xs))
      go true k ih = suc-le-suc (ih k)
      go false zero ih = zero-le
      go false (suc k) ih = ih k

  -- what comes behind xs lags by those of xs at least
  pub lag_from : (xs ys : List A) → length (select p xs) ≤ lag (xs ++ ys) (length (reject p xs))
  unfolding lag select reject counted
  lag_from [] ys = zero-le
  lag_from (x ∷ xs) ys = go (p x) (lag_from xs ys)
    where
      go : (b : Bool) → length (select p xs) ≤ lag (xs ++ ys) (length (reject p xs))
          → length (cond b (x ∷ select p xs) (select p xs)) ≤ counted b (length (cond b (reject p xs) (x ∷ reject p xs))) (λ k'. lag (xs ++ ys) k')
      go true ih = suc-le-suc ih
      go false ih = ih

  pub lag_append : (xs ys : List A) (k : ℕ) → k < length (reject p xs) → lag (xs ++ ys) k ≡ lag xs k
  unfolding lag reject counted
  lag_append [] ys k h = absurd (omega arith)
  lag_append (x ∷ xs) ys k h = go (p x) k h (λ k h. lag_append xs ys k h)
    where
      go : (b : Bool) (k : ℕ) → k < length (cond b (reject p xs) (x ∷ reject p xs))
          → ((k : ℕ) → k < length (reject p xs) → lag (xs ++ ys) k ≡ lag xs k)
          → counted b k (λ k'. lag (xs ++ ys) k') ≡ counted b k (λ k'. lag xs k')
      go true k h ih = ap suc (ih k h)
      go false zero h ih = refl
      go false (suc k) h ih = ih k (le_of_suc-le-suc h)

  -- the first one behind xs that does not pass
  pub lag_at : (xs : List A) (x : A) (ys : List A) → p x ≡ false → lag (xs ++ x ∷ ys) (length (reject p xs)) ≡ length (select p xs)
  unfolding lag reject select counted
  lag_at [] x ys e = rw e refl
  lag_at (y ∷ xs) x ys e = go (p y) (lag_at xs x ys e)
    where
      go : (b : Bool) → lag (xs ++ x ∷ ys) (length (reject p xs)) ≡ length (select p xs)
          → counted b (length (cond b (reject p xs) (y ∷ reject p xs))) (λ k'. lag (xs ++ x ∷ ys) k') ≡ length (cond b (y ∷ select p xs) (select p xs))
      go true ih = ap suc ih
      go false ih = ih

  -- ---- points

  pub firsts_none : (xs : List A) → firsts p xs 0 0 ≡ []
  unfolding firsts enter
  firsts_none [] = refl
  firsts_none (x ∷ xs) = go (p x) (firsts_none xs)
    where
      go : (b : Bool) → firsts p xs 0 0 ≡ [] → enter x b 0 0 (λ i' j'. firsts p xs i' j') ≡ []
      go true e = e
      go false e = e

  -- the point of all of xs, whatever follows
  pub firsts_prefix : (xs ys : List A) → firsts p (xs ++ ys) (length (select p xs)) (length (reject p xs)) ≡ xs
  unfolding firsts select reject enter
  firsts_prefix [] ys = firsts_none ys
  firsts_prefix (x ∷ xs) ys = go (p x) (firsts_prefix xs ys)
    where
      go : (b : Bool) → firsts p (xs ++ ys) (length (select p xs)) (length (reject p xs)) ≡ xs
          → enter x b (length (cond b (x ∷ select p xs) (select p xs))) (length (cond b (reject p xs) (x ∷ reject p xs))) (λ i' j'. firsts p (xs ++ ys) i' j') ≡ x ∷ xs
      go true e = ap {B = List A} (λ r. x ∷ r) e
      go false e = ap {B = List A} (λ r. x ∷ r) e

  pub firsts_all : (xs : List A) → firsts p xs (length (select p xs)) (length (reject p xs)) ≡ xs
  firsts_all xs = ap (λ r. firsts p r (length (select p xs)) (length (reject p xs))) (sym (append-nil xs)) ∙ firsts_prefix xs []

  -- What stands behind xs does not matter to a point that xs has edits enough for: an inserted x is not seen.
  pub firsts_insert : (xs : List A) (x : A) (ys : List A) (i j : ℕ)
      → ((p x ≡ true) × (i ≤ length (select p xs))) ⊎ ((p x ≡ false) × (j ≤ length (reject p xs)))
      → firsts p (xs ++ x ∷ ys) i j ≡ firsts p (xs ++ ys) i j
  unfolding firsts select reject enter
  firsts_insert [] x ys i j (inl h) =
      let z : i ≡ 0 = omega arith in
      rw (h.0, z) refl
  firsts_insert [] x ys i j (inr h) =
      let z : j ≡ 0 = omega arith in
      rw (h.0, z) refl
  firsts_insert (y ∷ xs) x ys i j h = go (p y) i j h (λ i j h. firsts_insert xs x ys i j h)
    where
      go : (b : Bool) (i j : ℕ)
          → ((p x ≡ true) × (i ≤ length (cond b (y ∷ select p xs) (select p xs)))) ⊎ ((p x ≡ false) × (j ≤ length (cond b (reject p xs) (y ∷ reject p xs))))
          → ((i j : ℕ) → ((p x ≡ true) × (i ≤ length (select p xs))) ⊎ ((p x ≡ false) × (j ≤ length (reject p xs)))
          → firsts p (xs ++ x ∷ ys) i j ≡ firsts p (xs ++ ys) i j)
          → enter y b i j (λ i' j'. firsts p (xs ++ x ∷ ys) i' j') ≡ enter y b i j (λ i' j'. firsts p (xs ++ ys) i' j')
      go true zero j (inl h) ih = ih 0 j (inl (h.0, zero-le))
      go true zero j (inr h) ih = ih 0 j (inr h)
      go true (suc i) j (inl h) ih = ap {B = List A} (λ r. y ∷ r) (ih i j (inl (h.0, le_of_suc-le-suc h.1)))
      go true (suc i) j (inr h) ih = ap {B = List A} (λ r. y ∷ r) (ih i j (inr h))
      go false i zero (inl h) ih = ih i 0 (inl h)
      go false i zero (inr h) ih = ih i 0 (inr (h.0, zero-le))
      go false i (suc j) (inl h) ih = ap {B = List A} (λ r. y ∷ r) (ih i j (inl h))
      go false i (suc j) (inr h) ih = ap {B = List A} (λ r. y ∷ r) (ih i j (inr (h.0, le_of_suc-le-suc h.1)))

  -- one more that passes, where the j others all stand before it: it is the last
  pub firsts_snoc : (xs : List A) (i j : ℕ) → i < length (select p xs) → ((k : ℕ) → k < j → lag xs k ≤ i)
      → firsts p xs (suc i) j ≡ firsts p xs i j ++ (get_or (select p xs) i d ∷ [])
  unfolding firsts select lag enter counted
  firsts_snoc [] i j h g = absurd (omega arith)
  firsts_snoc (x ∷ xs) i j h g = go (p x) i j h g (λ i j h g. firsts_snoc xs i j h g)
    where
      go : (b : Bool) (i j : ℕ) → i < length (cond b (x ∷ select p xs) (select p xs))
          → ((k : ℕ) → k < j → counted b k (λ k'. lag xs k') ≤ i)
          → ((i j : ℕ) → i < length (select p xs) → ((k : ℕ) → k < j → lag xs k ≤ i)
          → firsts p xs (suc i) j ≡ firsts p xs i j ++ (get_or (select p xs) i d ∷ []))
          → enter x b (suc i) j (λ i' j'. firsts p xs i' j')
          ≡ enter x b i j (λ i' j'. firsts p xs i' j') ++ (get_or (cond b (x ∷ select p xs) (select p xs)) i d ∷ [])
      go true zero zero h g ih = rw (firsts_none xs) refl
      go true zero (suc j) h g ih = absurd (not-suc-le-zero (g 0 (suc-le-suc zero-le)))
      go true (suc i) j h g ih = ap {B = List A} (λ r. x ∷ r) (ih i j (le_of_suc-le-suc h) (λ k lt. le_of_suc-le-suc (g k lt)))
      go false i zero h g ih = ih i 0 h (λ k lt. absurd (not-suc-le-zero lt))
      go false i (suc j) h g ih = ap {B = List A} (λ r. x ∷ r) (ih i j h (λ k lt. g (suc k) (suc-le-suc lt)))

  -- a property of the first i that pass and the first j that do not
  pub firsts_every : (Q : A → Type 0) (xs : List A) (i j : ℕ) → ((k : ℕ) → k < i → k < length (select p xs) → Q (get_or (select p xs) k d))
      → ((k : ℕ) → k < j → k < length (reject p xs) → Q (get_or (reject p xs) k d)) → All Q (firsts p xs i j)
  unfolding firsts select reject enter
  firsts_every Q [] i j f g = tt
  firsts_every Q (x ∷ xs) i j f g = go (p x) i j f g (λ i j f g. firsts_every Q xs i j f g)
    where
      go : (b : Bool) (i j : ℕ) → ((k : ℕ) → k < i → k < length (cond b (x ∷ select p xs) (select p xs)) → Q (get_or (cond b (x ∷ select p xs) (select p xs)) k d))
          → ((k : ℕ) → k < j → k < length (cond b (reject p xs) (x ∷ reject p xs)) → Q (get_or (cond b (reject p xs) (x ∷ reject p xs)) k d))
          → ((i j : ℕ) → ((k : ℕ) → k < i → k < length (select p xs) → Q (get_or (select p xs) k d))
          → ((k : ℕ) → k < j → k < length (reject p xs) → Q (get_or (reject p xs) k d)) → All Q (firsts p xs i j))
          → All Q (enter x b i j (λ i' j'. firsts p xs i' j'))
      go true zero j f g ih = ih 0 j (λ k lt. absurd (not-suc-le-zero lt)) g
      go true (suc i) j f g ih = (f 0 (suc-le-suc zero-le) (suc-le-suc zero-le), ih i j (λ k lt ln. f (suc k) (suc-le-suc lt) (suc-le-suc ln)) g)
      go false i zero f g ih = ih i 0 f (λ k lt. absurd (not-suc-le-zero lt))
      go false i (suc j) f g ih = (g 0 (suc-le-suc zero-le) (suc-le-suc zero-le), ih i j f (λ k lt ln. g (suc k) (suc-le-suc lt) (suc-le-suc ln)))

  -- One more that does not pass: what stands behind it passes.
  pub record Between (Q : A → Type 0) (xs : List A) (i j : ℕ) : Type 0 where
    pub before : List A
    pub after : List A
    pub more : firsts p xs i (suc j) ≡ before ++ get_or (reject p xs) j d ∷ after
    pub less : firsts p xs i j ≡ before ++ after
    pub behind : All Q after

  pub firsts_between : (Q : A → Type 0) (xs : List A) (i j : ℕ) → j < length (reject p xs)
      → ((k : ℕ) → k < i → k < length (select p xs) → Q (get_or (select p xs) k d)) → Between Q xs i j
  unfolding firsts select reject enter
  firsts_between Q [] i j h q = absurd (omega arith)
  firsts_between Q (x ∷ xs) i j h q = go (p x) refl i j h q (λ i j h q. firsts_between Q xs i j h q)
    where
      go : (b : Bool) → p x ≡ b → (i j : ℕ) → j < length (cond b (reject p xs) (x ∷ reject p xs))
          → ((k : ℕ) → k < i → k < length (cond b (x ∷ select p xs) (select p xs)) → Q (get_or (cond b (x ∷ select p xs) (select p xs)) k d))
          → ((i j : ℕ) → j < length (reject p xs) → ((k : ℕ) → k < i → k < length (select p xs) → Q (get_or (select p xs) k d)) → Between Q xs i j)
          → Between Q (x ∷ xs) i j
      go true e zero j h q ih =
          let r = ih 0 j h (λ k lt. absurd (not-suc-le-zero lt)) in
          record { before = r.before; after = r.after; more = rw e r.more; less = rw e r.less; behind = r.behind }
      go true e (suc i) j h q ih =
          let r = ih i j h (λ k lt ln. q (suc k) (suc-le-suc lt) (suc-le-suc ln)) in
          record {
            before = x ∷ r.before;
            after = r.after;
            more = rw e (ap {B = List A} (λ l. x ∷ l) r.more);
            less = rw e (ap {B = List A} (λ l. x ∷ l) r.less);
            behind = r.behind;
          }
      go false e i zero h q ih =
          record { before = []; after = firsts p xs i 0; more = rw e refl; less = rw e refl; behind = firsts_every Q xs i 0 q (λ k lt. absurd (not-suc-le-zero lt)) }
      go false e i (suc j) h q ih =
          let r = ih i j (le_of_suc-le-suc h) q in
          record {
            before = x ∷ r.before;
            after = r.after;
            more = rw e (ap {B = List A} (λ l. x ∷ l) r.more);
            less = rw e (ap {B = List A} (λ l. x ∷ l) r.less);
            behind = r.behind;
          }

  -- A test that the first i that pass p have, and the first j that do not, and no other, selects the point.
  pub select_firsts : (r : A → Bool) (xs : List A) (i j : ℕ) → ((k : ℕ) → k < length (select p xs) → r (get_or (select p xs) k d) ≡ ltb k i)
      → ((k : ℕ) → k < length (reject p xs) → r (get_or (reject p xs) k d) ≡ ltb k j) → select r xs ≡ firsts p xs i j
  unfolding firsts select reject enter
  select_firsts r [] i j f g = refl
  select_firsts r (x ∷ xs) i j f g = go (p x) i j f g (λ i j f g. select_firsts r xs i j f g)
    where
      go : (b : Bool) (i j : ℕ) → ((k : ℕ) → k < length (cond b (x ∷ select p xs) (select p xs)) → r (get_or (cond b (x ∷ select p xs) (select p xs)) k d) ≡ ltb k i)
          → ((k : ℕ) → k < length (cond b (reject p xs) (x ∷ reject p xs)) → r (get_or (cond b (reject p xs) (x ∷ reject p xs)) k d) ≡ ltb k j)
          → ((i j : ℕ) → ((k : ℕ) → k < length (select p xs) → r (get_or (select p xs) k d) ≡ ltb k i)
          → ((k : ℕ) → k < length (reject p xs) → r (get_or (reject p xs) k d) ≡ ltb k j) → select r xs ≡ firsts p xs i j)
          → cond (r x) (x ∷ select r xs) (select r xs) ≡ enter x b i j (λ i' j'. firsts p xs i' j')
      go true zero j f g ih =
          let no_one : r x ≡ false = f 0 (suc-le-suc zero-le) ∙ leb-suc-zero 0 in
          rw no_one (ih 0 j (λ k lt. f (suc k) (suc-le-suc lt) ∙ leb-suc-zero (suc k) ∙ sym (leb-suc-zero k)) g)
      go true (suc i) j f g ih =
          let one : r x ≡ true = f 0 (suc-le-suc zero-le) ∙ leb-suc-suc 0 i ∙ leb-zero i in
          rw one (ap {B = List A} (λ l. x ∷ l) (ih i j (λ k lt. f (suc k) (suc-le-suc lt) ∙ leb-suc-suc (suc k) i) g))
      go false i zero f g ih =
          let no_one : r x ≡ false = g 0 (suc-le-suc zero-le) ∙ leb-suc-zero 0 in
          rw no_one (ih i 0 f (λ k lt. g (suc k) (suc-le-suc lt) ∙ leb-suc-zero (suc k) ∙ sym (leb-suc-zero k)))
      go false i (suc j) f g ih =
          let one : r x ≡ true = g 0 (suc-le-suc zero-le) ∙ leb-suc-suc 0 j ∙ leb-zero j in
          rw one (ap {B = List A} (λ l. x ∷ l) (ih i j f (λ k lt. g (suc k) (suc-le-suc lt) ∙ leb-suc-suc (suc k) j)))

  -- Of those that p rejects, a further test leaves what stands from number t on.
  pub select_rest : (r : A → Bool) (xs : List A) (t : ℕ) → ((k : ℕ) → k < length (reject p xs) → r (get_or (reject p xs) k d) ≡ ltb k t)
      → select (λ x. not (p x) && not (r x)) xs ≡ drop t (reject p xs)
  unfolding select reject
  select_rest r [] zero g = refl
  select_rest r [] (suc t) g = refl
  select_rest r (x ∷ xs) t g = go (p x) t g (λ t g. select_rest r xs t g)
    where
      go : (b : Bool) (t : ℕ) → ((k : ℕ) → k < length (cond b (reject p xs) (x ∷ reject p xs)) → r (get_or (cond b (reject p xs) (x ∷ reject p xs)) k d) ≡ ltb k t)
          → ((t : ℕ) → ((k : ℕ) → k < length (reject p xs) → r (get_or (reject p xs) k d) ≡ ltb k t)
          → select (λ x. not (p x) && not (r x)) xs ≡ drop t (reject p xs))
          → cond (not b && not (r x)) (x ∷ select (λ x. not (p x) && not (r x)) xs) (select (λ x. not (p x) && not (r x)) xs)
          ≡ drop t (cond b (reject p xs) (x ∷ reject p xs))
      go true t g ih = ih t g
      go false zero g ih =
          let no_one : r x ≡ false = g 0 (suc-le-suc zero-le) ∙ leb-suc-zero 0 in
          rw no_one (ap {B = List A} (λ l. x ∷ l) (ih 0 (λ k lt. g (suc k) (suc-le-suc lt) ∙ leb-suc-zero (suc k) ∙ sym (leb-suc-zero k))))
      go false (suc t) g ih =
          let one : r x ≡ true = g 0 (suc-le-suc zero-le) ∙ leb-suc-suc 0 t ∙ leb-zero t in
          rw one (ih t (λ k lt. g (suc k) (suc-le-suc lt) ∙ leb-suc-suc (suc k) t))

  -- one element more in the middle
  pub select_in : (xs : List A) (x : A) (ys : List A) → p x ≡ true → select p (xs ++ x ∷ ys) ≡ select p xs ++ x ∷ select p ys
  unfolding select
  select_in xs x ys e = select_append p d xs (x ∷ ys) ∙ rw e refl

  pub select_out : (xs : List A) (x : A) (ys : List A) → p x ≡ false → select p (xs ++ x ∷ ys) ≡ select p (xs ++ ys)
  unfolding select
  select_out xs x ys e = select_append p d xs (x ∷ ys) ∙ rw e (sym (select_append p d xs ys))

  pub reject_in : (xs : List A) (x : A) (ys : List A) → p x ≡ false → reject p (xs ++ x ∷ ys) ≡ reject p xs ++ x ∷ reject p ys
  unfolding reject
  reject_in xs x ys e = reject_append xs (x ∷ ys) ∙ rw e refl

  pub reject_out : (xs : List A) (x : A) (ys : List A) → p x ≡ true → reject p (xs ++ x ∷ ys) ≡ reject p (xs ++ ys)
  unfolding reject
  reject_out xs x ys e = reject_append xs (x ∷ ys) ∙ rw e (sym (reject_append xs ys))

  -- where the j-th that p rejects stands, how many are before it, and a property of them all
  pub record Before (Q : A → Type 0) (xs : List A) (j : ℕ) : Type 0 where
    pub front : List A
    pub back : List A
    pub whole : xs ≡ front ++ get_or (reject p xs) j d ∷ back
    pub every : All Q front
    pub count : length (reject p front) ≡ j
    pub lags : length (select p front) ≡ lag xs j

  pub before_rejected : (Q : A → Type 0) (xs : List A) (j : ℕ) → j < length (reject p xs) → ((k : ℕ) → k < length (select p xs) → Q (get_or (select p xs) k d))
      → ((k : ℕ) → k < j → k < length (reject p xs) → Q (get_or (reject p xs) k d)) → Before Q xs j
  unfolding select reject lag counted
  before_rejected Q [] j h f g = absurd (omega arith)
  before_rejected Q (x ∷ xs) j h f g = go (p x) refl j h f g (λ j h f g. before_rejected Q xs j h f g)
    where
      go : (b : Bool) → p x ≡ b → (j : ℕ) → j < length (cond b (reject p xs) (x ∷ reject p xs))
          → ((k : ℕ) → k < length (cond b (x ∷ select p xs) (select p xs)) → Q (get_or (cond b (x ∷ select p xs) (select p xs)) k d))
          → ((k : ℕ) → k < j → k < length (cond b (reject p xs) (x ∷ reject p xs)) → Q (get_or (cond b (reject p xs) (x ∷ reject p xs)) k d))
          → ((j : ℕ) → j < length (reject p xs) → ((k : ℕ) → k < length (select p xs) → Q (get_or (select p xs) k d))
          → ((k : ℕ) → k < j → k < length (reject p xs) → Q (get_or (reject p xs) k d)) → Before Q xs j) → Before Q (x ∷ xs) j
      go true e j h f g ih =
          let r = ih j h (λ k lt. f (suc k) (suc-le-suc lt)) g in
          record {
            front = x ∷ r.front;
            back = r.back;
            whole = rw e (ap {B = List A} (λ l. x ∷ l) r.whole);
            every = (f 0 (suc-le-suc zero-le), r.every);
            count = rw e r.count;
            lags = rw e (ap suc r.lags);
          }
      go false e zero h f g ih = record { front = []; back = xs; whole = rw e refl; every = tt; count = refl; lags = rw e refl }
      go false e (suc j) h f g ih =
          let r = ih j (le_of_suc-le-suc h) f (λ k lt ln. g (suc k) (suc-le-suc lt) (suc-le-suc ln)) in
          record {
            front = x ∷ r.front;
            back = r.back;
            whole = rw e (ap {B = List A} (λ l. x ∷ l) r.whole);
            every = (g 0 (suc-le-suc zero-le) (suc-le-suc zero-le), r.every);
            count = rw e (ap suc r.count);
            lags = rw e r.lags;
          }
