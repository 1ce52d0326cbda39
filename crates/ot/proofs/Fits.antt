-- Tests of edits as facts about numbers and back; the length of a list after an edit, and what stands on it.
use mathlib.Core.Path.{◌≡◌, refl, ap, sym, ◌∙◌}
use mathlib.Core.Bool.{Bool, true, false, ◌&&◌}
use Prim.Native.Nat.{ℕ, zero, suc, ◌+◌, ◌-◌, ◌≤◌, ◌<◌}
use native.Mathlib.Omega.{arith}
use mathlib.Core.List.{List, [], ◌∷◌, map}
use lib.Dec.{leb, ltb}
use lib.ListN.{length, length-append, length-take, length-drop}
use borrow.Author.Tests.{ltb-true, ltb-false, leb-true, le-leb}
use Rattle.ot.specs.Edit.{Edit, Nothing, Delete, Insert, inserted_at, deleted_at, edit, form_of, applied_as, applied, size_after, fits}

-- ---- tests

pub and_left : (s t : Bool) → (s && t) ≡ true → s ≡ true
and_left true t e = refl
and_left false t e = e

pub and_right : (s t : Bool) → (s && t) ≡ true → t ≡ true
and_right true t e = e
and_right false t e = absurd (let z : ◌≡◌ {A = ℕ} 0 1 = cc in omega arith)

-- `leb a p && leb p b`: p lies from a to b
pub between_true : (a p b : ℕ) → (leb a p && leb p b) ≡ true → (a ≤ p) × (p ≤ b)
between_true a p b e = (leb-true a p (and_left (leb a p) (leb p b) e), leb-true p b (and_right (leb a p) (leb p b) e))

pub true_between : (a p b : ℕ) → a ≤ p → p ≤ b → (leb a p && leb p b) ≡ true
true_between a p b h k = rw (le-leb a p h) (le-leb p b k)

-- the three ways in which two positions can stand
pub data Order (p q : ℕ) : Type 0 where
  below : p < q → Order p q
  level : p ≡ q → Order p q
  above : q < p → Order p q

pub order : (p q : ℕ) → Order p q
order p q = go (ltb p q) (ltb q p) refl refl
  where
    go : (s t : Bool) → ltb p q ≡ s → ltb q p ≡ t → Order p q
    go true t d e = below (ltb-true p q d)
    go false true d e = above (ltb-true q p e)
    go false false d e = level (omega (arith, ltb-false p q d, ltb-false q p e))

-- ---- lengths

pub length_inserted : {A : Type 0} (i : ℕ) (x : A) (l : List A) → length (inserted_at i x l) ≡ length l + 1
length_inserted i x l = simp (length-append, length-take, length-drop) (omega arith)

pub length_deleted : {A : Type 0} (i : ℕ) (l : List A) → i < length l → length (deleted_at i l) ≡ length l - 1
length_deleted i l h = simp (length-append, length-take, length-drop) (omega arith)

pub length_deleted_le : {A : Type 0} (i : ℕ) (l : List A) → length (deleted_at i l) ≤ length l
length_deleted_le i l = simp (length-append, length-take, length-drop) (omega arith)

pub size : {A : Type 0} (f : ℕ → A) (e : Edit) (l : List A) → fits e (length l) ≡ true → length (applied_as f e l) ≡ size_after e (length l)
unfolding applied_as fits size_after
size f Nothing l h = refl
size f (Delete p) l h = length_deleted (p - 1) l (omega (arith, between_true 1 p (length l) h))
size f (Insert p x r) l h = length_inserted (p - 1) (f x) l

pub grows : {A : Type 0} (f : ℕ → A) (e : Edit) (l : List A) → length (applied_as f e l) ≤ length l + 1
unfolding applied_as
grows f Nothing l = omega arith
grows f (Delete p) l = omega (arith, length_deleted_le (p - 1) l)
grows f (Insert p x r) l = omega (arith, length_inserted (p - 1) (f x) l)

-- ---- what stands on the list

map_inserted : {A B : Type 0} (h : A → B) (i : ℕ) (x : A) (l : List A) → map h (inserted_at i x l) ≡ inserted_at i (h x) (map h l)
map_inserted h zero x l = refl
map_inserted h (suc i) x [] = refl
map_inserted {B = B} h (suc i) x (y ∷ l) = ap (λ (r : List B). h y ∷ r) (map_inserted h i x l)

map_deleted : {A B : Type 0} (h : A → B) (i : ℕ) (l : List A) → map h (deleted_at i l) ≡ deleted_at i (map h l)
map_deleted h zero [] = refl
map_deleted h (suc i) [] = refl
map_deleted h zero (y ∷ l) = refl
map_deleted {B = B} h (suc i) (y ∷ l) = ap (λ (r : List B). h y ∷ r) (map_deleted h i l)

pub looked : {A B : Type 0} (h : A → B) (f : ℕ → A) (e : Edit) (l : List A) → map h (applied_as f e l) ≡ applied_as (λ x. h (f x)) e (map h l)
unfolding applied_as
looked h f Nothing l = refl
looked h f (Delete p) l = map_deleted h (p - 1) l
looked h f (Insert p x r) l = map_inserted h (p - 1) (f x) l

pub alike : (y : ℕ) (e : Edit) (l : List ℕ) → applied_as (λ x. y) e l ≡ applied (edit (form_of e) y) l
unfolding applied_as
alike y Nothing l = refl
alike y (Delete p) l = refl
alike y (Insert p x r) l = refl

-- Everything on the list passes a test, and what is put in does: so does everything on it after the edit.
module _ {A : Type 0} (test : A → Bool) (all : List A → Bool) (next : (x : A) (xs : List A) → all (x ∷ xs) ≡ (test x && all xs)) where
  all_cons : (x : A) (xs : List A) → test x ≡ true → all xs ≡ true → all (x ∷ xs) ≡ true
  all_cons x xs h k = next x xs ∙ rw h k

  all_tail : (x : A) (xs : List A) → all (x ∷ xs) ≡ true → all xs ≡ true
  all_tail x xs k = and_right (test x) (all xs) (sym (next x xs) ∙ k)

  all_inserted : (i : ℕ) (x : A) (l : List A) → test x ≡ true → all l ≡ true → all (inserted_at i x l) ≡ true
  all_inserted zero x l h k = all_cons x l h k
  all_inserted (suc i) x [] h k = all_cons x [] h k
  all_inserted (suc i) x (y ∷ l) h k = all_cons y (inserted_at i x l) (and_left (test y) (all l) (sym (next y l) ∙ k)) (all_inserted i x l h (all_tail y l k))

  all_deleted : (i : ℕ) (l : List A) → all l ≡ true → all (deleted_at i l) ≡ true
  all_deleted zero [] k = k
  all_deleted (suc i) [] k = k
  all_deleted zero (y ∷ l) k = all_tail y l k
  all_deleted (suc i) (y ∷ l) k = all_cons y (deleted_at i l) (and_left (test y) (all l) (sym (next y l) ∙ k)) (all_deleted i l (all_tail y l k))

  pub all_applied : (f : ℕ → A) (e : Edit) (l : List A) → ((p x r : ℕ) → e ≡ Insert p x r → test (f x) ≡ true) → all l ≡ true → all (applied_as f e l) ≡ true
  unfolding applied_as
  all_applied f Nothing l h k = k
  all_applied f (Delete p) l h k = all_deleted (p - 1) l k
  all_applied f (Insert p x r) l h k = all_inserted (p - 1) (f x) l (h p x r refl) k
