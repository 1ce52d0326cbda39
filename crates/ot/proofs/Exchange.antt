-- Two changes of a list in two places change places: what the square comes down to. Two in one place undo each other. Places count from 0.
-- Each law is shown by recursion over the list, with the later place written as a successor; the law that is cited takes that by an equation.
use mathlib.Core.Path.{◌≡◌, refl, ap, sym, subst}
use Prim.Native.Nat.{ℕ, zero, suc, ◌≤◌, ◌<◌}
use native.Mathlib.Nat.{le_of_suc-le-suc, not-suc-le-zero}
use mathlib.Core.List.{List, [], ◌∷◌}
use lib.ListN.{length, get_or}
use Rattle.ot.specs.Edit.{inserted_at, deleted_at}

module _ {A : Type 0} where
  -- an insert at i, another at or behind i
  insert_insert : (i j : ℕ) (x y : A) (l : List A) → i ≤ j → i ≤ length l → inserted_at (suc j) y (inserted_at i x l) ≡ inserted_at i x (inserted_at j y l)
  insert_insert zero j x y l h k = refl
  insert_insert (suc i) zero x y l h k = absurd (not-suc-le-zero h)
  insert_insert (suc i) (suc j) x y [] h k = absurd (not-suc-le-zero k)
  insert_insert (suc i) (suc j) x y (z ∷ l) h k = ap (λ (r : List A). z ∷ r) (insert_insert i j x y l (le_of_suc-le-suc h) (le_of_suc-le-suc k))

  -- an insert at i, a delete at or behind i
  insert_delete : (i j : ℕ) (x : A) (l : List A) → i ≤ j → j < length l → deleted_at (suc j) (inserted_at i x l) ≡ inserted_at i x (deleted_at j l)
  insert_delete zero j x l h k = refl
  insert_delete (suc i) zero x l h k = absurd (not-suc-le-zero h)
  insert_delete (suc i) (suc j) x [] h k = absurd (not-suc-le-zero k)
  insert_delete (suc i) (suc j) x (z ∷ l) h k = ap (λ (r : List A). z ∷ r) (insert_delete i j x l (le_of_suc-le-suc h) (le_of_suc-le-suc k))

  -- a delete at j, an insert behind j
  delete_insert : (j i : ℕ) (x : A) (l : List A) → j ≤ i → suc i ≤ length l → deleted_at j (inserted_at (suc i) x l) ≡ inserted_at i x (deleted_at j l)
  delete_insert j i x [] h k = absurd (not-suc-le-zero k)
  delete_insert zero i x (z ∷ l) h k = refl
  delete_insert (suc j) zero x (z ∷ l) h k = absurd (not-suc-le-zero h)
  delete_insert (suc j) (suc i) x (z ∷ l) h k = ap (λ (r : List A). z ∷ r) (delete_insert j i x l (le_of_suc-le-suc h) (le_of_suc-le-suc k))

  -- a delete at i, another behind i
  delete_delete : (i j : ℕ) (l : List A) → i ≤ j → suc j < length l → deleted_at i (deleted_at (suc j) l) ≡ deleted_at j (deleted_at i l)
  delete_delete i j [] h k = absurd (not-suc-le-zero k)
  delete_delete zero j (z ∷ l) h k = refl
  delete_delete (suc i) zero (z ∷ l) h k = absurd (not-suc-le-zero h)
  delete_delete (suc i) (suc j) (z ∷ l) h k = ap (λ (r : List A). z ∷ r) (delete_delete i j l (le_of_suc-le-suc h) (le_of_suc-le-suc k))

  pub swap_insert_insert : (i j k : ℕ) (x y : A) (l : List A) → k ≡ suc j → i ≤ j → i ≤ length l
      → inserted_at k y (inserted_at i x l) ≡ inserted_at i x (inserted_at j y l)
  swap_insert_insert i j k x y l e h b = subst (λ (n : ℕ). inserted_at n y (inserted_at i x l) ≡ inserted_at i x (inserted_at j y l)) (sym e) (insert_insert i j x y l h b)

  pub swap_insert_delete : (i j k : ℕ) (x : A) (l : List A) → k ≡ suc j → i ≤ j → j < length l
      → deleted_at k (inserted_at i x l) ≡ inserted_at i x (deleted_at j l)
  swap_insert_delete i j k x l e h b = subst (λ (n : ℕ). deleted_at n (inserted_at i x l) ≡ inserted_at i x (deleted_at j l)) (sym e) (insert_delete i j x l h b)

  pub swap_delete_insert : (j i k : ℕ) (x : A) (l : List A) → k ≡ suc i → j ≤ i → k ≤ length l
      → deleted_at j (inserted_at k x l) ≡ inserted_at i x (deleted_at j l)
  swap_delete_insert j i k x l e h b =
      subst (λ (n : ℕ). n ≤ length l → deleted_at j (inserted_at n x l) ≡ inserted_at i x (deleted_at j l)) (sym e) (delete_insert j i x l h) b

  pub swap_delete_delete : (i j k : ℕ) (l : List A) → k ≡ suc j → i ≤ j → k < length l → deleted_at i (deleted_at k l) ≡ deleted_at j (deleted_at i l)
  swap_delete_delete i j k l e h b =
      subst (λ (n : ℕ). n < length l → deleted_at i (deleted_at n l) ≡ deleted_at j (deleted_at i l)) (sym e) (delete_delete i j l h) b

  -- what was put in is taken out again
  pub delete_inserted : (i : ℕ) (x : A) (l : List A) → i ≤ length l → deleted_at i (inserted_at i x l) ≡ l
  delete_inserted zero x l h = refl
  delete_inserted (suc i) x [] h = absurd (not-suc-le-zero h)
  delete_inserted (suc i) x (z ∷ l) h = ap (λ (r : List A). z ∷ r) (delete_inserted i x l (le_of_suc-le-suc h))

  -- what was taken out is put in again
  pub insert_deleted : (i : ℕ) (d : A) (l : List A) → i < length l → inserted_at i (get_or l i d) (deleted_at i l) ≡ l
  insert_deleted i d [] h = absurd (not-suc-le-zero h)
  insert_deleted zero d (z ∷ l) h = refl
  insert_deleted (suc i) d (z ∷ l) h = ap (λ (r : List A). z ∷ r) (insert_deleted i d l (le_of_suc-le-suc h))
