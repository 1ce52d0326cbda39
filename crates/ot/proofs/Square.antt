-- The square (TP1): two edits of one list, each transformed past the other, fit and lead to one list.
use mathlib.Core.Path.{◌≡◌, refl, ap, sym}
use mathlib.Core.Bool.{true, not, cond}
use Prim.Native.Nat.{ℕ, ◌+◌, ◌-◌, ◌≤◌, ◌<◌}
use native.Mathlib.Omega.{arith}
use mathlib.Core.List.{List}
use lib.Dec.{leb, ltb, eqb}
use lib.ListN.{length}
use borrow.Author.Tests.{ltb-true, leb-true, leb-false, eqb-false, lt-ltb, le-ltb, le-leb, lt-leb, not-true}
use Rattle.ot.specs.declared.Form.TheVariants as form
use Rattle.ot.specs.Edit.{Edit, Nothing, Delete, Insert, edit, deleted_at, applied_as, size_after, fits, transformed}
use Rattle.ot.specs.Laws.{distinct, Closes}
use Rattle.ot.proofs.Exchange.{swap_insert_insert, swap_insert_delete, swap_delete_insert, swap_delete_delete}
use Rattle.ot.proofs.Fits.{between_true, true_between, Order, below, level, above, order, size}
use Rattle.ot.proofs.Keeps.{either, insert_forms}

-- ---- the transformed edit fits

pub fits_after : (a b : Edit) (n : ℕ) → fits a n ≡ true → fits b n ≡ true → fits (transformed a b) (size_after b n) ≡ true
unfolding fits transformed size_after
fits_after Nothing b n f g = refl
fits_after (Delete p) Nothing n f g = f
fits_after (Delete p) (Delete q) n f g =
    let h = between_true 1 p n f in
    let k = between_true 1 q n g in
    either (λ e. fits (edit e 0) (n - 1) ≡ true) (ltb p q) (form.Delete p) (cond (ltb q p) (form.Delete (p - 1)) form.Nothing)
    (λ t. true_between 1 p (n - 1) (omega arith) (omega (arith, ltb-true p q t)))
    (λ _. either (λ e. fits (edit e 0) (n - 1) ≡ true) (ltb q p) (form.Delete (p - 1)) form.Nothing
    (λ t. true_between 1 (p - 1) (n - 1) (omega (arith, ltb-true q p t)) (omega arith)) (λ _. refl))
fits_after (Delete p) (Insert q y s) n f g =
    let h = between_true 1 p n f in
    either (λ e. fits (edit e 0) (n + 1) ≡ true) (ltb p q) (form.Delete p) (form.Delete (p + 1)) (λ _. true_between 1 p (n + 1) (omega arith) (omega arith))
    (λ _. true_between 1 (p + 1) (n + 1) (omega arith) (omega arith))
fits_after (Insert p x r) Nothing n f g = f
fits_after (Insert p x r) (Delete q) n f g =
    let h = between_true 1 p (n + 1) f in
    let k = between_true 1 q n g in
    either (λ e. fits (edit e x) (n - 1) ≡ true) (leb p q) (form.Insert p r) (form.Insert (p - 1) r)
    (λ t. true_between 1 p (n - 1 + 1) (omega arith) (omega (arith, leb-true p q t)))
    (λ t. true_between 1 (p - 1) (n - 1 + 1) (omega (arith, leb-false p q t)) (omega arith))
fits_after (Insert p x r) (Insert q y s) n f g =
    let h = between_true 1 p (n + 1) f in
    let same = true_between 1 p (n + 1 + 1) (omega arith) (omega arith) in
    let up = true_between 1 (p + 1) (n + 1 + 1) (omega arith) (omega arith) in
    insert_forms (λ e. fits (edit e x) (n + 1) ≡ true) p r (form.Insert q s) same up (λ i e k. absurd (let z : ◌≡◌ {A = ℕ} 0 1 = cc in omega arith))

-- ---- both orders give one list

abbrev Meets : {A : Type 0} → (ℕ → A) → (ℕ → A) → Edit → Edit → List A → Type 0
Meets f g a b l = applied_as g (transformed b a) (applied_as f a l) ≡ applied_as f (transformed a b) (applied_as g b l)

module _ {A : Type 0} (l : List A) where
  -- two deletes, the first in front
  deletes_below : (f g : ℕ → A) (p q : ℕ) → 1 ≤ p → p < q → q ≤ length l → Meets f g (Delete p) (Delete q) l
  unfolding applied_as transformed
  deletes_below f g p q h o k =
      rw (lt-ltb p q o, le-ltb q p (omega arith))
      (sym (swap_delete_delete (p - 1) (q - 1 - 1) (q - 1) l (omega arith) (omega arith) (omega arith)))

  deletes_level : (f g : ℕ → A) (p q : ℕ) → p ≡ q → Meets f g (Delete p) (Delete q) l
  unfolding applied_as transformed
  deletes_level f g p q o =
      rw (le-ltb p q (omega arith), le-ltb q p (omega arith)) (ap (λ (n : ℕ). deleted_at (n - 1) l) o)

  deletes : (f g : ℕ → A) (p q : ℕ) → 1 ≤ p → p ≤ length l → 1 ≤ q → q ≤ length l → Order p q → Meets f g (Delete p) (Delete q) l
  deletes f g p q h₁ h₂ k₁ k₂ (below o) = deletes_below f g p q h₁ o k₂
  deletes f g p q h₁ h₂ k₁ k₂ (level o) = deletes_level f g p q o
  deletes f g p q h₁ h₂ k₁ k₂ (above o) = sym (deletes_below g f q p k₁ o h₂)

  -- of two inserts the first stays, the second moves up: it stands behind, or both stand at one place and the first's priority is smaller
  inserts_below : (f g : ℕ → A) (p x r q y s : ℕ) → 1 ≤ p → p < q → q ≤ length l + 1 → Meets f g (Insert p x r) (Insert q y s) l
  unfolding applied_as transformed
  inserts_below f g p x r q y s h o k =
      rw (lt-ltb p q o, le-ltb q p (omega arith))
      (swap_insert_insert (p - 1) (q - 1) (q + 1 - 1) (f x) (g y) l (omega arith) (omega arith) (omega arith))

  inserts_level : (f g : ℕ → A) (p x r q y s : ℕ) → 1 ≤ p → p ≡ q → q ≤ length l + 1 → r < s → Meets f g (Insert p x r) (Insert q y s) l
  unfolding applied_as transformed
  inserts_level f g p x r q y s h o k t =
      rw (le-ltb p q (omega arith), le-ltb q p (omega arith), lt-ltb r s t, le-ltb s r (omega arith))
      (swap_insert_insert (p - 1) (q - 1) (q + 1 - 1) (f x) (g y) l (omega arith) (omega arith) (omega arith))

  inserts : (f g : ℕ → A) (p x r q y s : ℕ) → 1 ≤ p → p ≤ length l + 1 → 1 ≤ q → q ≤ length l + 1 → (r ≡ s → ⊥) → Order p q → Order r s
      → Meets f g (Insert p x r) (Insert q y s) l
  inserts f g p x r q y s h₁ h₂ k₁ k₂ d (below o) t = inserts_below f g p x r q y s h₁ o k₂
  inserts f g p x r q y s h₁ h₂ k₁ k₂ d (above o) t = sym (inserts_below g f q y s p x r k₁ o h₂)
  inserts f g p x r q y s h₁ h₂ k₁ k₂ d (level o) (below t) = inserts_level f g p x r q y s h₁ o k₂ t
  inserts f g p x r q y s h₁ h₂ k₁ k₂ d (level o) (level t) = absurd (d t)
  inserts f g p x r q y s h₁ h₂ k₁ k₂ d (level o) (above t) = sym (inserts_level g f q y s p x r k₁ (sym o) h₂ t)

  insert_first : (f g : ℕ → A) (p x r q : ℕ) → 1 ≤ p → p ≤ q → q ≤ length l → Meets f g (Insert p x r) (Delete q) l
  unfolding applied_as transformed
  insert_first f g p x r q h o k =
      rw (le-leb p q o, le-ltb q p o) (swap_insert_delete (p - 1) (q - 1) (q + 1 - 1) (f x) l (omega arith) (omega arith) (omega arith))

  delete_first : (f g : ℕ → A) (p x r q : ℕ) → 1 ≤ q → q < p → p ≤ length l + 1 → Meets f g (Insert p x r) (Delete q) l
  unfolding applied_as transformed
  delete_first f g p x r q h o k =
      rw (lt-leb p q o, lt-ltb q p o) (swap_delete_insert (q - 1) (p - 1 - 1) (p - 1) (f x) l (omega arith) (omega arith) (omega arith))

  mixed : (f g : ℕ → A) (p x r q : ℕ) → 1 ≤ p → p ≤ length l + 1 → 1 ≤ q → q ≤ length l → Order p q → Meets f g (Insert p x r) (Delete q) l
  mixed f g p x r q h₁ h₂ k₁ k₂ (below o) = insert_first f g p x r q h₁ (omega arith) k₂
  mixed f g p x r q h₁ h₂ k₁ k₂ (level o) = insert_first f g p x r q h₁ (omega arith) k₂
  mixed f g p x r q h₁ h₂ k₁ k₂ (above o) = delete_first f g p x r q k₁ o h₂

-- an insert's priorities differ where the test says so
apart : (r s : ℕ) → not (eqb r s) ≡ true → r ≡ s → ⊥
apart r s t = eqb-false r s (not-true (eqb r s) t)

meets : {A : Type 0} (f g : ℕ → A) (a b : Edit) (l : List A) → fits a (length l) ≡ true → fits b (length l) ≡ true → distinct a b ≡ true → Meets f g a b l
unfolding applied_as transformed fits distinct
meets f g Nothing Nothing l u v d = refl
meets f g Nothing (Delete q) l u v d = refl
meets f g Nothing (Insert q y s) l u v d = refl
meets f g (Delete p) Nothing l u v d = refl
meets f g (Delete p) (Delete q) l u v d =
    let h = between_true 1 p (length l) u in
    let k = between_true 1 q (length l) v in
    deletes l f g p q h.0 h.1 k.0 k.1 (order p q)
meets f g (Delete p) (Insert q y s) l u v d =
    let h = between_true 1 p (length l) u in
    let k = between_true 1 q (length l + 1) v in
    sym (mixed l g f q y s p k.0 k.1 h.0 h.1 (order q p))
meets f g (Insert p x r) Nothing l u v d = refl
meets f g (Insert p x r) (Delete q) l u v d =
    let h = between_true 1 p (length l + 1) u in
    let k = between_true 1 q (length l) v in
    mixed l f g p x r q h.0 h.1 k.0 k.1 (order p q)
meets f g (Insert p x r) (Insert q y s) l u v d =
    let h = between_true 1 p (length l + 1) u in
    let k = between_true 1 q (length l + 1) v in
    inserts l f g p x r q y s h.0 h.1 k.0 k.1 (apart r s d) (order p q) (order r s)

pub square : {A : Type 0} (f g : ℕ → A) (a b : Edit) (l : List A) → fits a (length l) ≡ true → fits b (length l) ≡ true → distinct a b ≡ true
    → Closes f g a b l
square f g a b l u v d =
    record {
      left = rw (size g b l v) (fits_after a b (length l) u v);
      right = rw (size f a l u) (fits_after b a (length l) v u);
      same = meets f g a b l u v d;
    }
