-- A loop that goes up through an array and writes a target list t over what was there, a: at place i the array is `swept t a i`. And a part
-- of an array changed in place: one item put in at the front, the first one taken out.
use mathlib.Core.Path.{◌≡◌, refl, ap, sym, ◌∙◌}
use Prim.Native.Nat.{ℕ, zero, suc, ◌+◌, ◌-◌, ◌≤◌, ◌<◌}
use native.Mathlib.Nat.{le_of_suc-le-suc, not-suc-le-zero}
use native.Mathlib.Omega.{arith}
use mathlib.Core.List.{List, [], ◌∷◌, ◌++◌}
use lib.ListN.{length, get_or, set, take, drop, take-append-drop}
use lib.Seq.{take-take, append_snoc}
use Rattle.ot.specs.Edit.{inserted_at, deleted_at}

module _ {A : Type 0} where
  abbrev pub swept : List A → List A → ℕ → List A
  swept t a i = take i t ++ drop i a

  -- a turn: the target's item goes to its place
  pub swept_store : (t a : List A) (i : ℕ) (d : A) → length t ≡ length a → i < length a → set (swept t a i) i (get_or t i d) ≡ swept t a (suc i)
  swept_store t [] i d e h = absurd (not-suc-le-zero h)
  swept_store [] (y ∷ a) i d e h = absurd (omega arith)
  swept_store (x ∷ t) (y ∷ a) zero d e h = refl
  swept_store (x ∷ t) (y ∷ a) (suc i) d e h = ap (λ (r : List A). x ∷ r) (swept_store t a i d (omega arith) (le_of_suc-le-suc h))

  -- where the two agree from i on, the loop has ended
  pub swept_to : (t a : List A) (i : ℕ) → drop i t ≡ drop i a → swept t a i ≡ t
  swept_to t a i e = ap (λ (r : List A). take i t ++ r) (sym e) ∙ take-append-drop i t

-- ---- x put in at the front, with the last place given up; and the first item taken out, with z put in at the end

abbrev pub raised : {A : Type 0} → A → List A → List A
raised x a = x ∷ take (length a - 1) a

abbrev pub lowered : {A : Type 0} → A → List A → List A
lowered z a = drop 1 a ++ z ∷ []

-- ---- a part of an array whose first n places hold a list, changed and put back: k places stand in front of it

module _ {A : Type 0} where
  -- from place k to the first unused one, and that too
  pub part_raised : (k m n : ℕ) (x : A) (a : List A) → n ≡ k + m → n < length a
      → take k a ++ ((x ∷ take m (take (suc m) (drop k a))) ++ drop (suc m) (drop k a)) ≡ inserted_at k x (take n a) ++ drop (suc n) a
  part_raised k m n x [] e h = absurd (not-suc-le-zero h)
  part_raised zero m n x (y ∷ a) e h =
      let same : m ≡ n = omega arith in
      ap (λ (r : List A). x ∷ r ++ drop m a) (take-take m (suc m) (y ∷ a) (omega arith))
      ∙ ap (λ (j : ℕ). inserted_at 0 x (take j (y ∷ a)) ++ drop (suc j) (y ∷ a)) same
  part_raised (suc k) m zero x (y ∷ a) e h = absurd (omega arith)
  part_raised (suc k) m (suc n) x (y ∷ a) e h = ap (λ (r : List A). y ∷ r) (part_raised k m n x a (omega arith) (le_of_suc-le-suc h))

  -- from place k to the last
  pub part_lowered : (k m n : ℕ) (z : A) (a : List A) → n ≡ k + suc m → n ≤ length a
      → take k a ++ ((drop 1 (take (suc m) (drop k a)) ++ z ∷ []) ++ drop (suc m) (drop k a)) ≡ deleted_at k (take n a) ++ z ∷ drop n a
  part_lowered k m n z [] e h = absurd (omega arith)
  part_lowered zero m n z (y ∷ a) e h =
      let same : suc m ≡ n = omega arith in
      append_snoc (take m a) z (drop m a) ∙ ap (λ (j : ℕ). deleted_at 0 (take j (y ∷ a)) ++ z ∷ drop j (y ∷ a)) same
  part_lowered (suc k) m zero z (y ∷ a) e h = absurd (omega arith)
  part_lowered (suc k) m (suc n) z (y ∷ a) e h = ap (λ (r : List A). y ∷ r) (part_lowered k m n z a (omega arith) (le_of_suc-le-suc h))
