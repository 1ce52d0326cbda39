-- An edit of a list that stands in an array: what its room says of the numbers, and that unused places stay as they should.
use mathlib.Core.Path.{◌≡◌, refl, ap, sym, ◌∙◌, subst}
use Prim.Native.Nat.{ℕ, suc, ◌+◌, ◌-◌, ◌≤◌, ◌<◌}
use native.Mathlib.Omega.{arith}
use mathlib.Core.List.{List, ◌∷◌, ◌++◌}
use lib.ListN.{length, take, drop, replicate, take-append-drop, length-append, length-take, length-drop}
use lib.Seq.{take-append_seam, drop-append_seam, drop-drop, length-take-le}
use Rattle.ot.specs.declared.Form.{Form}
use Rattle.ot.specs.declared.Form.TheVariants as form
use Rattle.ot.specs.Edit.{Edit, Nothing, Delete, Insert, edit, inserted_at, deleted_at, applied_as, applied, size_after, fits}
use Rattle.list.specs.Items.{padded, behind, edited, Room, Edited, StaysPadded}
use borrow.Rule.Slice.PartMut.{put_mid}
use Rattle.list.proofs.Sweep.{raised, lowered, part_raised, part_lowered}
use Rattle.ot.proofs.Fits.{between_true, length_inserted, length_deleted}

-- ---- by the form of the edit, which the code knows by an equation

pub room_delete : {f : Form} {p n m : ℕ} (x : ℕ) → f ≡ form.Delete p → Room (edit f x) n m → (1 ≤ p) × (p ≤ n) × (n ≤ m)
unfolding fits
room_delete {n = n} {m = m} x q r =
    let v = subst (λ (g : Form). Room (edit g x) n m) q r in
    let h = between_true 1 _ n v.fitting in
    (h.0, h.1, v.before)

pub room_insert : {f : Form} {p s n m : ℕ} (x : ℕ) → f ≡ form.Insert p s → Room (edit f x) n m → (1 ≤ p) × (p ≤ n + 1) × (n + 1 ≤ m)
unfolding fits size_after
room_insert {n = n} {m = m} x q r =
    let v = subst (λ (g : Form). Room (edit g x) n m) q r in
    let h = between_true 1 _ (n + 1) v.fitting in
    (h.0, h.1, v.after)

-- ---- the part that the code changes, put back

pub part_some : (k n : ℕ) (a : List ℕ) → k < n → n ≤ length a → 0 < length (take (n - k) (drop k a))
part_some k n a h b = simp (length-take, length-drop) (omega arith)

-- a delete changes the places from k to the last
pub part_deleted : (k n : ℕ) (a b : List ℕ) → k < n → n ≤ length a → b ≡ lowered 0 (take (n - k) (drop k a))
    → put_mid k (n - k) a b ≡ deleted_at k (take n a) ++ 0 ∷ drop n a
part_deleted k n a b h l e =
    let m : n - k ≡ suc (n - (k + 1)) = omega arith in
    ap (put_mid k (n - k) a) e ∙ ap (λ (j : ℕ). put_mid k j a (lowered 0 (take j (drop k a)))) m
    ∙ part_lowered k (n - (k + 1)) n 0 a (omega arith) l

-- an insert those from k to the first that is not in use
pub part_inserted : (k n x : ℕ) (a b : List ℕ) → k ≤ n → n < length a → b ≡ raised x (take (n + 1 - k) (drop k a))
    → put_mid k (n + 1 - k) a b ≡ inserted_at k x (take n a) ++ drop (n + 1) a
part_inserted k n x a b h l e =
    let m : n + 1 - k ≡ suc (n - k) = omega arith in
    let s : length (take (suc (n - k)) (drop k a)) - 1 ≡ n - k = simp (length-take, length-drop) (omega arith) in
    ap (put_mid k (n + 1 - k) a) e ∙ ap (λ (j : ℕ). put_mid k j a (raised x (take j (drop k a)))) m
    ∙ ap (λ (j : ℕ). put_mid k (suc (n - k)) a (x ∷ take j (take (suc (n - k)) (drop k a)))) s
    ∙ part_raised k (n - k) n x a (omega arith) l
    ∙ ap (λ (j : ℕ). inserted_at k x (take n a) ++ drop j a) (let j : suc n ≡ n + 1 = omega arith in j)

pub edited_nothing : {f : Form} {n : ℕ} {a : List ℕ} (x : ℕ) → f ≡ form.Nothing → Edited (edit f x) n a a n
unfolding applied_as behind size_after
edited_nothing {n = n} {a = a} x q =
    subst (λ (g : Form). Edited (edit g x) n a a n) (sym q) (record { items = sym (take-append-drop n a); length = refl })

pub edited_delete : {f : Form} {p n : ℕ} {a b : List ℕ} (x : ℕ) → f ≡ form.Delete p → b ≡ deleted_at (p - 1) (take n a) ++ 0 ∷ drop n a → Edited (edit f x) n a b (n - 1)
unfolding applied_as behind size_after
edited_delete {n = n} {a = a} {b = b} x q h = subst (λ (g : Form). Edited (edit g x) n a b (n - 1)) (sym q) (record { items = h; length = refl })

pub edited_insert : {f : Form} {p s n : ℕ} {a b : List ℕ} (x : ℕ) → f ≡ form.Insert p s → b ≡ inserted_at (p - 1) x (take n a) ++ drop (n + 1) a → Edited (edit f x) n a b (n + 1)
unfolding applied_as behind size_after
edited_insert {p = p} {n = n} {a = a} {b = b} x q h =
    subst (λ (g : Form). Edited (edit g x) n a b (n + 1)) (sym q) (record { items = h ∙ ap (λ (t : List ℕ). inserted_at (p - 1) x (take n a) ++ t) (sym (drop-drop 1 n a)); length = refl })

-- an edit of the list leaves the array as long as it was
pub edited_length : (e : Edit) (n : ℕ) (a : List ℕ) → Room e n (length a) → length (edited e n a) ≡ length a
unfolding applied_as behind
edited_length Nothing n a r = ap length (take-append-drop n a)
edited_length (Delete p) n a r =
    let h = room_delete {f = form.Delete p} 0 refl r in
    let k : length (take n a) ≡ n = length-take-le n a r.before in
    length-append (deleted_at (p - 1) (take n a)) (0 ∷ drop n a)
    ∙ omega (arith, length_deleted (p - 1) (take n a) (omega (arith, k)), length-drop n a, k)
edited_length (Insert p x s) n a r =
    let h = room_insert {f = form.Insert p s} x refl r in
    let k : length (take n a) ≡ n = length-take-le n a r.before in
    length-append (inserted_at (p - 1) x (take n a)) (drop 1 (drop n a))
    ∙ omega (arith, length_inserted (p - 1) x (take n a), length-drop 1 (drop n a), length-drop n a, k)

-- ---- unused places

-- behind the list, with the list's length written as it is
behind_padded : (m : ℕ) (e : Edit) (l : List ℕ) → Room e (length l) m → behind e (replicate (m - length l) 0) ≡ replicate (m - length (applied e l)) 0
unfolding behind applied_as
behind_padded m Nothing l r = refl
behind_padded m (Delete p) l r =
    let h = room_delete {f = form.Delete p} 0 refl r in
    let e : suc (m - length l) ≡ m - length (deleted_at (p - 1) l) = omega (arith, length_deleted (p - 1) l (omega arith)) in
    ap (λ (k : ℕ). replicate k 0) e
behind_padded m (Insert p x s) l r =
    let h = room_insert {f = form.Insert p s} x refl r in
    let e : m - length l ≡ suc (m - length (inserted_at (p - 1) x l)) = omega (arith, length_inserted (p - 1) x l) in
    ap (λ (k : ℕ). drop 1 (replicate k 0)) e

pub array : StaysPadded
array m e l r =
    ap (λ (t : List ℕ). applied e t ++ behind e (drop (length l) (padded 0 m l))) (take-append_seam l (replicate (m - length l) 0))
    ∙ ap (λ (t : List ℕ). applied e l ++ behind e t) (drop-append_seam l (replicate (m - length l) 0))
    ∙ ap (λ (t : List ℕ). applied e l ++ t) (behind_padded m e l r)
