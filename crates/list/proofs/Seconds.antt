-- Laws of the running time: the sum over parts of a list, over the places of an array, and over a list after an edit.
use Prim.Native.Nat.{ℕ, zero, suc, ◌+◌, ◌-◌, ◌*◌, ◌≤◌, ◌<◌}
use native.Mathlib.Omega.{arith}
use mathlib.Core.Path.{◌≡◌, refl, ap, sym, ◌∙◌, subst}
use mathlib.Core.Bool.{true}
use mathlib.Core.List.{List, [], ◌∷◌, ◌++◌}
use lib.ListN.{length, get_or, take, replicate, length-take}
use Rattle.std.specs.List.{sum_by}
use Rattle.std.proofs.lemmas.List.Sums.{sum_by-cons}
use Rattle.ot.specs.declared.Form.{Form}
use Rattle.ot.specs.declared.Form.TheVariants as form
use Rattle.ot.specs.Edit.{Edit, Nothing, Delete, Insert, edit, inserted_at, deleted_at, applied_as, applied, fits}
use Rattle.ot.proofs.Fits.{between_true}
use Rattle.list.specs.declared.Origin.{Origin}
use Rattle.list.specs.Items.{padded}
use Rattle.list.specs.Places.{Place, applied_by, initial_places, items_of}
use Rattle.list.specs.Seconds.{seconds_of, total_seconds, running_time}
use Rattle.list.proofs.Places.{items_applied, initial_items_lem}

-- ---- parts of a list, and the places behind it

pub total_append : (l k : List ℕ) → total_seconds (l ++ k) ≡ total_seconds l + total_seconds k
unfolding total_seconds
total_append [] k = omega arith
total_append (x ∷ l) k = omega (arith, total_append l k)

pub total_zeros : (n : ℕ) → total_seconds (replicate n 0) ≡ 0
unfolding total_seconds
total_zeros zero = refl
total_zeros (suc n) = omega (arith, total_zeros n)

-- places that are not in use add nothing
pub total_padded : (n : ℕ) (l : List ℕ) → total_seconds (padded 0 n l) ≡ total_seconds l
total_padded n l = omega (arith, total_append l (replicate (n - length l) 0), total_zeros (n - length l))

pub total_few : (l : List ℕ) → total_seconds l ≤ 4095 * length l
unfolding total_seconds
total_few [] = omega arith
total_few (x ∷ l) = omega (arith, total_few l)

-- the total is the sum that an iterator gives
pub total_sum : (l : List ℕ) → total_seconds l ≡ sum_by seconds_of l
unfolding total_seconds
total_sum [] = refl
total_sum (x ∷ l) = ap (λ (n : ℕ). seconds_of x + n) (total_sum l) ∙ sym (sum_by-cons seconds_of x l)

pub total_part_few : (n : ℕ) (l : List ℕ) → total_seconds (take n l) ≤ 4095 * length l
total_part_few n l = omega (arith, total_few (take n l), length-take n l)

-- ---- an edit

pub total_inserted : (i x : ℕ) (l : List ℕ) → total_seconds (inserted_at i x l) ≡ total_seconds l + seconds_of x
unfolding total_seconds
total_inserted zero x l = omega arith
total_inserted (suc i) x [] = omega arith
total_inserted (suc i) x (y ∷ l) = omega (arith, total_inserted i x l)

pub total_deleted : (i : ℕ) (l : List ℕ) → i < length l → total_seconds (deleted_at i l) + seconds_of (get_or l i 0) ≡ total_seconds l
unfolding total_seconds
total_deleted i [] h = absurd (omega arith)
total_deleted zero (y ∷ l) h = omega arith
total_deleted (suc i) (y ∷ l) h = omega (arith, total_deleted i l (omega arith))

-- what the total becomes by an edit: the seconds that it adds, and those that it subtracts
abbrev pub seconds_in : Edit → ℕ
seconds_in Nothing = 0
seconds_in (Delete p) = 0
seconds_in (Insert p x r) = seconds_of x

abbrev pub seconds_out : Edit → List ℕ → ℕ
seconds_out Nothing l = 0
seconds_out (Delete p) l = seconds_of (get_or l (p - 1) 0)
seconds_out (Insert p x r) l = 0

pub total_applied : (e : Edit) (l : List ℕ) → fits e (length l) ≡ true → total_seconds (applied e l) + seconds_out e l ≡ total_seconds l + seconds_in e
unfolding applied_as fits
total_applied Nothing l h = refl
total_applied (Delete p) l h = omega (arith, total_deleted (p - 1) l (omega (arith, between_true 1 p (length l) h)))
total_applied (Insert p x r) l h = omega (arith, total_inserted (p - 1) x l)

pub total_items : (o : Origin) (e : Edit) (l : List Place) → running_time (applied_by o e l) ≡ total_seconds (applied e (items_of l))
total_items o e l = ap total_seconds (items_applied o e l)

pub total_initial : (xs : List ℕ) → running_time (initial_places xs) ≡ total_seconds xs
total_initial xs = ap total_seconds (initial_items_lem xs)

-- ---- by the form of the edit, which the code knows by an equation

pub delete_fits : {f : Form} {p n : ℕ} (x : ℕ) → f ≡ form.Delete p → fits (edit f x) n ≡ true → (1 ≤ p) × (p ≤ n)
unfolding fits
delete_fits {n = n} x q h = between_true 1 _ n (subst (λ (g : Form). fits (edit g x) n ≡ true) q h)

-- an item's seconds are part of the total
pub total_at : (l : List ℕ) (i : ℕ) → i < length l → seconds_of (get_or l i 0) ≤ total_seconds l
total_at l i h = omega (arith, total_deleted i l h)

pub total_moved : {f g : Form} (x : ℕ) (l : List ℕ) → f ≡ g → fits (edit f x) (length l) ≡ true
    → total_seconds (applied (edit f x) l) + seconds_out (edit g x) l ≡ total_seconds l + seconds_in (edit g x)
total_moved {f = f} x l q h =
    subst (λ (k : Form). total_seconds (applied (edit f x) l) + seconds_out (edit k x) l ≡ total_seconds l + seconds_in (edit k x)) q
    (total_applied (edit f x) l h)
