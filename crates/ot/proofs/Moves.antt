-- How an edit moves past another, by the tests that the code makes, and the form that the move leads to.
use mathlib.Core.Path.{◌≡◌, refl}
use native.Mathlib.Omega.{arith}
use mathlib.Core.Bool.{Bool, true, false, ◌||◌, ◌&&◌, cond}
use Prim.Native.Nat.{ℕ, ◌+◌, ◌-◌}
use lib.Dec.{ltb, leb, eqb}
use borrow.Author.Tests.{ltb-true, ltb-false, eq-eqb, ne_eqb}
use Rattle.ot.specs.declared.Form.{Form}
use Rattle.ot.specs.declared.Form.TheVariants.{Nothing, Delete, Insert}
use Rattle.ot.specs.declared.Move.{Move}
use Rattle.ot.specs.declared.Move.TheVariants.{Still, Down, Up, Gone}
use Rattle.ot.specs.Form.{position_of, moved, how, shifted, delete_after}

-- The form is the one that the move leads to: the same tests choose both.
choose : {A B : Type 0} (f : A → B) (t : Bool) (a b : A) → cond t (f a) (f b) ≡ f (cond t a b)
choose f true a b = refl
choose f false a b = refl

pub delete_after_lem : (p : ℕ) (b : Form) → moved (Delete p) b ≡ delete_after p (how (Delete p) b)
unfolding moved how
delete_after_lem p Nothing = refl
delete_after_lem p (Delete q) = go (ltb p q) (ltb q p)
  where
    go : (s t : Bool) → cond s (Delete p) (cond t (Delete (p - 1)) Nothing) ≡ delete_after p (cond s Still (cond t Down Gone))
    go true t = refl
    go false true = refl
    go false false = refl
delete_after_lem p (Insert q s) = choose (delete_after p) (ltb p q) Still Up

pub insert_after : (p r : ℕ) (b : Form) → moved (Insert p r) b ≡ Insert (shifted (how (Insert p r) b) p) r
unfolding moved how shifted
insert_after p r Nothing = refl
insert_after p r (Delete q) = choose (λ m. Insert (shifted m p) r) (leb p q) Still Down
insert_after p r (Insert q s) = go (ltb p q) (ltb q p) (ltb s r)
  where
    go : (t u v : Bool) → cond t (Insert p r) (cond u (Insert (p + 1) r) (cond v (Insert (p + 1) r) (Insert p r)))
        ≡ Insert (shifted (cond t Still (cond u Up (cond v Up Still))) p) r
    go true u v = refl
    go false true v = refl
    go false false true = refl
    go false false false = refl

pub delete_at : (p : ℕ) (m : Move) → position_of (delete_after p m) ≡ shifted m p
unfolding shifted
delete_at p Still = refl
delete_at p Down = refl
delete_at p Up = refl
delete_at p Gone = refl

pub shifts : (a b : Form) → position_of (moved a b) ≡ shifted (how a b) (position_of a)
unfolding moved how shifted
shifts Nothing b = refl
shifts (Delete p) b = rw (delete_after_lem p b) (delete_at p (how (Delete p) b))
shifts (Insert p r) b = rw (insert_after p r b) refl

-- a delete that is not gone stands where the move leads
pub delete_shifted : (p : ℕ) (m : Move) → (m ≡ Gone → ⊥) → Delete (shifted m p) ≡ delete_after p m
unfolding shifted
delete_shifted p Still n = refl
delete_shifted p Down n = refl
delete_shifted p Up n = refl
delete_shifted p Gone n = absurd (n refl)

-- an insert past another: the tests that the code makes at once, and those of the table in turn
pub insert_insert : (p r q s : ℕ) → how (Insert p r) (Insert q s) ≡ cond (ltb q p || eqb q p && ltb s r) Up Still
unfolding how
insert_insert p r q s = go (ltb p q) refl (ltb q p) refl
  where
    go : (t : Bool) → ltb p q ≡ t → (u : Bool) → ltb q p ≡ u
        → cond t Still (cond u Up (cond (ltb s r) Up Still)) ≡ cond (u || eqb q p && ltb s r) Up Still
    go true e true f = absurd (omega (arith, ltb-true p q e, ltb-true q p f))
    go true e false f = rw (ne_eqb q p (λ same. omega (arith, ltb-true p q e, same))) refl
    go false e true f = refl
    go false e false f =
        let same : q ≡ p = omega (arith, ltb-false p q e, ltb-false q p f) in
        rw (eq-eqb q p same) refl
