-- No refusal has the number 0, and what is done was not refused.
use mathlib.Core.Path.{◌≡◌, ap, sym, ◌∙◌, subst}
use Rattle.std.specs.Prelude.{Result, Ok, Err, ⊤, IsErrAnd}
use Rattle.std.proofs.lemmas.Result.{err_from_is_err_and}
use native.Mathlib.Omega.{arith}
use Rattle.refusal.specs.declared.Refusal.{Refusal}
use Rattle.refusal.specs.declared.Refusal.TheVariants as refusal
use Rattle.refusal.specs.Number.{number}

pub number_some : (r : Refusal) → number r ≡ 0 → ⊥
number_some refusal.Opening z = omega (arith, z)
number_some refusal.Unsound z = omega (arith, z)
number_some refusal.NoMessage z = omega (arith, z)
number_some refusal.WrongLine z = omega (arith, z)
number_some refusal.Repeated z = omega (arith, z)
number_some refusal.Early z = omega (arith, z)
number_some refusal.SeenTooFew z = omega (arith, z)
number_some refusal.SeenTooMany z = omega (arith, z)
number_some refusal.Misfit z = omega (arith, z)
number_some refusal.Inserts z = omega (arith, z)
number_some refusal.Edits z = omega (arith, z)
number_some refusal.Full z = omega (arith, z)
number_some refusal.NotPending z = omega (arith, z)
number_some refusal.Room z = omega (arith, z)
number_some refusal.Length z = omega (arith, z)
number_some refusal.Ranks z = omega (arith, z)
number_some refusal.NothingMade z = omega (arith, z)
number_some refusal.TooShort z = omega (arith, z)

module _ {A E : Type 0} where
  got : A → Result A E → A
  got a (Ok x) = x
  got a (Err r) = a

  pub ok_same : {x y : A} → ◌≡◌ {A = Result A E} (Ok x) (Ok y) → x ≡ y
  unfolding got
  ok_same {x} e = ap (got x) e

  IsDone : Result A E → Type 0
  IsDone (Ok x) = ⊤
  IsDone (Err r) = ⊥

  pub ok_err : {r : E} {x : A} → ◌≡◌ {A = Result A E} (Err r) (Ok x) → ⊥
  unfolding IsDone
  ok_err e = subst IsDone (sym e) tt

-- What `?` hands on is the error that came.
pub passed_on : {A E : Type 0} (r : Result A E) (e : E) → IsErrAnd r (λ y. y ≡ e) → r ≡ Err e
passed_on r e h = let p = err_from_is_err_and r h in p.1 ∙ ap Err p.2
