-- The ways in which a call ends: the end is not sound, a question says no, the call is done.
use Prim.Native.Nat.{ℕ}
use mathlib.Core.Path.{◌≡◌, refl, ap, ◌∙◌}
use mathlib.Core.Bool.{Bool, true, false, cond}
use borrow.Author.Tests.{ne_eqb}
use Rattle.refusal.specs.declared.Refusal.{Refusal}
use Rattle.refusal.specs.Number.{number}
use Rattle.refusal.proofs.Some.{number_some}
use Rattle.model.specs.Questions as question
use Rattle.model.specs.Server as model
use Rattle.server.specs.declared.Server.{Server}
use Rattle.server.specs.View.{view, store, sound}
use Rattle.server.specs.Answers.{refused_with, guarded}

module _ (s : Server) where
  pub unsound : (r : Refusal) → number r ≡ cond (sound s) 0 2 → (a : question.Answer model.Server) → refused_with (number r) s ≡ guarded s a
  unfolding guarded
  unsound r e a = go (sound s) refl
    where
      go : (b : Bool) → sound s ≡ b → refused_with (number r) s ≡ guarded s a
      go true y = absurd (number_some r (e ∙ ap (λ (b : Bool). cond {A = ℕ} b 0 2) y))
      go false f = ap (λ (n : ℕ). refused_with n s) (e ∙ ap (λ (b : Bool). cond {A = ℕ} b 0 2) f) ∙ rw f

  pub refused : (r : ℕ) (k : question.Report) (new : model.Server) → sound s ≡ true → (r ≡ 0 → ⊥) → refused_with r s ≡ guarded s (question.answer r (view s) new k)
  unfolding guarded question.answer
  refused r k new h n = rw h (simp (ne_eqb r 0 n))

  pub done : (r : ℕ) (k : question.Report) (new : model.Server) → sound s ≡ true → r ≡ 0
      → record { refusal = 0; end = store new; report = k } ≡ guarded s (question.answer r (view s) new k)
  unfolding guarded question.answer
  done r k new h e = rw (h, e)
