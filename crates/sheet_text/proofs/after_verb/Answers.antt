use Prim.Native.Nat.{ℕ}
use mathlib.Core.Path.{◌≡◌, ap, ap₂, ◌∙◌}
use native.Mathlib.Omega.{arith}
use borrow.Author.Rules.{rules}
use Rattle.sheet_print.specs.Decimal.{number_of}
use Rattle.sheet_text.specs.Command.{with_two}
use Rattle.sheet_text.specs.Order.{coded}
use Rattle.sheet_text.proofs.Orders.{unfit, says_wide, says_two, says_two_wide}
use Rattle.sheet_text.proofs.after_verb.Goals as goal

pub returns-in_err-number : goal.returns-in_err-number
returns-in_err-number c = rw c.from_residual.ensures (says_wide _ _ _ _ c.first_word.ensures (λ small. c.in_err-number.ensures (omega arith)))

pub returns-in_err-k : goal.returns-in_err-k
returns-in_err-k c =
    rw c.from_residual-in_err-k.ensures
    (says_wide _ _ _ _ c.first_word.ensures (λ small. unfit _ _ c.try_from.ensures c.in_err-k.ensures.value (let e = c.in_ok-number.ensures in omega arith)))

pub returns-in_err-number-in-Some : goal.returns-in_err-number-in-Some
returns-in_err-number-in-Some c =
    rw c.from_residual-in_err-number-in-Some.ensures
    (says_two_wide _ _ _ _ c.first_word.ensures _ c.in-Some.is c.in_err-number-in-Some.ensures)

pub returns-in_ok-number-in-Some : goal.returns-in_ok-number-in-Some
returns-in_ok-number-in-Some c =
    let k : c.in_ok-k.k ≡ number_of c.first_word.result.0.now = search rules in
    λ l.
    c.with_item.ensures l
    ∙ ap₂ (λ (p x : ℕ). coded (with_two l c.args.w.now p x)) k c.in_ok-number-in-Some.ensures.1
    ∙ ap coded (says_two _ _ _ _ c.first_word.ensures _ c.in-Some.is c.in_ok-number-in-Some.ensures.0 l)
