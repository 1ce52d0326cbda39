use mathlib.Core.Path.{◌≡◌}
use native.Mathlib.Omega.{arith}
use borrow.Author.Rules.{rules}
use Rattle.std.proofs.Common.{None, Some}
use Rattle.sheet_print.specs.Decimal.{number_of}
use Rattle.sheet_text.proofs.Orders.{unfit, command_past, command_out, command_ends, command_goes}
use Rattle.sheet_text.proofs.read_order.Goals as goal
use Rattle.sheet_text.proofs.read_order.Goals.{In_ok-l}

number : (c : In_ok-l) → c.in_ok-l.l ≡ number_of c.first_word.result.0.now
number c = search rules

pub returns-in_err-number : goal.returns-in_err-number
returns-in_err-number c = rw c.from_residual.ensures (command_past _ _ _ _ c.first_word.ensures (let h = c.in_err-number.ensures in omega arith))

pub returns-in_err-l : goal.returns-in_err-l
returns-in_err-l c =
    rw c.from_residual-in_err-l.ensures
    (command_past _ _ _ _ c.first_word.ensures (let h = unfit _ _ c.try_from.ensures c.in_err-l.ensures.value in let e = c.in_ok-number.ensures in omega arith))

pub returns-in_err-rest : goal.returns-in_err-rest
returns-in_err-rest c =
    rw c.from_residual-in_err-rest.ensures
    (command_ends _ _ _ _ c.first_word.ensures _ (number (goal.at.returns-in_err-rest c).In_ok-l) c.if-l-n.true c.in_err-rest.was)

pub returns-in_err-verb : goal.returns-in_err-verb
returns-in_err-verb c =
    rw c.from_residual-in_err-verb.ensures
    (command_goes _ _ _ _ c.first_word.ensures _ (number (goal.at.returns-in_err-verb c).In_ok-l) c.if-l-n.true _ c.in_ok-rest.was None c.in_err-verb.ensures)

pub returns-then-l-n : goal.returns-then-l-n
returns-then-l-n c =
    command_goes _ _ _ _ c.first_word.ensures _ (number (goal.at.returns-then-l-n c).In_ok-l) c.if-l-n.true _ c.in_ok-rest.was (Some c.in_ok-verb.verb) c.in_ok-verb.ensures

pub returns : goal.returns
returns c = command_out _ _ _ _ c.first_word.ensures _ (number (goal.at.returns c).In_ok-l) c.if-l-n.false
