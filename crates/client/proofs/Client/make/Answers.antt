-- `make` meets its contract: refused, or kept, applied and counted (proofs/Edits.antt).
use native.Mathlib.Omega.{arith}
use mathlib.Core.Path.{sym}
use Rattle.client.proofs.Edits.{Allowed, edit_allowed, edit_refused}
use borrow.Author.Rules.{rules}
use Rattle.client.proofs.Client.make.Goals as goal
use Rattle.client.proofs.Client.make.Goals.{In_ok-check_edit}

allowed : (c : In_ok-check_edit) → let a = c.args in Allowed a.self.now a.f a.x
allowed c =
    edit_allowed c.args.self.now c.requires.0 c.args.f c.args.x (sym (c.in_ok-check_edit.ensures c.args.x)) (search rules)

pub returns-in_err-check_edit : goal.returns-in_err-check_edit
returns-in_err-check_edit c =
    edit_refused c.args.self.now c.requires.0 c.args.f c.args.x c.from_residual.result c.in_err-check_edit.field-0.0 c.from_residual.ensures.1
    (c.in_err-check_edit.ensures c.args.x)

pub of-inverse-requires : goal.of-inverse-requires
of-inverse-requires c = (allowed (goal.at.of-inverse-requires c).In_ok-check_edit).fitting

pub total_after-total-requires : goal.total_after-total-requires
total_after-total-requires c = (allowed (goal.at.total_after-total-requires c).In_ok-check_edit).summed

pub keep-requires : goal.keep-requires
keep-requires c =
    let w = allowed (goal.at.keep-requires c).In_ok-check_edit in
    ((w.kept, w.pending), c.requires.1)

pub overflow_add-origin : goal.overflow_add-origin
overflow_add-origin c =
    let w = allowed (goal.at.overflow_add-origin c).In_ok-check_edit in
    omega (arith, w.made, w.inserts)

pub apply-self-requires : goal.apply-self-requires
apply-self-requires c = (allowed (goal.at.apply-self-requires c).In_ok-check_edit).room

pub overflow_add-own : goal.overflow_add-own
overflow_add-own c =
    omega (arith, (allowed (goal.at.overflow_add-own c).In_ok-check_edit).inserts, c.inserts_of.ensures c.args.x)

pub kept-self-requires : goal.kept-self-requires
kept-self-requires c = omega (arith, (allowed (goal.at.kept-self-requires c).In_ok-check_edit).made)

pub returns : goal.returns
returns c =
    (allowed (goal.at.returns c).In_ok-check_edit).done c.kept-self.result c.inserts_of.result c.apply-self.result c.total_after-total.result
    c.rank-rank.result c.of-inverse.result c.keep.new.words c.apply-self.new.words c.keep.ensures (c.inserts_of.ensures c.args.x)
    c.kept-self.ensures c.total_after-total.ensures c.rank-rank.ensures c.of-inverse.ensures c.apply-self.ensures
