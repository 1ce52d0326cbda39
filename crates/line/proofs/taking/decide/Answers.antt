-- `decide` meets its contract: each return is a law of proofs/Deciding.antt.
use Prim.Native.Nat.{◌-◌}
use native.Mathlib.Omega.{arith}
use mathlib.Core.Path.{◌≡◌, sym, subst}
use Rattle.std.specs.Prelude.{Result}
use Rattle.refusal.proofs.Some.{passed_on}
use Rattle.refusal.specs.declared.Refusal.{Refusal}
use Rattle.model.specs.Questions.{asks}
use Rattle.pending.specs.Crossing.{Ready}
use Rattle.line.specs.declared.taking.Decision.{Decision}
use Rattle.line.specs.Taking.{arrival_asked, Between, Decided}
use Rattle.line.proofs.Deciding.{early, seen_between, ready, acked_done, nine_no, taken_done}
use Rattle.line.proofs.taking.decide.Goals as goal
use Rattle.line.proofs.taking.decide.Goals.{In_ok-ask}

-- nothing was refused so far
none : (c : In_ok-ask) → 0 ≡ asks (arrival_asked c.args.v c.args.a.number c.args.a.seen c.args.a.carries)
none c = c.in_ok-ask.ensures

between : (c : In_ok-ask) → Between c.args.v c.args.a.seen
between c = seen_between c.args.v c.args.words.now c.requires.1.0 c.args.len c.args.inserts c.args.a c.args.later.now (none c)

slots_ready : (c : In_ok-ask) → Ready (c.args.a.seen - c.args.v.acked) (c.args.v.made - c.args.a.seen) c.args.words.now
slots_ready c = ready c.args.v c.args.words.now c.requires.1.0 c.args.len c.args.inserts c.args.a c.args.later.now (none c)

pub returns-in_err-ask : goal.returns-in_err-ask
returns-in_err-ask c =
    let r = c.in_err-ask.field-0.0 in
    subst (λ (q : Result Decision Refusal). Decided c.args.v c.args.words.now c.args.len c.args.inserts c.args.a q c.args.later.now)
    (sym (passed_on c.from_residual.result r c.from_residual.ensures.1))
    (early c.args.v c.args.words.now c.requires.1.0 c.args.len c.args.inserts c.args.a c.args.later.now r c.in_err-ask.ensures)

pub overflow_sub-gone : goal.overflow_sub-gone
overflow_sub-gone c = (between (goal.at.overflow_sub-gone c).In_ok-ask).0

pub overflow_sub-count : goal.overflow_sub-count
overflow_sub-count c = (between (goal.at.overflow_sub-count c).In_ok-ask).1

pub cross-x-requires : goal.cross-x-requires
cross-x-requires c =
    (c.requires.0.0, (slots_ready (goal.at.cross-x-requires c).In_ok-ask, c.requires.1.1))

pub take_edit-requires : goal.take_edit-requires
take_edit-requires c = c.requires.0.1

pub returns-then-x-fits_list : goal.returns-then-x-fits_list
returns-then-x-fits_list c =
    taken_done c.args.v c.args.words.now c.requires.1.0 c.args.len c.args.inserts c.args.a _
    (none (goal.at.returns-then-x-fits_list c).In_ok-ask) c.if-a.true c.cross-x.result c.cross-x.ensures.answer
    c.fits_list.result c.fits_list.ensures c.take_edit.result c.if-x-fits_list.true c.take_edit.ensures c.cross-x.ensures.places

pub returns-then-a : goal.returns-then-a
returns-then-a c =
    nine_no c.args.v c.args.words.now c.requires.1.0 c.args.len c.args.inserts c.args.a _
    (none (goal.at.returns-then-a c).In_ok-ask) c.if-a.true c.cross-x.result c.cross-x.ensures.answer
    c.fits_list.result c.fits_list.ensures c.if-x-fits_list.false

pub moved_down-requires : goal.moved_down-requires
moved_down-requires c = let r = slots_ready (goal.at.moved_down-requires c).In_ok-ask in (omega (arith, r.few), omega (arith, r.few, r.size))

pub returns : goal.returns
returns c =
    acked_done c.args.v c.args.words.now c.requires.1.0 c.args.len c.args.inserts c.args.a _
    (none (goal.at.returns c).In_ok-ask) c.if-a.false c.no_report.result c.no_report.ensures c.moved_down.ensures
