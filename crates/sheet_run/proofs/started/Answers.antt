-- `started` meets its contract: a first line that fails, an opening that is refused, or the lines after it (proofs/Opened.antt).
use mathlib.Core.Path.{◌≡◌, ap, sym, ◌∙◌}
use Rattle.sheet_text.specs.Opening.{sheet, held}
use Rattle.sheet_run.proofs.Opened.{opened_whole, started_on, started_off}
use Rattle.sheet_run.proofs.started.Goals as goal
use Rattle.sheet_run.proofs.started.Goals.{After-as_slice-items}

-- what the first line says
read : (c : After-as_slice-items) → held c.args.first ≡ sheet c.in-Some.f.n c.as_slice-items.result.now
read c = ap held c.in-Some.is ∙ ap (sheet c.in-Some.f.n) (sym c.as_slice-items.ensures.value)

pub returns-in-Err : goal.returns-in-Err
returns-in-Err c =
    rw (read (goal.at.returns-in-Err c).After-as_slice-items)
    (started_off _ _ _ _ c.line_ranks-all.ensures c.lent_ranks-lent.ensures.1 c.empty-ends.result c.open.new.self c.in-Err.r c.in-Err.ensures _ c.number.ensures _ _ c.reply.ensures)

pub commands-requires : goal.commands-requires
commands-requires c =
    opened_whole _ _ _ _ c.line_ranks-all.ensures c.lent_ranks-lent.ensures.1 c.empty-ends.result c.open.new.self c.in_default-open.field-0 c.in_default-open.ensures

pub returns : goal.returns
returns c =
    rw (read (goal.at.returns c).After-as_slice-items)
    (started_on _ _ _ _ c.line_ranks-all.ensures c.lent_ranks-lent.ensures.1 c.empty-ends.result c.open.new.self c.in_default-open.field-0 c.in_default-open.ensures
    _ _ c.reply-to.ensures c.commands.ensures)
