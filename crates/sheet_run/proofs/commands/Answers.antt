-- `commands` meets its contract: each line leaves the ends whole and prints its answer (proofs/Turns.antt).
use mathlib.Core.Path.{◌∙◌}
use Rattle.sheet_run.proofs.Turns.{order_placed, running_bad, running_turn, running_end}
use Rattle.sheet_run.proofs.commands.Goals as goal

pub loop-i-preserved-in_default : goal.loop-i-preserved-in_default
loop-i-preserved-in_default c = (
  c.unknown-at.auto.out ∙ c.loop-i.invariant.0,
  running_bad _ _ c.loop-i.i _ c.loop-i.ends _ c.loop-i.invariant.1 c.line_at-line.result c.line_at-line.ensures c.in_default.is _ _ c.unknown-at.ensures,
)

pub turn-done-requires : goal.turn-done-requires
turn-done-requires c =
    order_placed _ _ c.loop-i.i _ c.loop-i.ends _ c.loop-i.invariant.1 c.line_at-line.result c.line_at-line.ensures _ c.in-Some.is

pub loop-i-preserved : goal.loop-i-preserved
loop-i-preserved c = (
  c.reply-at.auto.out ∙ c.loop-i.invariant.0,
  running_turn _ _ c.loop-i.i _ c.loop-i.ends _ c.loop-i.invariant.1 c.line_at-line.result c.line_at-line.ensures _ c.in-Some.is c.turn-done.result
      c.turn-done.new.self c.turn-done.ensures _ c.answer.ensures _ _ c.reply-at.ensures,
)

pub returns : goal.returns
returns c =
    running_end _ _ c.loop-i.i _ c.loop-i.ends _ c.loop-i.invariant.1 c.loop-i-test.false _ c.lists.ensures
