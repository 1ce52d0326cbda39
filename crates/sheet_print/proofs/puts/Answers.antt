use mathlib.Core.Path.{sym, ◌∙◌}
use Rattle.sheet_print.proofs.Sinks.{turn, puts_end}
use Rattle.sheet_print.proofs.puts.Goals as goal

pub loop-b-preserved : goal.loop-b-preserved
loop-b-preserved c =
    let l = c.loop-b in
    (turn c.args.s.now l.b-index _ c.loop-b-test.true c.put-to.ensures l.invariant)

pub returns : goal.returns
returns c = sym (puts_end c.args.s.now c.loop-b.b-index _ c.loop-b-test.false) ∙ c.loop-b.invariant
