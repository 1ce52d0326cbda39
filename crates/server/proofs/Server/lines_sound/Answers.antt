use native.Mathlib.Omega.{arith}
use mathlib.Core.Path.{◌∙◌}
use Rattle.limits.specs.Limits.{max_lines}
use Rattle.line.proofs.All.{all_turn, all_end}
use Rattle.server.specs.Totals.{line_sound_at}
use Rattle.server.proofs.Server.lines_sound.Goals as goal

pub loop-i-preserved : goal.loop-i-preserved
loop-i-preserved c =
    let test = line_sound_at c.args.self.now.counts c.args.taken c.args.self.now.words in (
      omega (arith, c.loop-i-test),
      all_turn test c.loop-i.i max_lines c.loop-i.well c.is_line_sound-well.result (omega (arith, c.loop-i-test)) c.is_line_sound-well.ensures ∙ c.loop-i.invariant.1,
    )

pub returns : goal.returns
returns c =
    let test = line_sound_at c.args.self.now.counts c.args.taken c.args.self.now.words in
    all_end test c.loop-i.i max_lines c.loop-i.well (omega (arith, c.loop-i-test)) ∙ c.loop-i.invariant.1
