use native.Mathlib.Omega.{arith}
use Prim.Native.Nat.{◌-◌}
use mathlib.Core.Path.{refl, ap, ◌∙◌}
use mathlib.Core.Bool.{Bool, ◌||◌}
use lib.Dec.{eqb, ltb}
use Rattle.limits.specs.Limits.{max_pending}
use Rattle.line.specs.declared.Line.{Line}
use Rattle.line.proofs.All.{all_turn, all_end}
use Rattle.server.specs.Decides.{roomy_at}
use Rattle.server.proofs.Counts.others_roomy.Goals as goal

pub loop-i-preserved : goal.loop-i-preserved
loop-i-preserved c =
    let i = c.loop-i.i in (
      (omega arith, refl),
      all_turn ((roomy_at c.args.self.now c.args.at)) i c.args.self.now.n c.loop-i.roomy (eqb i c.args.at || c.has_room.result) (omega (arith, c.loop-i-test))
          (ap (λ (b : Bool). eqb i c.args.at || b) (c.has_room.ensures ∙ ap (λ (v : Line). ltb (v.made - v.acked) max_pending) c.line_at.ensures))
          ∙ c.loop-i.invariant.1,
    )

pub returns : goal.returns
returns c =
    all_end ((roomy_at c.args.self.now c.args.at)) c.loop-i.i c.args.self.now.n c.loop-i.roomy (omega (arith, c.loop-i-test)) ∙ c.loop-i.invariant.1
