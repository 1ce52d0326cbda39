use mathlib.Core.Path.{ap, ◌∙◌}
use mathlib.Core.Bool.{Bool, ◌&&◌, ◌||◌}
use lib.Dec.{leb, ltb, eqb}
use Prim.Native.Nat.{◌%◌}
use Rattle.line.proofs.Right.{right_is}
use Rattle.line.specs.Slots.{allowed}
use Rattle.line.proofs.soundness.is_right.Goals as goal

pub returns : goal.returns
returns c =
    let a = c.args in
    ap (λ (b : Bool). ltb a.place 131328 && ((eqb (a.place % 256) 0 && eqb a.item 0) || (b && leb 256 a.place))) c.allows.ensures
    ∙ right_is a.place a.item (allowed a.good.low a.good.high a.good.other) a.good.no_zero
