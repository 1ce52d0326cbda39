-- The marked cases, by computation.
use mathlib.Core.Path.{refl}
use Rattle.ot.specs.Edit.{transformed}
use Rattle.ot.specs.Cases.{TransformCases}

pub cases : TransformCases
unfolding transformed
cases = record { p1 = refl; p2 = refl; p3 = refl; p4 = refl; p5 = refl; p6 = refl; p7 = refl; p8 = refl }
