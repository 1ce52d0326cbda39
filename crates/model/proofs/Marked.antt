-- The marked cases hold by computation.
use mathlib.Core.Path.{refl}
use Rattle.ot.proofs.Cases as edits
use Rattle.wire.proofs.Cases as bytes
use Rattle.model.specs.Marked.{MarkedCases}
use Rattle.model.proofs.Computing.{computing}

pub marked : MarkedCases
unfolding computing
marked =
    record {
      p1_p8 = edits.cases;
      p9_p10 = bytes.cases;
      p11_lists = refl;
      p12_lists = refl;
      by_line_lem = refl;
      lead_first = refl;
      ranked = refl;
      one_first = (refl, refl);
      taken_back_lem = refl;
      nothing_to_take_back = refl;
      stands = refl;
    }
