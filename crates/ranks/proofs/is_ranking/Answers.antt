-- `ranks::is_ranking` meets its contract.
use mathlib.Core.Path.{ap}
use mathlib.Core.Bool.{◌&&◌}
use lib.Dec.{eqb}
use lib.ListN.{length}
use Rattle.model.specs.Ranks.{ranking}
use Rattle.ranks.proofs.is_ranking.Goals as goal

pub returns : goal.returns
unfolding ranking
returns c =
    let a = c.args in
    ap (λ b. eqb (length a.ranks.now) a.n && b) c.each_once.ensures
