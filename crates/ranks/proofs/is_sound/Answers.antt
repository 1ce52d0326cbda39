-- `ranks::is_sound` meets its contract.
use native.Mathlib.Omega.{arith}
use mathlib.Core.Path.{ap, ◌∙◌}
use lib.Dec.{eqb}
use lib.ListN.{drop}
use lib.Bits.{bit_or}
use Rattle.std.proofs.Common.{rules}
use Rattle.std.proofs.lemmas.Iterator.{YieldsList-from_slice}
use Rattle.std.proofs.lemmas.Iterator.Consumers.{fold_from_yields_List}
use Rattle.list.proofs.Items.{zero_fold}
use Rattle.model.specs.Ranks.{each_once}
use Rattle.ranks.proofs.Scan.{sound_parts}
use Rattle.ranks.proofs.is_sound.Goals as goal

pub returns : goal.returns
returns c =
    let unused = drop c.args.n c.args.ranks.now in
    sound_parts c.args.n c.args.ranks.now _ _ (omega (arith, c.requires)) (c.each_once.ensures ∙ ap (each_once c.args.n) c.split_at.ensures.front)
    (ap (λ k. eqb k 0) (fold_from_yields_List _ bit_or 0 c.fold.result c.fold.ensures.ran (YieldsList-from_slice unused (c.iter.ensures.rest ∙ c.split_at.ensures.back)) (λ a x b q k. search rules)) ∙ zero_fold unused 0)
