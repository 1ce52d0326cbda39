-- `list::zero_from` meets its contract: the words from len on, ORed together.
use mathlib.Core.Path.{◌≡◌, ap, ◌∙◌}
use mathlib.Core.List.{List}
use Prim.Native.Nat.{ℕ}
use lib.Dec.{eqb}
use lib.ListN.{length, drop}
use lib.Bits.{bit_or}
use Rattle.std.proofs.Common.{rules}
use native.Mathlib.Omega.{arith}
use Rattle.std.proofs.lemmas.Slice.{between_to_end}
use Rattle.std.proofs.lemmas.Iterator.{YieldsList-from_slice}
use Rattle.std.proofs.lemmas.Iterator.Consumers.{fold_from_yields_List}
use Rattle.list.specs.Items.{all_zero}
use Rattle.list.proofs.Items.{zero_fold, drop_least}
use Rattle.list.proofs.zero_from.Goals as goal

pub returns : goal.returns
returns c =
    let items = c.args.items.now in
    let unused : List ℕ = drop c.min.result items in
    let rest : c.iter.result.rest.now ≡ unused = c.iter.ensures.rest ∙ between_to_end items c.min.result (length items) (omega arith) in
    ap (λ n. eqb n 0) (fold_from_yields_List _ bit_or 0 c.fold.result c.fold.ensures.ran (YieldsList-from_slice unused rest) (λ a x b q k. search rules))
    ∙ zero_fold unused 0 ∙ ap all_zero (drop_least items c.args.len c.min.result c.min.ensures)
