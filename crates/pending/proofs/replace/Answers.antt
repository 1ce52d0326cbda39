-- `pending::replace` meets its contract.
use mathlib.Core.Path.{ap, ap₂, ◌∙◌}
use mathlib.Core.List.{◌++◌}
use lib.ListN.{take, drop}
use lib.Seq.{drop-drop}
use Rattle.limits.specs.Limits.{max_pending}
use Rattle.list.specs.Items.{padded}
use Rattle.pending.proofs.replace.Goals as goal

pub returns : goal.returns
returns c =
    ap₂ (λ a b. a ++ b) c.copy_from_slice.ensures.after
    (c.drop_front.ensures
    ∙ ap (λ l. padded 0 max_pending (take c.args.count l))
    (ap (drop c.args.gone) c.split_at_mut-places.ensures.back ∙ drop-drop c.args.gone max_pending c.args.words.now))
