-- `list::total` meets its contract: the chain yields the seconds of the first len items.
use native.Mathlib.Omega.{arith}
use mathlib.Core.Path.{sym, ◌∙◌}
use lib.ListN.{take}
use Rattle.std.proofs.Common.{rules}
use Rattle.std.proofs.lemmas.Iterator.{YieldsList-from_slice, YieldsList-from_take, YieldsList-from_map}
use Rattle.std.proofs.lemmas.Iterator.Consumers.{YieldsList-at, sum_by_from_yields_List, fits_by_from_yields_list}
use Rattle.list.specs.Seconds.{seconds_of}
use Rattle.list.proofs.Seconds.{total_sum, total_part_few}
use Rattle.list.proofs.total.Goals as goal

pub sum-requires-clause-fits : goal.sum-requires-clause-fits
sum-requires-clause-fits c =
    fits_by_from_yields_list seconds_of (take c.args.len c.args.items.now) c.map.result 4294967296
    (YieldsList-from_map _ seconds_of (YieldsList-at c.map.ensures.source (YieldsList-from_take c.args.len (YieldsList-at c.take.ensures.source (YieldsList-from_slice c.args.items.now cc)) cc)) c.map.ensures.closure (λ x r q k. search rules))
    (omega (arith, total_sum (take c.args.len c.args.items.now), total_part_few c.args.len c.args.items.now, c.requires))

pub returns : goal.returns
returns c =
    sum_by_from_yields_List seconds_of (take c.args.len c.args.items.now) c.map.result c.sum.result c.sum.ensures.ran
    (YieldsList-from_map _ seconds_of (YieldsList-at c.map.ensures.source (YieldsList-from_take c.args.len (YieldsList-at c.take.ensures.source (YieldsList-from_slice c.args.items.now cc)) cc)) c.map.ensures.closure (λ x r q k. search rules))
    ∙ sym (total_sum (take c.args.len c.args.items.now))
