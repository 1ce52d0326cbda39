-- `ranks::store` meets its contract: the places behind the ranks stay zero.
use native.Mathlib.Omega.{arith}
use lib.ListN.{length-take}
use mathlib.Core.Path.{refl}
use Rattle.limits.specs.Limits.{max_lines}
use Rattle.list.proofs.Pad.{pad_front}
use Rattle.ranks.proofs.store.Goals as goal

pub returns : goal.returns
returns c =
    pad_front max_lines max_lines 0 c.args.ranks.now _ c.copy_from_slice.new.self (omega (arith, length-take max_lines c.args.ranks.now, c.min-count.ensures))
    c.copy_from_slice.ensures.after refl
