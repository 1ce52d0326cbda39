-- `list::initial` meets its contract: the places behind the items stay zero.
use native.Mathlib.Omega.{arith}
use lib.ListN.{length-take}
use Rattle.limits.specs.Limits.{max_initial}
use Rattle.list.specs.Items.{capacity}
use Rattle.list.proofs.Pad.{pad_front}
use Rattle.list.proofs.initial.Goals as goal

pub returns : goal.returns
returns c =
    pad_front capacity max_initial 0 c.args.items.now c.args.list.now c.copy_from_slice.new.self
    (omega (arith, length-take max_initial c.args.items.now, c.min-count.ensures)) c.copy_from_slice.ensures.after c.requires
