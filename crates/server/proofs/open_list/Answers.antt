-- `open_list` meets its contract: the items stand in the first words and their origins behind the lines' (proofs/Opening.antt).
use native.Mathlib.Omega.{arith}
use mathlib.Core.Path.{refl}
use Rattle.limits.specs.Limits.{max_items}
use Rattle.server.specs.View.{size}
use Rattle.server.proofs.Opening.{zeros_part, origins_blank, open_words}
use Rattle.server.proofs.open_list.Goals as goal

pub initial-requires : goal.initial-requires
initial-requires c =
    zeros_part 0 max_items size c.args.words.now c.requires.1 (omega arith)

pub initial_origins-requires : goal.initial_origins-requires
initial_origins-requires c =
    (c.requires.0, origins_blank c.args.items.now c.args.words.now c.requires.0 c.requires.1 _ c.initial.ensures)

pub returns : goal.returns
returns c =
    open_words c.args.items.now c.args.words.now c.requires.0 c.requires.1 _ c.initial.ensures _
    (c.initial_origins.ensures c.args.items.now refl)
