-- The invariants and measures of the loops.
use Prim.Native.Nat.{◌≤◌}
use mathlib.Core.Path.{◌≡◌}
use lib.ListN.{length}
use Rattle.std.specs.Option.{option_copied}
use Rattle.sheet_text.specs.Text.{words_of, words_in}
use Rattle.sheet_text.specs.Opening.{max_held, with_items, cut}
use Rattle.sheet_text.proofs.Openings.{more}
use Rattle.sheet_text.proofs.first.items.Given as goal

abbrev pub invariant-loop-left : goal.invariant-loop-left
invariant-loop-left l =
    record { few : length l.items.items ≤ max_held; rest : cut (more l.n l.items.items (words_in (option_copied l.left))) ≡ cut (with_items l.n (words_of l.s)) }

abbrev pub decreases-loop-left : goal.decreases-loop-left
decreases-loop-left l = length (words_in (option_copied l.left))
