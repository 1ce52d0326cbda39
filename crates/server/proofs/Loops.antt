-- The words of a line and the origins of its pending edits, as code lends them.
use Prim.Native.Nat.{ℕ, ◌+◌, ◌-◌, ◌*◌, ◌<◌}
use native.Mathlib.Omega.{arith}
use mathlib.Core.Path.{◌≡◌, ap}
use mathlib.Core.List.{List}
use lib.ListN.{length, take, drop}
use Rattle.limits.specs.Limits.{max_items, max_lines, max_pending}
use Rattle.list.specs.Parts.{part}
use Rattle.list.proofs.Parts.{part_length}
use Rattle.pending.specs.Slots as pending
use Rattle.server.specs.Words.{size, origins, makers, items_in, origins_in, slots_at, makers_at}

-- so many words as code lends them, from one place up to another
pub lent_is : (a n : ℕ) (words : List ℕ) → take (a + n - a) (drop a words) ≡ part a n words
lent_is a n words =
    let e : a + n - a ≡ n = omega arith in
    ap (λ (m : ℕ). take m (drop a words)) e

-- where the words of the line at place i begin, and the origins of its pending edits
abbrev pub base : ℕ → ℕ
base i = max_items + pending.size * i

abbrev pub makers_base : ℕ → ℕ
makers_base i = makers + max_pending * i

module _ (words : List ℕ) (e : length words ≡ size) where
  pub items_long : length (items_in words) ≡ max_items
  items_long = part_length 0 max_items words (omega arith)

  pub origins_long : length (origins_in words) ≡ max_items
  origins_long = part_length origins max_items words (omega arith)

  pub slots_long : (i : ℕ) → i < max_lines → length (slots_at i words) ≡ pending.size
  slots_long i h = part_length (base i) pending.size words (omega arith)

  pub makers_long : (i : ℕ) → i < max_lines → length (makers_at i words) ≡ max_pending
  makers_long i h = part_length (makers_base i) max_pending words (omega arith)
