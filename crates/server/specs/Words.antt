-- The words of the server in parts: where each begins, and what stands there.
use Rattle.std.specs.Prelude.{ℕ, ◌+◌, ◌*◌, List}
use Rattle.limits.specs.Limits.{max_items, max_pending}
use Rattle.list.specs.Parts.{part}
use Rattle.pending.specs.Slots as pending

-- the words of the server: 512 items, the 128 words of each of eight lines, the origins of the items, and for each line 64 origins of its
-- pending edits
abbrev pub size : ℕ
size = 2560

-- where the origins of the items begin, and those of pending edits
abbrev pub origins : ℕ
origins = 1536

abbrev pub makers : ℕ
makers = 2048

abbrev pub items_in : List ℕ → List ℕ
items_in words = part 0 max_items words

-- the words of the line at place i, counted from 0
abbrev pub slots_at : ℕ → List ℕ → List ℕ
slots_at i words = part (max_items + pending.size * i) pending.size words

abbrev pub origins_in : List ℕ → List ℕ
origins_in words = part origins max_items words

-- the origins of the pending edits of the line at place i
abbrev pub makers_at : ℕ → List ℕ → List ℕ
makers_at i words = part (makers + max_pending * i) max_pending words
