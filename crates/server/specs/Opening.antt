-- Opening by its parts: the questions as one number, and the words of a new server.
use Rattle.std.specs.Prelude.{ℕ, ◌&&◌, cond, List, leb, replicate}
use Rattle.limits.specs.Limits.{max_lines, max_initial, max_pending}
use Rattle.list.specs.Items.{stored}
use Rattle.list.specs.Places.{initial_places, origins_of}
use Rattle.model.specs.Ranks.{ranking}
use Rattle.pending.specs.Slots as pending
use Rattle.server.specs.View.{Parts}

-- questions 1 and 16 of an initial list of so many items
abbrev pub open_asked : ℕ → List ℕ → ℕ → ℕ
open_asked n ranks items = cond ((leb 1 n && leb n max_lines) && leb items max_initial) (cond (ranking n ranks) 0 16) 1

abbrev pub OpenWords : List ℕ → List ℕ → Type 0
OpenWords items words =
    Parts (stored items) (stored (origins_of (initial_places items))) (λ i. replicate pending.size 0) (λ i. replicate max_pending 0) words
