-- The ranks of a sheet in eight places: those of lines 1 to n, then zeros.
use Rattle.std.specs.Prelude.{ℕ, Bool, ◌&&◌, List, take, drop}
use Rattle.limits.specs.Limits.{max_lines}
use Rattle.list.specs.Items.{padded, all_zero}
use Rattle.model.specs.Ranks.{ranking}

-- more than eight are cut, so that any list has an answer
abbrev pub stored : List ℕ → List ℕ
stored ranks = padded 0 max_lines (take max_lines ranks)

-- question 2 about the ranks of n lines
unfoldable pub sound_ranks : ℕ → List ℕ → Bool
sound_ranks n ranks = ranking n (take n ranks) && all_zero (drop n ranks)
