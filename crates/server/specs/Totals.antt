-- Question 2 by the numbers: what all lines in use took together, and one line in use.
use Rattle.std.specs.Prelude.{ℕ, ◌+◌, ◌≤◌, ◌≡◌, Bool, ◌&&◌, List, [], leb}
use Rattle.limits.specs.Limits.{max_lines, max_items, max_initial}
use Rattle.model.specs.Ranks.{rank_of}
use Rattle.model.specs.Line as line
use Rattle.model.specs.Server.{total}
use Rattle.server.specs.Right.{sound_used, sound_makers, sound_either}
use Rattle.server.specs.declared.Counts.{Counts}
use Rattle.server.specs.declared.soundness.Totals.{Totals}
use Rattle.server.specs.View.{counts_at, lines_from}

-- the numbers on which the other tests rest
abbrev pub in_limits : Counts → Bool
in_limits k = ((leb 1 k.n && leb k.n max_lines) && leb k.initial max_initial) && leb k.len max_items

-- a number of each of the first n lines, added up
abbrev pub total_of : (line.Line → ℕ) → Counts → ℕ
total_of f k = total f (lines_from k [] 0 k.n)

pub record Totaled (k : Counts) (t : Totals) : Type 0 where
  pub taken : t.taken ≡ total_of (λ v. v.taken) k
  pub inserts : t.inserts ≡ total_of (λ v. v.inserts) k
  pub few : (t.taken ≤ 524280) × (t.inserts ≤ 524280)

-- ---- one line, by the server's numbers

abbrev pub sound_at : Counts → ℕ → List ℕ → ℕ → Bool
sound_at k taken words i = sound_used k.n (rank_of k.ranks (i + 1)) (counts_at k i) taken words i

abbrev pub makers_sound_at : Counts → List ℕ → ℕ → Bool
makers_sound_at k words i = sound_makers k.n (counts_at k i) words i

abbrev pub line_sound_at : Counts → ℕ → List ℕ → ℕ → Bool
line_sound_at k taken words i = sound_either k.n (rank_of k.ranks (i + 1)) (counts_at k i) taken words i
