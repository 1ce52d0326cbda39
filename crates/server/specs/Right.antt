-- Question 2 of the words: the list, and one line by its counts and its rank.
use Rattle.std.specs.Prelude.{ℕ, ◌+◌, ◌-◌, Bool, ◌&&◌, cond, List, ltb, eqb, take, drop}
use Rattle.list.specs.Items.{all_zero}
use Rattle.list.specs.Seconds.{total_seconds}
use Rattle.model.specs.Line as line
use Rattle.line.specs.declared.Line.{Line}
use Rattle.line.specs.Sound.{sound_line, makers_sound, empty_line}
use Rattle.server.specs.Words.{items_in, origins_in, slots_at, makers_at}

-- behind the first len places all is zero, and the total is the sum over the first len items
abbrev pub list_right : ℕ → ℕ → List ℕ → Bool
list_right len total words =
    (all_zero (drop len (items_in words)) && all_zero (drop len (origins_in words))) && eqb total (total_seconds (take len (items_in words)))

-- ---- one line of n, at place i, by its counts and its rank

-- in use, where all lines together took so many edits
abbrev pub sound_used : ℕ → ℕ → Line → ℕ → List ℕ → ℕ → Bool
sound_used n rank v taken words i = eqb (v.made + v.taken) taken && sound_line v.taken (line.other n rank) v (slots_at i words)

-- the origins of its pending edits
abbrev pub sound_makers : ℕ → Line → List ℕ → ℕ → Bool
sound_makers n v words i = makers_sound n (i + 1) (v.made - v.acked) (makers_at i words)

-- not in use
abbrev pub empty_unused : Line → List ℕ → ℕ → Bool
empty_unused v words i = empty_line v (slots_at i words) && all_zero (makers_at i words)

-- in use or not
abbrev pub sound_either : ℕ → ℕ → Line → ℕ → List ℕ → ℕ → Bool
sound_either n rank v taken words i = cond (ltb i n) (sound_used n rank v taken words i && sound_makers n v words i) (empty_unused v words i)
