-- Question 2 about one line in counts and words: the model's, and that the words hold its pending edits and nothing else.
use Rattle.std.specs.Prelude.{ℕ, ◌+◌, ◌-◌, Bool, true, false, ◌&&◌, List, [], ◌∷◌, eqb, get_or, drop}
use Rattle.limits.specs.Limits.{max_pending}
use Rattle.ot.specs.Edit.{item_of}
use Rattle.list.specs.Items.{all_zero}
use Rattle.list.specs.Places.{origin_at}
use Rattle.model.specs.Questions.{every}
use Rattle.model.specs.Line as model
use Rattle.model.specs.Server.{other_maker}
use Rattle.pending.specs.Slots.{place_of, form_in, edit_in, all_from}
use Rattle.line.specs.declared.Line.{Line}
use Rattle.line.specs.Line.{line_of}

-- The priorities that question 4 lets through: a client's own inserts have its rank, what the server keeps for a line
-- has another rank of 1 to n.
abbrev pub right_priority : ℕ → ℕ → Bool → ℕ → Bool
right_priority n rank true = eqb rank
right_priority n rank false = model.other n rank

-- slot i has no bits that mean nothing: its words are those of the edit that it holds
abbrev pub tidy_at : List ℕ → ℕ → Bool
tidy_at words i =
    eqb (get_or words i 0) (place_of (form_in words i)) && eqb (get_or words (max_pending + i) 0) (item_of (edit_in words i))

abbrev pub empty_at : List ℕ → ℕ → Bool
empty_at words i = eqb (get_or words i 0) 0 && eqb (get_or words (max_pending + i) 0) 0

-- the first count slots are in use, and the others are zero
abbrev pub tidy : ℕ → List ℕ → Bool
tidy count words = all_from (tidy_at words) 0 count && all_from (empty_at words) count (max_pending - count)

-- The line's client made so many edits, and the priorities of pending inserts pass a test.
unfoldable pub sound_line : ℕ → (ℕ → Bool) → Line → List ℕ → Bool
sound_line edits right v words =
    every (model.line_tests edits right (line_of v words)) && tidy (v.made - v.acked) words

-- ---- the origins of the edits that the server keeps for a line

-- another client of 1 to n made it, as one of its 400
abbrev pub maker_at : ℕ → ℕ → List ℕ → ℕ → Bool
maker_at n line words i = other_maker n line (origin_at (get_or words i 0))

-- the first count are in use, and the others are zero
unfoldable pub makers_sound : ℕ → ℕ → ℕ → List ℕ → Bool
makers_sound n line count words = all_from (maker_at n line words) 0 count && all_zero (drop count words)

-- a line that is not in use: zeros
unfoldable pub empty_line : Line → List ℕ → Bool
empty_line v words =
    every (eqb v.made 0 ∷ eqb v.taken 0 ∷ eqb v.acked 0 ∷ eqb v.inserts 0 ∷ [])
    && all_from (empty_at words) 0 max_pending
