-- One line in counts and words: the model's line that these are, and what question 2 leaves known of it.
use Rattle.std.specs.Prelude.{ℕ, ◌-◌, ◌≤◌, ◌≡◌, true, List}
use Rattle.limits.specs.Limits.{max_pending}
use Rattle.ot.specs.Edit.{Edit}
use Rattle.model.specs.Line as model
use Rattle.model.specs.Cross.{all_placed}
use Rattle.pending.specs.Slots.{edits_from, slots_of}
use Rattle.line.specs.declared.Line.{Line}

abbrev pub pending_in : Line → List ℕ → List Edit
pending_in v words = edits_from words 0 (v.made - v.acked)

abbrev pub line_of : Line → List ℕ → model.Line
line_of v words =
    record { made = v.made; taken = v.taken; acked = v.acked; inserts = v.inserts; pending = pending_in v words }

abbrev pub counts_of : model.Line → Line
counts_of m = record { made = m.made; taken = m.taken; acked = m.acked; inserts = m.inserts }

-- The words are those of the line's pending edits, and nothing else; their positions, if any, are 1 to 512.
pub record Kept (v : Line) (words : List ℕ) : Type 0 where
  pub acked : v.acked ≤ v.made
  pub few : v.made - v.acked ≤ max_pending
  pub whole : words ≡ slots_of (pending_in v words)
  pub placed : all_placed (pending_in v words) ≡ true
