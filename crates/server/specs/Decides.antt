-- What the server decides about a message, by its numbers and words: the questions, and the decision of the line that it came on.
use Rattle.std.specs.Prelude.{Result, Ok, ℕ, ◌+◌, ◌-◌, ◌≡◌, Bool, ◌&&◌, ◌||◌, not, cond, List, [], ◌∷◌, leb, ltb, eqb}
use Rattle.refusal.specs.declared.Refusal.{Refusal}
use Rattle.refusal.specs.Number.{refused_by}
use Rattle.limits.specs.Limits.{max_inserts, max_pending}
use Rattle.ot.specs.declared.Form.{Form}
use Rattle.ot.specs.Edit.{edit}
use Rattle.model.specs.Questions.{Question, ask, asks, between}
use Rattle.model.specs.Cross.{priority, inserts_of}
use Rattle.model.specs.Ranks.{rank_of}
use Rattle.model.specs.Line as model
use Rattle.pending.specs.Slots.{all_from}
use Rattle.line.specs.Keeping.{then_asked}
use Rattle.line.specs.declared.taking.Arrival.{Arrival}
use Rattle.line.specs.declared.taking.Decision.{Decision}
use Rattle.line.specs.Taking as line
use Rattle.line.specs.Taking.{edit_of, refusal_of, line_then, done, Later}
use Rattle.server.specs.declared.Counts.{Counts}
use Rattle.server.specs.View.{slots_at, counts_at, line_at}

-- question 4: an insert that comes up a line has the line's rank
abbrev pub is_own : ℕ → Form → Bool
is_own rank f = priority (eqb rank) (edit f 0)

-- an edit that comes up was made on its line, under its own number; an acknowledgement has no origin
abbrev pub made_here : Arrival → Bool
made_here a = not a.carries || eqb a.origin.line a.line && eqb a.origin.number a.number

abbrev pub up_to : Counts → Arrival → Bool
up_to k a =
    eqb a.direction 0 && between 1 k.n a.line && is_own (rank_of k.ranks a.line) a.form && made_here a

-- question 12 of the line at place i: it is the one that the edit came on, or has room
abbrev pub roomy_at : Counts → ℕ → ℕ → Bool
roomy_at k at i = eqb i at || ltb ((counts_at k i).made - (counts_at k i).acked) max_pending

-- questions 10 and 12, with the inserts that the line's client then has
abbrev pub last_asked : Counts → ℕ → ℕ → List Question
last_asked k at inserts = ask 10 (leb inserts max_inserts) ∷ ask 12 (all_from (roomy_at k at) 0 k.n) ∷ []

-- the place of the line that a message came on, counted from 0, and the inserts of its client once the edit is taken
abbrev pub place_of : Arrival → ℕ
place_of a = a.line - 1

abbrev pub inserts_then : Counts → Arrival → ℕ
inserts_then k a = (counts_at k (place_of a)).inserts + inserts_of (edit_of a)

-- questions 10 and 12 of an edit, and 5 to 12, as one number
abbrev pub last_refusal : Counts → Arrival → ℕ
last_refusal k a = cond a.carries (asks (last_asked k (place_of a) (inserts_then k a))) 0

abbrev pub refusal_at : Counts → List ℕ → Arrival → ℕ
refusal_at k words a =
    then_asked (refusal_of (counts_at k (place_of a)) (line_at k words (place_of a)) k.len a) (last_refusal k a)

-- what a message is refused by, or 0
abbrev pub refused : Counts → List ℕ → Arrival → ℕ
refused k words a = cond (up_to k a) (refusal_at k words a) 4

-- what it makes of the line that it came on
abbrev pub then_line : Counts → List ℕ → Arrival → model.Line
then_line k words a = line_then (line_at k words (place_of a)) (inserts_then k a) a

-- the decision of that line
abbrev pub LineDecided : Counts → List ℕ → Arrival → Result Decision Refusal → List ℕ → Type 0
LineDecided k words a r later = line.Decided (counts_at k (place_of a)) (slots_at (place_of a) words) k.len (inserts_then k a) a r later

pub record Decided (k : Counts) (words : List ℕ) (a : Arrival) (r : Result Decision Refusal) (later : List ℕ) : Type 0 where
  pub refusal : refused_by r ≡ refused k words a
  pub done : (d : Decision) → r ≡ Ok d → d ≡ done (line_at k words (place_of a)) (inserts_then k a) a
  pub stay : (d : Decision) → r ≡ Ok d → Later (counts_at k (place_of a)) a.seen (slots_at (place_of a) words) later (then_line k words a).pending
