-- One line as either end keeps it (01: "The server keeps the same per line"): its counts and its pending edits.
use Rattle.std.specs.Prelude.{ℕ, zero, suc, ◌+◌, ◌-◌, Bool, false, ◌&&◌, not, List, [], ◌∷◌, ◌++◌, leb, ltb, eqb, length, get_or, drop, Option, Some, None}
use Rattle.ot.specs.Form.{position_of}
use Rattle.ot.specs.Edit.{Edit, Nothing, Delete, Insert, form_of, fits}
use Rattle.list.specs.declared.Origin.{Origin}
use Rattle.list.specs.Places.{Place, applied_by}
use Rattle.wire.specs.declared.Header.{Header}
use Rattle.wire.specs.declared.Message.{Message}
use Rattle.wire.specs.declared.Message.TheVariants as message
use Rattle.wire.specs.Message.{message_of}
use Rattle.wire.specs.Bytes.{bytes_of}
use Rattle.model.specs.Limits.{max_inserts, max_edits, max_pending, max_items}
use Rattle.model.specs.Questions.{Question, ask, asks, between, Report, no_report, Answer, answer}
use Rattle.model.specs.Cross.{past, over, all_placed, priorities}

pub record Line : Type 0 where
  -- edits made for this line, edits taken on it, and how many of those made the other end has acknowledged (01: told).
  -- The server makes for a line what it takes on all others.
  pub made : ℕ
  pub taken : ℕ
  pub acked : ℕ
  -- how many of the client's edits are inserts: of those made here at the client, of those taken at the server
  pub inserts : ℕ
  -- 01: the kept edits, numbers acked + 1 to made, in their present form
  pub pending : List Edit

abbrev pub no_line : Line
no_line = record { made = 0; taken = 0; acked = 0; inserts = 0; pending = [] }

-- another client's rank or line, of 1 to n
abbrev pub other : ℕ → ℕ → ℕ → Bool
other n own r = between 1 n r && not (eqb r own)

-- Question 2 of a line, test by test: the line's client made so many edits, and the priorities of pending inserts pass a test.
abbrev pub line_tests : ℕ → (ℕ → Bool) → Line → List Bool
line_tests edits right v =
    leb edits max_edits
    ∷ leb v.acked v.made
    ∷ leb (v.made - v.acked) max_pending
    ∷ eqb (length v.pending) (v.made - v.acked)
    ∷ all_placed v.pending
    ∷ priorities right v.pending
    ∷ leb v.inserts max_inserts
    ∷ leb v.inserts edits
    ∷ []

-- ---- keeping

-- one more pending edit has a slot: question 12
abbrev pub roomy : Line → Bool
roomy v = ltb (v.made - v.acked) max_pending

-- one more edit, with the client's inserts then
abbrev pub line_keeps : ℕ → Edit → Line → Line
line_keeps inserts e v =
    record { made = v.made + 1; taken = v.taken; acked = v.acked; inserts = inserts; pending = v.pending ++ (e ∷ []) }

-- ---- sending

-- the pending edit of a number, as it stands now
abbrev pub pending_at : ℕ → List Edit → ℕ → Edit
pending_at acked pending number = get_or pending (number - (acked + 1)) Nothing

-- the message of that edit, whose origin stands beside the line
abbrev pub line_message : ℕ → ℕ → Origin → Line → ℕ → Message
line_message line direction origin v number =
    message_of (record { line = line; direction = direction; number = number; seen = v.taken; origin = origin })
    (pending_at v.acked v.pending number)

abbrev pub send_questions : Line → ℕ → Message → List ℕ → List Question
send_questions v number m lent =
    ask 13 (between (v.acked + 1) v.made number) ∷ ask 14 (leb (length (bytes_of m)) (length lent)) ∷ []

-- the numbers of its pending edits, in order
unfoldable pub numbers_from : ℕ → ℕ → List ℕ
numbers_from k zero = []
numbers_from k (suc count) = k ∷ numbers_from (suc k) count

abbrev pub pending_numbers : Line → List ℕ
pending_numbers v = numbers_from (v.acked + 1) (v.made - v.acked)

-- ---- taking

-- the pending edits left once those up to seen are dropped
abbrev pub unacked : Line → ℕ → List Edit
unacked v seen = drop (seen - v.acked) v.pending

abbrev pub line_acked : ℕ → Line → Line
line_acked seen v =
    record { made = v.made; taken = v.taken; acked = seen; inserts = v.inserts; pending = unacked v seen }

-- the edit e came, with the client's inserts then
abbrev pub line_taken : ℕ → ℕ → Edit → Line → Line
line_taken inserts seen e v =
    record { made = v.made; taken = v.taken + 1; acked = seen; inserts = inserts; pending = over e (unacked v seen) }

-- the form in which it is applied
abbrev pub carried : Line → ℕ → Edit → Edit
carried v seen e = past e (unacked v seen)

-- the position of an edit, 0 for nothing
abbrev pub position_at : Edit → ℕ
position_at e = position_of (form_of e)

abbrev pub line_report : Line → ℕ → Edit → Report
line_report v seen e = record { passed = v.made - seen; arrived = position_at e; applied = position_at (carried v seen e) }

-- questions 7 and 8
abbrev pub seen_questions : Line → ℕ → List Question
seen_questions v seen = ask 7 (leb v.acked seen) ∷ ask 8 (leb seen v.made) ∷ []

-- questions 5 to 9, and what else an end asks
abbrev pub take_questions : Line → List Place → Header → Edit → List Question → List Question
take_questions v items h e more =
    ask 5 (ltb v.taken h.number)
    ∷ ask 6 (eqb h.number (v.taken + 1))
    ∷ ask 7 (leb v.acked h.seen)
    ∷ ask 8 (leb h.seen v.made)
    ∷ ask 9
    (fits (carried v h.seen e) (length items) && all_placed (over e (unacked v h.seen))
    && leb (length (applied_by h.origin (carried v h.seen e) items)) max_items)
    ∷ more

-- What an end answers to a message, by its answers to an edit under a header and to an acknowledgement.
abbrev pub takes_by : {A : Type 0} → (Header → Edit → A) → (ℕ → ℕ → ℕ → A) → Message → A
takes_by edit ack (message.Insert h p x r) = edit h (Insert p x r)
takes_by edit ack (message.Delete h p) = edit h (Delete p)
takes_by edit ack (message.Nothing h) = edit h Nothing
takes_by edit ack (message.Ack l d seen) = ack l d seen

-- What it answers to what it read. Bytes that are no message: questions 2 and 3.
abbrev pub reads_by : {E : Type 0} → (E → Bool) → E → (Message → Answer E) → Option Message → Answer E
reads_by sound c takes None = answer (asks (ask 2 (sound c) ∷ ask 3 false ∷ [])) c c no_report
reads_by sound c takes (Some m) = takes m
