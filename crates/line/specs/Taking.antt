-- What a message makes of a line, before anything is written: questions 5 to 9 and the decision.
use Rattle.std.specs.Prelude.{Result, Ok, Err, ⊤, ℕ, ◌+◌, ◌-◌, ◌≤◌, ◌≡◌, Bool, true, false, ◌&&◌, cond, List, [], ◌∷◌, ◌++◌, map, leb, ltb, eqb, take, drop, replicate}
use Rattle.refusal.specs.declared.Refusal.{Refusal}
use Rattle.refusal.specs.Number.{number, refused_by}
use Rattle.limits.specs.Limits.{max_pending}
use Rattle.ot.specs.declared.Form.{Form}
use Rattle.ot.specs.declared.Form.TheVariants as form
use Rattle.ot.specs.Form.{position_of}
use Rattle.ot.specs.Edit.{Edit, Nothing, edit, form_of, item_of}
use Rattle.list.specs.Items.{padded}
use Rattle.wire.specs.declared.Header.{Header}
use Rattle.wire.specs.declared.Message.{Message}
use Rattle.wire.specs.declared.Message.TheVariants as message
use Rattle.model.specs.Cross.{over, all_placed}
use Rattle.model.specs.Questions as questions
use Rattle.model.specs.Questions.{Question, ask, asks}
use Rattle.model.specs.Packets.{counted}
use Rattle.model.specs.Edits.{no_origin}
use Rattle.model.specs.Line as model
use Rattle.pending.specs.declared.Crossed.{Crossed}
use Rattle.pending.specs.Slots.{places_of}
use Rattle.line.specs.declared.Line.{Line}
use Rattle.line.specs.Line.{line_of, counts_of}
use Rattle.line.specs.Keeping.{fits_list, then_asked}
use Rattle.line.specs.declared.taking.Arrival.{Arrival}
use Rattle.line.specs.declared.taking.Report.{Report}
use Rattle.line.specs.declared.taking.Decision.{Decision}
use Rattle.line.specs.declared.taking.Stopped.{Stopped}

-- ---- a message

abbrev pub carrying : Header → Form → ℕ → Arrival
carrying h f x =
    record { line = h.line; direction = h.direction; number = h.number; seen = h.seen; carries = true; form = f; item = x; origin = h.origin }

-- an acknowledgement carries no edit and has no number and no origin
abbrev pub arrival_of : Message → Arrival
arrival_of (message.Insert h p x r) = carrying h (form.Insert p r) x
arrival_of (message.Delete h p) = carrying h (form.Delete p) 0
arrival_of (message.Nothing h) = carrying h form.Nothing 0
arrival_of (message.Ack l d s) =
    record { line = l; direction = d; number = 0; seen = s; carries = false; form = form.Nothing; item = 0; origin = no_origin }

abbrev pub edit_of : Arrival → Edit
edit_of a = edit a.form a.item

-- ---- the questions

-- 7 and 8 of an acknowledgement
abbrev pub seen_asked : Line → ℕ → List Question
seen_asked v seen = ask 7 (leb v.acked seen) ∷ ask 8 (leb seen v.made) ∷ []

-- 5 to 8 of an edit
abbrev pub arrival_asked : Line → ℕ → ℕ → Bool → List Question
arrival_asked v number seen true = ask 5 (ltb v.taken number) ∷ ask 6 (eqb number (v.taken + 1)) ∷ seen_asked v seen
arrival_asked v number seen false = seen_asked v seen

-- question 9, by the length of the list
abbrev pub nine : model.Line → ℕ → ℕ → Edit → Bool
nine m len seen e = all_placed (over e (model.unacked m seen)) && fits_list (model.carried m seen e) len

-- 5 to 9, and of an acknowledgement 7 and 8, as one number
abbrev pub refusal_of : Line → model.Line → ℕ → Arrival → ℕ
refusal_of v m len a =
    then_asked (asks (arrival_asked v a.number a.seen a.carries))
    (cond a.carries (asks (ask 9 (nine m len a.seen (edit_of a)) ∷ [])) 0)

-- ---- the decision

-- the line then, the edit as it is applied, and the report of the answer
abbrev pub line_then : model.Line → ℕ → Arrival → model.Line
line_then m inserts a = cond a.carries (model.line_taken inserts a.seen (edit_of a) m) (model.line_acked a.seen m)

abbrev pub edit_then : model.Line → Arrival → Edit
edit_then m a = cond a.carries (model.carried m a.seen (edit_of a)) Nothing

-- a report of the model in a struct
abbrev pub report_in : questions.Report → Report
report_in k = record { passed = k.passed; arrived = k.arrived; applied = k.applied }

abbrev pub no_report : Report
no_report = report_in questions.no_report

-- what a taking answers, with the end that it leaves, as the model's answer
abbrev pub answer_of : {E : Type 0} → Result Report Refusal → E → questions.Answer E
answer_of (Ok k) e = record { refusal = 0; end = e; report = record { passed = k.passed; arrived = k.arrived; applied = k.applied } }
answer_of (Err r) e = record { refusal = number r; end = e; report = questions.no_report }

-- the same of a packet: how many of its messages were taken, beside a refusal too
abbrev pub packet_of : {E : Type 0} → Result ℕ Stopped → E → questions.Answer E
packet_of (Ok n) e = record { refusal = 0; end = e; report = counted n }
packet_of (Err s) e = record { refusal = number s.refusal; end = e; report = counted s.taken }

-- the same of a call that has nothing to report
abbrev pub done_of : {E : Type 0} → Result ⊤ Refusal → E → questions.Answer E
done_of (Ok x) e = record { refusal = 0; end = e; report = questions.no_report }
done_of (Err r) e = record { refusal = number r; end = e; report = questions.no_report }

abbrev pub report_of : model.Line → Arrival → questions.Report
report_of m a = cond a.carries (model.line_report m a.seen (edit_of a)) questions.no_report

abbrev pub report_by : model.Line → Arrival → Report
report_by m a = report_in (report_of m a)

abbrev pub done : model.Line → ℕ → Arrival → Decision
done m inserts a =
    record { report = report_by m a; line = counts_of (line_then m inserts a); form = form_of (edit_then m a) }

-- an edit that came as f is taken: x is what crossing made of it
abbrev pub taken_as : Line → ℕ → ℕ → Form → Crossed → Decision
taken_as v inserts seen f x =
    record {
      report = record { passed = x.passed; arrived = position_of f; applied = position_of x.form };
      line = record { made = v.made; taken = v.taken + 1; acked = seen; inserts = inserts };
      form = x.form;
    }

-- The places are those of the edits es, which bring the items of the pending edits after seen.
pub record Later (v : Line) (seen : ℕ) (words later : List ℕ) (es : List Edit) : Type 0 where
  pub places : later ≡ places_of es
  pub items : map item_of es ≡ map item_of (model.unacked (line_of v words) seen)

-- What deciding gives: the first refusal that fits, or the decision and the places of the pending edits that stay.
pub record Decided (v : Line) (words : List ℕ) (len inserts : ℕ) (a : Arrival) (r : Result Decision Refusal) (later : List ℕ) : Type 0 where
  pub refusal : refused_by r ≡ refusal_of v (line_of v words) len a
  pub done : (d : Decision) → r ≡ Ok d → d ≡ done (line_of v words) inserts a
  pub stay : (d : Decision) → r ≡ Ok d → Later v a.seen words later (line_then (line_of v words) inserts a).pending

abbrev pub zeros : List ℕ
zeros = replicate max_pending 0

-- ---- what is written

abbrev pub Between : Line → ℕ → Type 0
Between v seen = (v.acked ≤ seen) × (seen ≤ v.made)

-- the places that were decided on, and the items of the pending edits after seen
abbrev pub accepted : Line → ℕ → List ℕ → List ℕ → List ℕ
accepted v seen later words =
    later ++ padded 0 max_pending (take (v.made - seen) (drop (max_pending + (seen - v.acked)) words))
