-- A message that comes to a client, by its numbers: question 4, and what it then makes of the client.
use Rattle.std.specs.Prelude.{ℕ, Bool, not, ◌&&◌, ◌||◌, cond, eqb, [], ◌∷◌}
use Rattle.ot.specs.declared.Form.{Form}
use Rattle.ot.specs.Edit.{Edit, edit, transformed}
use Rattle.list.specs.Places.{applied_by}
use Rattle.model.specs.Cross.{priority}
use Rattle.model.specs.Questions as model
use Rattle.model.specs.Questions.{ask, asks}
use Rattle.model.specs.Inverse.{inverse_stands}
use Rattle.model.specs.Ranks.{rank_of}
use Rattle.model.specs.Line.{other}
use Rattle.model.specs.Client as client
use Rattle.line.specs.Keeping.{then_asked}
use Rattle.line.specs.declared.taking.Arrival.{Arrival}
use Rattle.line.specs.Taking.{refusal_of, line_then, edit_then, report_of}
use Rattle.client.specs.declared.Counts.{Counts}
use Rattle.client.specs.declared.Client.{Client}
use Rattle.client.specs.View.{view}
use Rattle.client.specs.Answers.{guarded}

-- an insert's priority is another rank of 1 to n; an edit's item plays no part
abbrev pub from_other : ℕ → ℕ → Form → Bool
from_other n rank f = priority (other n rank) (edit f 0)

-- an edit was made by another client; an acknowledgement has no maker
abbrev pub made_elsewhere : ℕ → ℕ → Bool → ℕ → Bool
made_elsewhere n line carries maker = not carries || other n line maker

abbrev pub down_to : Counts → Arrival → Bool
down_to k a =
    eqb a.direction 1 && eqb a.line k.line && from_other k.n (rank_of k.ranks k.line) a.form
    && made_elsewhere k.n k.line a.carries a.origin.line

-- the inverse once the message is taken: an acknowledgement leaves it
abbrev pub inverse_then : Client → Arrival → Edit
inverse_then c a = transformed (view c).inverse (edit_then (view c).own a)

-- the client once the message is taken
abbrev pub client_then : Client → Arrival → client.Client
client_then c a =
    client.with (view c) (applied_by a.origin (edit_then (view c).own a) (view c).items) (line_then (view c).own c.counts.own.inserts a)
    (inverse_then c a)

-- questions 4 to 9 as one number; the inverse is asked last
abbrev pub refusal_at : Client → Arrival → ℕ
refusal_at c a =
    cond (down_to c.counts a)
    (then_asked (refusal_of c.counts.own (view c).own c.counts.len a) (asks (ask 9 (inverse_stands (inverse_then c a)) ∷ []))) 4

-- the answer at a client that question 2 finds sound
abbrev pub arrived : Client → Arrival → model.Answer Client
arrived c a = guarded c (model.answer (refusal_at c a) (view c) (client_then c a) (report_of (view c).own a))
