-- What each call of a client answers: the model's answer about the struct. An end that is not sound is refused by question 2.
use Rattle.std.specs.Prelude.{ℕ, ◌+◌, ◌-◌, cond, List, [], ◌∷◌, eqb, leb, ltb}
use Rattle.limits.specs.Limits.{max_inserts, max_edits, max_pending}
use Rattle.ot.specs.Edit.{Edit}
use Rattle.model.specs.Questions as model
use Rattle.model.specs.Cross.{inserts_of}
use Rattle.model.specs.Client as client
use Rattle.line.specs.Keeping.{fits_list}
use Rattle.client.specs.declared.Counts.{Counts}
use Rattle.client.specs.declared.Client.{Client}
use Rattle.client.specs.View.{view, store, sound}

abbrev pub refused_with : ℕ → Client → model.Answer Client
refused_with r c = record { refusal = r; end = c; report = model.no_report }

-- the model's answer about the struct: on a refusal the end is the one that came
abbrev pub given : Client → model.Answer client.Client → model.Answer Client
given c a = record { refusal = a.refusal; end = cond (eqb a.refusal 0) (store a.end) c; report = a.report }

unfoldable pub guarded : Client → model.Answer client.Client → model.Answer Client
guarded c a = cond (sound c) (given c a) (refused_with 2 c)

-- a refused opening returns an end that is all zeros
abbrev pub opened : ℕ → ℕ → List ℕ → List ℕ → model.Answer Client
opened n line ranks items = given (store client.no_client) (client.open_client n line ranks items)

abbrev pub edited : Client → Edit → model.Answer Client
edited c e = guarded c (client.edit_client (view c) e)

-- an insert's priority is the line's rank
abbrev pub inserted : Client → ℕ → ℕ → model.Answer Client
inserted c p x = guarded c (client.insert_client (view c) p x)

abbrev pub deleted : Client → ℕ → model.Answer Client
deleted c p = guarded c (client.delete_client (view c) p)

abbrev pub taken_back : Client → model.Answer Client
taken_back c = guarded c (client.take_back_client (view c))

-- questions 9 to 12, by the numbers
abbrev pub edit_asked : Counts → Edit → List model.Question
edit_asked k e =
    model.ask 9 (fits_list e k.len)
    ∷ model.ask 10 (leb (k.own.inserts + inserts_of e) max_inserts)
    ∷ model.ask 11 (ltb k.own.made max_edits)
    ∷ model.ask 12 (ltb (k.own.made - k.own.acked) max_pending)
    ∷ []

abbrev pub taken : Client → List ℕ → model.Answer Client
taken c bytes = guarded c (client.take_client (view c) bytes)

-- A sending changes no end: the answer, and the lent buffer.
unfoldable pub guarded_sending : Client → model.Sent → List ℕ → model.Sent
guarded_sending c a lent = cond (sound c) a (record { refusal = 2; written = 0; buffer = lent })

abbrev pub sent_edit : Client → ℕ → ℕ → List ℕ → model.Sent
sent_edit c line number lent = guarded_sending c (client.send_client (view c) line number lent) lent

abbrev pub sent_ack : Client → ℕ → List ℕ → model.Sent
sent_ack c line lent = guarded_sending c (client.tell_client (view c) line lent) lent
