-- What each call of the server answers: the model's answer about the struct. An end that is not sound is refused by question 2.
use Rattle.std.specs.Prelude.{ℕ, cond, List, eqb}
use Rattle.wire.specs.declared.Message.{Message}
use Rattle.model.specs.Questions as model
use Rattle.model.specs.Server as server
use Rattle.server.specs.declared.Server.{Server}
use Rattle.server.specs.View.{view, store, sound}

abbrev pub refused_with : ℕ → Server → model.Answer Server
refused_with r s = record { refusal = r; end = s; report = model.no_report }

-- the model's answer in the struct: on a refusal the end is the one that came
abbrev pub given : Server → model.Answer server.Server → model.Answer Server
given s a = record { refusal = a.refusal; end = cond (eqb a.refusal 0) (store a.end) s; report = a.report }

unfoldable pub guarded : Server → model.Answer server.Server → model.Answer Server
guarded s a = cond (sound s) (given s a) (refused_with 2 s)

-- a refused opening leaves an end that is all zeros
abbrev pub opened : ℕ → List ℕ → List ℕ → model.Answer Server
opened n ranks items = given (store server.no_server) (server.open_server n ranks items)

abbrev pub taken : Server → List ℕ → model.Answer Server
taken s bytes = guarded s (server.take_server (view s) bytes)

-- the same of a message that was read
abbrev pub taken_message : Server → Message → model.Answer Server
taken_message s m = guarded s (server.server_takes (view s) m)

-- A sending changes no end: the answer, and the lent buffer.
unfoldable pub guarded_sending : Server → model.Sent → List ℕ → model.Sent
guarded_sending s a lent = cond (sound s) a (record { refusal = 2; written = 0; buffer = lent })

abbrev pub sent_edit : Server → ℕ → ℕ → List ℕ → model.Sent
sent_edit s line number lent = guarded_sending s (server.send_server (view s) line number lent) lent

abbrev pub sent_ack : Server → ℕ → List ℕ → model.Sent
sent_ack s line lent = guarded_sending s (server.tell_server (view s) line lent) lent
