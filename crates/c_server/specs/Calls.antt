-- The server's calls over lent bytes: question 18, then the call of the server that the bytes are. A refused call changes no byte.
use Rattle.std.specs.Prelude.{ℕ, List}
use Rattle.model.specs.Questions.{Answer}
use Rattle.server.specs.declared.Server.{Server}
use Rattle.server.specs.Answers.{opened, taken, sent_edit, sent_ack}
use Rattle.c_layout.specs.Words.{items_of}
use Rattle.c_layout.specs.Called.{Called, laid_out, changing, opening, sending}
pub use Rattle.c_layout.specs.Called.{returned}
use Rattle.c_server.specs.Layout.{size, bytes_in, end_in}

-- the answer of a call that may change its end
unfoldable pub answered : Answer Server → List ℕ → Called
answered a bytes = changing size a.refusal a.report (bytes_in a.end) bytes

unfoldable pub opened_in : List ℕ → ℕ → List ℕ → List ℕ → Called
opened_in bytes n ranks items = opening size bytes items (answered (opened n ranks (items_of items)) bytes)

unfoldable pub taken_in : List ℕ → List ℕ → Called
taken_in bytes message = laid_out size bytes bytes (answered (taken (end_in bytes) message) bytes)

unfoldable pub sent_in : List ℕ → ℕ → ℕ → List ℕ → Called
sent_in bytes line number out = laid_out size bytes out (sending (sent_edit (end_in bytes) line number out))

unfoldable pub acknowledged_in : List ℕ → ℕ → List ℕ → Called
acknowledged_in bytes line out = laid_out size bytes out (sending (sent_ack (end_in bytes) line out))
