-- The calls of a client over its lent bytes: question 18, then the call of the client that the bytes are. A refused call changes no byte.
use Rattle.std.specs.Prelude.{ℕ, List}
use Rattle.model.specs.Questions.{Answer}
use Rattle.client.specs.declared.Client.{Client}
use Rattle.client.specs.Answers.{opened, inserted, deleted, taken_back, taken, sent_edit, sent_ack}
use Rattle.c_layout.specs.Words.{items_of}
use Rattle.c_layout.specs.Called.{Called, laid_out, changing, opening, sending}
pub use Rattle.c_layout.specs.Called.{returned}
use Rattle.c_client.specs.Layout.{size, bytes_in, end_in}

-- the answer of a call that may change its end
unfoldable pub answered : Answer Client → List ℕ → Called
answered a bytes = changing size a.refusal a.report (bytes_in a.end) bytes

unfoldable pub opened_in : List ℕ → ℕ → ℕ → List ℕ → List ℕ → Called
opened_in bytes n line ranks items = opening size bytes items (answered (opened n line ranks (items_of items)) bytes)

unfoldable pub inserted_in : List ℕ → ℕ → ℕ → Called
inserted_in bytes p x = laid_out size bytes bytes (answered (inserted (end_in bytes) p x) bytes)

unfoldable pub deleted_in : List ℕ → ℕ → Called
deleted_in bytes p = laid_out size bytes bytes (answered (deleted (end_in bytes) p) bytes)

unfoldable pub taken_back_in : List ℕ → Called
taken_back_in bytes = laid_out size bytes bytes (answered (taken_back (end_in bytes)) bytes)

unfoldable pub taken_in : List ℕ → List ℕ → Called
taken_in bytes message = laid_out size bytes bytes (answered (taken (end_in bytes) message) bytes)

unfoldable pub sent_in : List ℕ → ℕ → ℕ → List ℕ → Called
sent_in bytes line number out = laid_out size bytes out (sending (sent_edit (end_in bytes) line number out))

unfoldable pub acknowledged_in : List ℕ → ℕ → List ℕ → Called
acknowledged_in bytes line out = laid_out size bytes out (sending (sent_ack (end_in bytes) line out))
