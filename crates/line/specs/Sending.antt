-- Sending: question 13, and the end of every sending, question 14 and the bytes.
use Rattle.std.specs.Prelude.{Result, Ok, Err, ℕ, ◌+◌, ◌≤◌, ◌<◌, List, [], ◌∷◌, leb, length}
use Rattle.refusal.specs.declared.Refusal.{Refusal}
use Rattle.refusal.specs.Number.{number}
use Rattle.wire.specs.declared.Message.{Message}
use Rattle.wire.specs.Bytes.{bytes_of}
use Rattle.model.specs.Questions as model
use Rattle.line.specs.declared.Line.{Line}

-- what the code answers, with the lent buffer beside it, as the model's answer
abbrev pub answered : Result ℕ Refusal → List ℕ → model.Sent
answered (Ok n) lent = record { refusal = 0; written = n; buffer = lent }
answered (Err r) lent = record { refusal = number r; written = 0; buffer = lent }

-- the number is among the pending ones
abbrev pub number_asked : Line → ℕ → List model.Question
number_asked v number = model.ask 13 (model.between (v.acked + 1) v.made number) ∷ []

abbrev pub finished : Message → List ℕ → model.Sent
finished m lent = model.sent (model.asks (model.ask 14 (leb (length (bytes_of m)) (length lent)) ∷ [])) (bytes_of m) lent

abbrev pub IsPending : Line → ℕ → Type 0
IsPending v number = (v.acked < number) × (number ≤ v.made)
