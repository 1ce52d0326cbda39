-- Sending by its parts: questions 2, 4 and 13, and what is known once they have said yes.
use Rattle.std.specs.Prelude.{ℕ, ◌-◌, ◌≤◌, List, [], ◌∷◌}
use Rattle.model.specs.Questions.{Question, ask, asks, between}
use Rattle.line.specs.Keeping.{then_asked}
use Rattle.line.specs.Sending.{number_asked, IsPending}
use Rattle.server.specs.declared.Counts.{Counts}
use Rattle.server.specs.declared.Server.{Server}
use Rattle.server.specs.View.{counts_at, server_of, sound, Sound}

abbrev pub line_asked : Server → ℕ → List Question
line_asked s line = ask 2 (sound s) ∷ ask 4 (between 1 s.counts.n line) ∷ []

abbrev pub send_asked : Server → ℕ → ℕ → ℕ
send_asked s line number = then_asked (asks (line_asked s line)) (asks (number_asked (counts_at s.counts (line - 1)) number))

abbrev pub OnLine : Counts → ℕ → Type 0
OnLine k line = (1 ≤ line) × (line ≤ k.n)

pub record Sendable (k : Counts) (words : List ℕ) (line number : ℕ) : Type 0 where
  pub sound : Sound (server_of k words)
  pub on : OnLine k line
  pub pending : IsPending (counts_at k (line - 1)) number
