-- Openings that questions 1 and 16 let through.
use mathlib.Core.Path.{◌≡◌}
use mathlib.Core.Bool.{true}
use mathlib.Core.List.{List, [], ◌∷◌}
use Prim.Native.Nat.{ℕ, ◌≤◌}
use lib.Dec.{leb}
use lib.ListN.{length, replicate}
use borrow.Author.Tests.{le-leb}
use Rattle.ot.specs.Edit.{Nothing}
use Rattle.list.specs.Places.{initial_places}
use Rattle.model.specs.Limits.{max_lines, max_initial}
use Rattle.model.specs.Questions.{asks, between, no_report}
use Rattle.model.specs.Ranks.{ranking}
use Rattle.model.specs.Line.{no_line}
use Rattle.model.specs.Client.{Client, no_client, open_client_questions, open_client}
use Rattle.model.specs.Server.{Server, no_server, open_server_questions, open_server}
use Rattle.model.proofs.Tests.{held, all_yes, true_between}
use Rattle.model.proofs.Sound.{new_end}

abbrev pub fresh_client : ℕ → ℕ → List ℕ → List ℕ → Client
fresh_client n l ranks items = record { n = n; line = l; ranks = ranks; items = initial_places items; own = no_line; inverse = Nothing }

abbrev pub fresh_server : ℕ → List ℕ → List ℕ → Server
fresh_server n ranks items = record { n = n; initial = length items; ranks = ranks; items = initial_places items; lines = replicate n no_line; makers = replicate n [] }

pub client_asks : (n l : ℕ) (ranks items : List ℕ) → 1 ≤ n → n ≤ max_lines → 1 ≤ l → l ≤ n → length items ≤ max_initial → ranking n ranks ≡ true → asks (open_client_questions n l ranks items) ≡ 0
client_asks n l ranks items a b c d e r =
    all_yes (open_client_questions n l ranks items) (
      held (between 1 max_lines n ∷ between 1 n l ∷ leb (length items) max_initial ∷ [])
          (true_between 1 max_lines n a b, (true_between 1 n l c d, (le-leb (length items) max_initial e, tt))),
      (r, tt),
    )

pub server_asks : (n : ℕ) (ranks items : List ℕ) → 1 ≤ n → n ≤ max_lines → length items ≤ max_initial → ranking n ranks ≡ true → asks (open_server_questions n ranks items) ≡ 0
server_asks n ranks items a b e r =
    all_yes (open_server_questions n ranks items) (
      held (between 1 max_lines n ∷ leb (length items) max_initial ∷ [])
          (true_between 1 max_lines n a b, (le-leb (length items) max_initial e, tt)),
      (r, tt),
    )

pub client_opens : (n l : ℕ) (ranks items : List ℕ) → 1 ≤ n → n ≤ max_lines → 1 ≤ l → l ≤ n → length items ≤ max_initial → ranking n ranks ≡ true
    → open_client n l ranks items ≡ record { refusal = 0; end = fresh_client n l ranks items; report = no_report }
unfolding open_client
client_opens n l ranks items a b c d e r = new_end (asks (open_client_questions n l ranks items)) no_client (fresh_client n l ranks items) no_report (client_asks n l ranks items a b c d e r)

pub server_opens : (n : ℕ) (ranks items : List ℕ) → 1 ≤ n → n ≤ max_lines → length items ≤ max_initial → ranking n ranks ≡ true
    → open_server n ranks items ≡ record { refusal = 0; end = fresh_server n ranks items; report = no_report }
unfolding open_server
server_opens n ranks items a b e r = new_end (asks (open_server_questions n ranks items)) no_server (fresh_server n ranks items) no_report (server_asks n ranks items a b e r)
