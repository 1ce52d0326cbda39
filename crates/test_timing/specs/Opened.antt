-- The ends that are timed: opened for two clients with line numbers as ranks and so many items, all of them 0.
use Rattle.std.specs.Prelude.{ℕ, List, [], ◌∷◌, take, replicate}
use Rattle.model.specs.Questions.{Answer}
use Rattle.c_layout.specs.Called.{packed_report}
use Rattle.client.specs.declared.Client.{Client}
use Rattle.client.specs.Answers as client
use Rattle.server.specs.declared.Server.{Server}
use Rattle.server.specs.Answers as server

abbrev pub items : ℕ → List ℕ
items count = take count (replicate 256 0)

abbrev pub ranks : List ℕ
ranks = 1 ∷ 2 ∷ []

unfoldable pub client_with : ℕ → Client
client_with count = (client.opened 2 1 ranks (items count)).end

unfoldable pub server_with : ℕ → Server
server_with count = (server.opened 2 ranks (items count)).end

abbrev pub client_answered : Answer Client → ℕ
client_answered a = packed_report a.refusal a.report

abbrev pub server_answered : Answer Server → ℕ
server_answered a = packed_report a.refusal a.report
