-- The server and its clients as structs, the clients side by side in one array, and the bench that they stand for.
use Rattle.std.specs.Prelude.{ℕ, zero, suc, ◌≡◌, List, [], ◌∷◌, map, take}
use Rattle.limits.specs.Limits.{max_lines}
use Rattle.list.specs.Items.{padded}
use Rattle.model.specs.Client.{no_client, open_client}
use Rattle.model.specs.Server.{no_server}
use Rattle.client.specs.declared.Client.{Client}
use Rattle.client.specs.View as client
use Rattle.server.specs.View as server
use Rattle.sheet_ends.specs.declared.Ends.{Ends}
use Rattle.sheet_ends.specs.Bench.{Bench, SoundBench}

abbrev pub view_ends : Ends → Bench
view_ends e = record { server = server.view e.server; clients = map client.view (take e.server.counts.n e.clients) }

-- a place that is not in use holds zeros
abbrev pub store_ends : Bench → Ends
store_ends b =
    record { server = server.store b.server; clients = padded (client.store no_client) max_lines (map client.store b.clients) }

-- of no sheet
abbrev pub no_ends : Ends
no_ends = record { server = server.store no_server; clients = padded (client.store no_client) max_lines [] }

-- the structs for a bench whose ends are sound
pub record Whole (e : Ends) : Type 0 where
  pub whole : e ≡ store_ends (view_ends e)
  pub sound : SoundBench (view_ends e)

-- k clients, from line l on, of a sheet of n; opening refuses a line past n, and then gives an end that is all zeros
abbrev pub opening : ℕ → List ℕ → List ℕ → ℕ → ℕ → List Client
opening n ranks items l zero = []
opening n ranks items l (suc k) = client.store (open_client n l ranks items).«end» ∷ opening n ranks items (suc l) k
