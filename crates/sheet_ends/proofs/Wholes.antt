-- The structs of a bench whose ends are sound: they stand for that bench, and each of them is the struct for its end.
use Prim.Native.Nat.{ℕ, ◌-◌, ◌<◌, ◌≤◌}
use mathlib.Core.Path.{◌≡◌, refl, sym, ap, ap₂, ◌∙◌, subst}
use mathlib.Core.Bool.{true}
use mathlib.Core.List.{List, [], ◌∷◌, map}
use native.Mathlib.Omega.{arith}
use lib.ListN.{length, get_or, take, length-map, get_or-append, get_or-map}
use Rattle.limits.specs.Limits.{max_lines, max_items}
use Rattle.list.specs.Items.{padded}
use Rattle.list.proofs.Pad.{pad_take}
use Rattle.model.specs.Questions.{every}
use Rattle.model.specs.Client as models
use Rattle.model.specs.Server as server_models
use Rattle.model.proofs.SoundServer.{server_facts}
use Rattle.client.specs.declared.Client.{Client}
use Rattle.client.specs.View as client
use Rattle.client.proofs.Stored.{client_view}
use Rattle.server.specs.declared.Server.{Server}
use Rattle.server.specs.View as server
use Rattle.sheet_print.proofs.Sinks.{and_left, and_right}
use Rattle.sheet_ends.specs.Bench.{Bench, SoundBench, client_of}
use Rattle.sheet_ends.specs.declared.Ends.{Ends}
use Rattle.sheet_ends.specs.Ends.{view_ends, store_ends, Whole}
use Rattle.sheet_ends.proofs.Benches.{every_at}
use Rattle.server.proofs.Stored.{view_store, store_sizes}

-- ---- the structs for a bench

views : (cs : List models.Client) → every (map models.sound_client cs) ≡ true → map client.view (map client.store cs) ≡ cs
views [] h = refl
views (c ∷ cs) h =
    ap₂ (λ (x : models.Client) (l : List models.Client). x ∷ l) (client_view c (and_left (models.sound_client c) (every (map models.sound_client cs)) h))
    (views cs (and_right (models.sound_client c) (every (map models.sound_client cs)) h))

bench_path : {s s' : server_models.Server} {c c' : List models.Client} → s ≡ s' → c ≡ c' → ◌≡◌ {A = Bench} (record { server = s; clients = c }) (record { server = s'; clients = c' })
bench_path p q = λ i. record { server = p i; clients = q i }

module _ (b : Bench) (g : SoundBench b) where
  taken : take b.server.n (padded (client.store models.no_client) max_lines (map client.store b.clients)) ≡ map client.store b.clients
  taken =
      ap (λ (k : ℕ). take k (padded (client.store models.no_client) max_lines (map client.store b.clients))) (sym (length-map b.clients client.store ∙ g.count))
      ∙ pad_take max_lines (client.store models.no_client) (map client.store b.clients)

  pub bench_view : view_ends (store_ends b) ≡ b
  unfolding server.store
  bench_view = bench_path (view_store b.server g.server) (ap (map client.view) taken ∙ views b.clients g.clients)

  pub store_whole : Whole (store_ends b)
  store_whole = record { whole = ap store_ends (sym bench_view); sound = subst SoundBench (sym bench_view) g }

-- ---- each of them

module _ (e : Ends) (w : Whole e) where
  abbrev B : Bench
  B = view_ends e

  pub server_is : e.server ≡ server.store B.server
  server_is = ap (λ (x : Ends). x.server) w.whole

  pub clients_are : e.clients ≡ padded (client.store models.no_client) max_lines (map client.store B.clients)
  clients_are = ap (λ (x : Ends). x.clients) w.whole

  -- those of lines 1 to n
  pub clients_taken : take e.server.counts.n e.clients ≡ map client.store B.clients
  unfolding server.view
  clients_taken = ap (take e.server.counts.n) clients_are ∙ taken B w.sound

  pub lines_few : e.server.counts.n ≤ max_lines
  unfolding server.view
  lines_few = (server_facts B.server w.sound.server).n.1

  pub server_long : length e.server.words ≡ server.size
  server_long = subst (λ (s : Server). length s.words ≡ server.size) (sym server_is) (store_sizes B.server w.sound.server).words

  pub server_short : e.server.counts.len ≤ max_items
  unfolding server.store
  server_short =
      subst (λ (s : Server). s.counts.len ≤ max_items) (sym server_is) (server_facts B.server w.sound.server).items

  -- the client of line l
  module _ (l : ℕ) (in_range : (1 ≤ l) × (l ≤ e.server.counts.n)) where
    place_within : l - 1 < length B.clients
    unfolding server.view
    place_within = let k = w.sound.count in let i = in_range in omega arith

    pub stored_within : l - 1 < length (map client.store B.clients)
    stored_within = rw (length-map B.clients client.store) place_within

    pub client_sound : models.sound_client (client_of B l) ≡ true
    client_sound = every_at B.clients (l - 1) w.sound.clients place_within

    pub client_is : get_or e.clients (l - 1) (client.store models.no_client) ≡ client.store (client_of B l)
    client_is =
        ap (λ (x : List Client). get_or x (l - 1) (client.store models.no_client)) clients_are
        ∙ get_or-append (map client.store B.clients) _ (client.store models.no_client) (l - 1) stored_within
        ∙ get_or-map client.store B.clients (l - 1) models.no_client
