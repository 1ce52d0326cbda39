-- What an order leaves of the structs is what its command leaves of the bench that they stand for, stored.
use Prim.Native.Nat.{ℕ, ◌-◌, ◌≤◌}
use mathlib.Core.Path.{◌≡◌, refl, sym, ap, ap₂, ◌∙◌}
use mathlib.Core.Bool.{Bool, true, false, cond}
use mathlib.Core.List.{List, map}
use borrow.Author.Tests.{eqb-true, eqb-false, eq-eqb}
use lib.Dec.{eqb}
use lib.ListN.{get_or, take, set}
use Rattle.limits.specs.Limits.{max_lines}
use Rattle.list.specs.Items.{padded}
use Rattle.model.specs.Questions.{Answer, Sent}
use Rattle.model.specs.Client as models
use Rattle.model.specs.Server as server_models
use Rattle.client.specs.declared.Client.{Client}
use Rattle.client.specs.View as client
use Rattle.client.specs.Answers as clients
use Rattle.server.specs.declared.Server.{Server}
use Rattle.server.specs.View as server
use Rattle.server.specs.Answers as servers
use Rattle.std.proofs.Common.{Option, Some}
use Rattle.sheet_text.specs.declared.Order.{Order}
use Rattle.sheet_text.specs.Order.{coded}
use Rattle.sheet_text.specs.Command.{Command, Bad, Insert, Delete, Up, Down, Ack, Told}
use Rattle.sheet_ends.specs.Bench as bench
use Rattle.sheet_ends.specs.Bench.{Bench, Step, client_of, room, step}
use Rattle.sheet_ends.specs.declared.Ends.{Ends}
use Rattle.sheet_ends.specs.Ends.{view_ends, store_ends, Whole}
use Rattle.sheet_ends.specs.Orders.{Done, sent_by, changed_by, on_client, on_server, ordered}
use Rattle.sheet_ends.proofs.Lists.{pad_set, set_map}
use Rattle.sheet_ends.proofs.Wholes.{server_is, clients_are, stored_within, client_sound, client_is}
use Rattle.sheet_ends.proofs.Calls.{Keeps, edit_keeps, client_keeps, client_answers, client_sends, server_answers, server_sends}

-- the line of a command is one of 1 to n
abbrev pub Within : ℕ → Command → Type 0
Within n Bad = Unit {0}
Within n (Insert l p x) = (1 ≤ l) × (l ≤ n)
Within n (Delete l p) = (1 ≤ l) × (l ≤ n)
Within n (Up l k) = (1 ≤ l) × (l ≤ n)
Within n (Down l k) = (1 ≤ l) × (l ≤ n)
Within n (Ack l) = (1 ≤ l) × (l ≤ n)
Within n (Told l) = (1 ≤ l) × (l ≤ n)

abbrev pub store_step : Step → Done
store_step s = record { refusal = s.refusal; ends = store_ends s.bench }

done_path : {r r' : ℕ} {s s' : Server} {c c' : List Client} → r ≡ r' → s ≡ s' → c ≡ c'
    → ◌≡◌ {A = Done} (record { refusal = r; ends = record { server = s; clients = c } }) (record { refusal = r'; ends = record { server = s'; clients = c' } })
done_path p q r = λ i. record { refusal = p i; ends = record { server = q i; clients = r i } }

module _ (e : Ends) (w : Whole e) where
  abbrev B : Bench
  B = view_ends e

  -- ---- calls on the server

  server_call : (bytes : List ℕ) → on_server e (servers.taken e.server bytes) ≡ store_step (bench.on_server B (server_models.take_server B.server bytes))
  server_call bytes =
      let q = ap (λ (s : Server). servers.taken s bytes) (server_is e w) ∙ server_answers B.server w.sound.server bytes in
      done_path (ap (λ (x : Answer Server). x.refusal) q) (ap (λ (x : Answer Server). x.end) q) (clients_are e w)

  server_sent : (call : server_models.Server → Sent) → servers.guarded_sending e.server (call (server.view e.server)) room ≡ call B.server
  server_sent call =
      ap (λ (x : Server). servers.guarded_sending x (call (server.view x)) room) (server_is e w) ∙ server_sends B.server w.sound.server call room

  -- ---- calls on the client of line l

  module _ (l : ℕ) (in_range : (1 ≤ l) × (l ≤ e.server.counts.n)) where
    abbrev c : Client
    c = get_or e.clients (l - 1) (client.store models.no_client)

    client_call : (call : models.Client → Answer models.Client) → Keeps (client_of B l) (call (client_of B l))
        → on_client e (l - 1) (clients.guarded c (call (client.view c))) ≡ store_step (bench.on_client B l (call (client_of B l)))
    client_call call h =
        let m = client_of B l in
        let q = ap (λ (x : Client). clients.guarded x (call (client.view x))) (client_is e w l in_range) ∙ client_answers m (client_sound e w l in_range) call h in
        done_path (ap (λ (x : Answer Client). x.refusal) q) (server_is e w)
        (ap₂ (λ (x : List Client) (y : Client). set x (l - 1) y) (clients_are e w) (ap (λ (x : Answer Client). x.end) q)
        ∙ pad_set max_lines (client.store models.no_client) (map client.store B.clients) (l - 1) (client.store (call m).end) (stored_within e w l in_range)
        ∙ ap (padded (client.store models.no_client) max_lines) (set_map client.store B.clients (l - 1) (call m).end))

    client_sent : (call : models.Client → Sent) → clients.guarded_sending c (call (client.view c)) room ≡ call (client_of B l)
    client_sent call =
        ap (λ (x : Client). clients.guarded_sending x (call (client.view x)) room) (client_is e w l in_range) ∙ client_sends (client_of B l) (client_sound e w l in_range) call room

    -- what the server sent, taken by the client
    client_gets : (x m : Sent) → x ≡ m → x.refusal ≡ 0
        → on_client e (l - 1) (clients.taken c (take x.written x.buffer)) ≡ store_step (bench.delivered B m (λ bytes. bench.on_client B l (models.take_client (client_of B l) bytes)))
    client_gets x m p z =
        ap (λ (y : Sent). on_client e (l - 1) (clients.taken c (take y.written y.buffer))) p
        ∙ client_call (λ v. models.take_client v (take m.written m.buffer)) (client_keeps (client_of B l) (take m.written m.buffer))
        ∙ rw (eq-eqb m.refusal 0 (sym (ap (λ (y : Sent). y.refusal) p) ∙ z))

  -- what a client sent, taken by the server
  server_gets : (x m : Sent) → x ≡ m → x.refusal ≡ 0
      → on_server e (servers.taken e.server (take x.written x.buffer)) ≡ store_step (bench.delivered B m (λ bytes. bench.on_server B (server_models.take_server B.server bytes)))
  server_gets x m p z =
      ap (λ (y : Sent). on_server e (servers.taken e.server (take y.written y.buffer))) p ∙ server_call (take m.written m.buffer)
      ∙ rw (eq-eqb m.refusal 0 (sym (ap (λ (y : Sent). y.refusal) p) ∙ z))

  -- a sending that was refused
  unsent : (x m : Sent) (then : List ℕ → Step) → x ≡ m → (x.refusal ≡ 0 → ⊥)
      → ◌≡◌ {A = Done} (record { refusal = x.refusal; ends = e }) (store_step (bench.delivered B m then))
  unsent x m then p h = ap (λ (y : Sent). record { refusal = y.refusal; ends = e }) p ∙ go (eqb m.refusal 0) refl
    where
      go : (t : Bool) → eqb m.refusal 0 ≡ t
          → ◌≡◌ {A = Done} (record { refusal = m.refusal; ends = e }) (store_step (cond t (then (take m.written m.buffer)) (record { refusal = m.refusal; bench = B })))
      go true f = absurd (h (ap (λ (y : Sent). y.refusal) p ∙ eqb-true m.refusal 0 f))
      go false f = ap (λ (x : Ends). record { refusal = m.refusal; ends = x }) w.whole

  -- what was sent, or its refusal
  up_is : (x m : Sent) → x ≡ m
      → cond (eqb x.refusal 0) (on_server e (servers.taken e.server (take x.written x.buffer))) (record { refusal = x.refusal; ends = e })
      ≡ store_step (bench.delivered B m (λ bytes. bench.on_server B (server_models.take_server B.server bytes)))
  up_is x m p = go (eqb x.refusal 0) refl
    where
      go : (t : Bool) → eqb x.refusal 0 ≡ t
          → cond t (on_server e (servers.taken e.server (take x.written x.buffer))) (record { refusal = x.refusal; ends = e })
          ≡ store_step (bench.delivered B m (λ bytes. bench.on_server B (server_models.take_server B.server bytes)))
      go true q = server_gets x m p (eqb-true x.refusal 0 q)
      go false q = unsent x m (λ bytes. bench.on_server B (server_models.take_server B.server bytes)) p (eqb-false x.refusal 0 q)

  down_is : (l : ℕ) → (1 ≤ l) × (l ≤ e.server.counts.n) → (x m : Sent) → x ≡ m
      → cond (eqb x.refusal 0) (on_client e (l - 1) (clients.taken (get_or e.clients (l - 1) (client.store models.no_client)) (take x.written x.buffer))) (record { refusal = x.refusal; ends = e })
      ≡ store_step (bench.delivered B m (λ bytes. bench.on_client B l (models.take_client (client_of B l) bytes)))
  down_is l h x m p = go (eqb x.refusal 0) refl
    where
      go : (t : Bool) → eqb x.refusal 0 ≡ t
          → cond t (on_client e (l - 1) (clients.taken (get_or e.clients (l - 1) (client.store models.no_client)) (take x.written x.buffer))) (record { refusal = x.refusal; ends = e })
          ≡ store_step (bench.delivered B m (λ bytes. bench.on_client B l (models.take_client (client_of B l) bytes)))
      go true q = client_gets l h x m p (eqb-true x.refusal 0 q)
      go false q = unsent x m (λ bytes. bench.on_client B l (models.take_client (client_of B l) bytes)) p (eqb-false x.refusal 0 q)

  -- ---- a command, by its one order

  by_order : (a o : Order) (z : Done) → ◌≡◌ {A = Option Order} (Some a) (Some o) → ordered e a ≡ z → ordered e o ≡ z
  by_order a o z p h = let q : a ≡ o = cc in rw q at h

  pub ordered_is : (c : Command) (o : Order) → coded c ≡ Some o → Within e.server.counts.n c → ordered e o ≡ store_step (step B c)
  unfolding coded ordered sent_by changed_by step
  ordered_is Bad o p h = cc
  ordered_is (Insert l q y) o p h = by_order _ o _ p (client_call l h (λ m. models.insert_client m q y) (edit_keeps (client_of B l) _))
  ordered_is (Delete l q) o p h = by_order _ o _ p (client_call l h (λ m. models.delete_client m q) (edit_keeps (client_of B l) _))
  ordered_is (Up l k) o p h = by_order _ o _ p (up_is _ _ (client_sent l h (λ v. models.send_client v l k room)))
  ordered_is (Down l k) o p h = by_order _ o _ p (down_is l h _ _ (server_sent (λ v. server_models.send_server v l k room)))
  ordered_is (Ack l) o p h = by_order _ o _ p (up_is _ _ (client_sent l h (λ v. models.tell_client v l room)))
  ordered_is (Told l) o p h = by_order _ o _ p (down_is l h _ _ (server_sent (λ v. server_models.tell_server v l room)))
