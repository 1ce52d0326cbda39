-- An order at the ends, from what the calls answered: what was sent, and what the server or the client made of it.
use Prim.Native.Nat.{ℕ, ◌-◌, ◌<◌, ◌≤◌}
use mathlib.Core.Path.{◌≡◌, refl, sym, ap, ap₂, ◌∙◌, subst}
use mathlib.Core.Bool.{Bool, true, false, cond}
use mathlib.Core.List.{List, ◌++◌}
use native.Mathlib.Omega.{arith}
use borrow.Author.Tests.{ne_eqb}
use lib.Dec.{eqb}
use lib.ListN.{length, get_or, take, drop, set, length-append}
use Rattle.std.proofs.lemmas.List.{get_or_default}
use Rattle.std.specs.Prelude.{Result, Ok, Err, ⊤, IsErrAnd}
use Rattle.refusal.specs.declared.Refusal.{Refusal}
use Rattle.refusal.specs.Number.{number}
use Rattle.refusal.proofs.Some.{number_some, passed_on}
use Rattle.model.specs.Questions as model
use Rattle.model.specs.Client as models
use Rattle.model.specs.Server as server_models
use Rattle.line.specs.declared.taking.Report.{Report}
use Rattle.line.specs.Sending.{answered}
use Rattle.line.specs.Taking.{answer_of}
use Rattle.client.specs.declared.Client.{Client}
use Rattle.client.specs.View as client
use Rattle.client.specs.Answers as clients
use Rattle.server.specs.declared.Server.{Server}
use Rattle.server.specs.View as server
use Rattle.server.specs.Answers as servers
use Rattle.sheet_text.specs.declared.Order.{Order}
use Rattle.sheet_text.specs.declared.Verb.{Verb}
use Rattle.sheet_text.specs.declared.Verb.TheVariants as verb
use Rattle.sheet_print.proofs.Sinks.{both}
use Rattle.sheet_ends.specs.declared.Ends.{Ends}
use Rattle.sheet_ends.specs.Bench.{room}
use Rattle.sheet_ends.specs.Orders.{Done, Answers, done_of, client_on, goes_up, sent_by, changed_by, on_client, on_server, delivered, ordered}

-- ---- any sending writes within its buffer

abbrev Written : model.Sent → Type 0
Written x = x.written ≤ length x.buffer

sending_within : (r : ℕ) (bytes lent : List ℕ) → Written (model.sent r bytes lent)
unfolding model.sent
sending_within r bytes lent =
    both Written (eqb r 0) (record { refusal = 0; written = length bytes; buffer = bytes ++ drop (length bytes) lent })
    (record { refusal = r; written = 0; buffer = lent }) (let l = length-append bytes (drop (length bytes) lent) in omega arith) (omega arith)

client_within : (c : Client) (a : model.Sent) (lent : List ℕ) → Written a → Written (clients.guarded_sending c a lent)
unfolding clients.guarded_sending
client_within c a lent h = both Written (client.sound c) a (record { refusal = 2; written = 0; buffer = lent }) h (omega arith)

server_within : (s : Server) (a : model.Sent) (lent : List ℕ) → Written a → Written (servers.guarded_sending s a lent)
unfolding servers.guarded_sending
server_within s a lent h = both Written (server.sound s) a (record { refusal = 2; written = 0; buffer = lent }) h (omega arith)

wrote_within : (s : Server) (c : Client) (l : ℕ) (v : Verb) (lent : List ℕ) → Written (sent_by s c l v lent)
unfolding sent_by models.send_client models.tell_client server_models.send_server server_models.tell_server
wrote_within s c l (verb.Up k) lent = client_within c (models.send_client (client.view c) l k lent) lent (sending_within _ _ lent)
wrote_within s c l verb.Ack lent = client_within c (models.tell_client (client.view c) l lent) lent (sending_within _ _ lent)
wrote_within s c l (verb.Down k) lent = server_within s (server_models.send_server (server.view s) l k lent) lent (sending_within _ _ lent)
wrote_within s c l verb.Told lent = server_within s (server_models.tell_server (server.view s) l lent) lent (sending_within _ _ lent)
wrote_within s c l (verb.Insert p x) lent = omega arith
wrote_within s c l (verb.Delete p) lent = omega arith

-- ---- an order whole

module _ (e : Ends) (o : Order) where
  -- by what was sent, and by the verb
  by : (r n : ℕ) (m : List ℕ) → ◌≡◌ {A = model.Sent} (record { refusal = r; written = n; buffer = m }) (sent_by e.server (client_on e o) o.line o.verb room)
      → (t u : Bool) → eqb r 0 ≡ t → goes_up o.verb ≡ u
      → cond t
      (cond u (on_server e (servers.taken e.server (take n m))) (on_client e (o.line - 1) (changed_by (client_on e o) o.verb (take n m))))
      (record { refusal = r; ends = e })
      ≡ ordered e o
  unfolding ordered
  by r n m pb t u p q =
      ap₂
      (λ (x y : Bool). cond x
      (cond y (on_server e (servers.taken e.server (take n m))) (on_client e (o.line - 1) (changed_by (client_on e o) o.verb (take n m))))
      (record { refusal = r; ends = e }))
      (sym p) (sym q)
      ∙ ap (delivered e o) pb

  -- what cannot be sent
  pub turned_unsent : (r : Refusal) (m : List ℕ) → answered (Err r) m ≡ sent_by e.server (client_on e o) o.line o.verb room
      → (q : Result ⊤ Refusal) → IsErrAnd q (λ y. y ≡ r) → done_of q e ≡ ordered e o
  turned_unsent r m pb q h =
      ap (λ (x : Result ⊤ Refusal). done_of x e) (passed_on q r h)
      ∙ by (number r) 0 m pb false (goes_up o.verb) (ne_eqb (number r) 0 (number_some r)) refl

  module _ (n : ℕ) (m : List ℕ) (pb : answered (Ok n) m ≡ sent_by e.server (client_on e o) o.line o.verb room) where
    pub sent_within : n ≤ length m
    sent_within = subst Written (sym pb) (wrote_within e.server (client_on e o) o.line o.verb room)

    module _ (h : goes_up o.verb ≡ true) (s : Server) where
      pub turned_server : (k : Report) → answer_of (Ok k) s ≡ servers.taken e.server (take n m)
          → ◌≡◌ {A = Done} (record { refusal = 0; ends = record { server = s; clients = e.clients } }) (ordered e o)
      turned_server k p = ap (on_server e) p ∙ by 0 n m pb true true refl h

      pub turned_server_no : (r : Refusal) → answer_of (Err r) s ≡ servers.taken e.server (take n m)
          → (q : Result ⊤ Refusal) → IsErrAnd q (λ y. y ≡ r) → done_of q (record { server = s; clients = e.clients }) ≡ ordered e o
      turned_server_no r p q i =
          ap (λ (x : Result ⊤ Refusal). done_of x (record { server = s; clients = e.clients })) (passed_on q r i)
          ∙ ap (on_server e) p ∙ by 0 n m pb true true refl h

    -- the client of its line, at whatever default it was read
    pub turned_client : goes_up o.verb ≡ false → (d : Client) → o.line - 1 < length e.clients → (q : Result ⊤ Refusal) (c : Client)
        → Answers q c (changed_by (get_or e.clients (o.line - 1) d) o.verb (take n m))
        → done_of q (record { server = e.server; clients = set e.clients (o.line - 1) c }) ≡ ordered e o
    turned_client h d small q c p =
        ap₂ (λ (r : ℕ) (x : Client). record { refusal = r; ends = record { server = e.server; clients = set e.clients (o.line - 1) x } }) p.0 p.1
        ∙ ap (λ (x : Client). on_client e (o.line - 1) (changed_by x o.verb (take n m))) (get_or_default e.clients (o.line - 1) d (client.store models.no_client) small)
        ∙ by 0 n m pb true false refl h
