-- A call on the struct of a sound end: it answers what the model answers, stored.
use Prim.Native.Nat.{ℕ}
use mathlib.Core.Path.{◌≡◌, refl, sym, ap, ◌∙◌}
use mathlib.Core.Bool.{Bool, true, false, cond}
use mathlib.Core.List.{List}
use borrow.Author.Tests.{eqb-false}
use lib.Dec.{eqb}
use Rattle.std.specs.Prelude.{Option, Some, None}
use Rattle.ot.specs.Edit.{Edit}
use Rattle.wire.specs.declared.Message.{Message}
use Rattle.wire.specs.declared.Message.TheVariants as message
use Rattle.wire.specs.Bytes.{parsed}
use Rattle.model.specs.Questions.{Report, no_report, Answer, answer, Sent}
use Rattle.model.specs.Client as models
use Rattle.model.specs.Server as server_models
use Rattle.client.specs.declared.Client.{Client}
use Rattle.client.specs.View as client
use Rattle.client.specs.Answers as clients
use Rattle.client.proofs.Stored.{client_view, client_stored}
use Rattle.server.specs.declared.Server.{Server}
use Rattle.server.specs.View as server
use Rattle.server.specs.Answers as servers
use Rattle.server.proofs.Stored.{view_store, store_sound}

-- ---- a refusal hands back the end as it came

abbrev pub Keeps : {E : Type 0} → E → Answer E → Type 0
Keeps m a = (a.refusal ≡ 0 → ⊥) → a.end ≡ m

keeps : {E : Type 0} (r : ℕ) (old new : E) (k : Report) → Keeps old (answer r old new k)
unfolding answer
keeps {E} r old new k = go (eqb r 0)
  where
    go : (t : Bool) → Keeps old (cond {A = Answer E} t (record { refusal = 0; end = new; report = k }) (record { refusal = r; end = old; report = no_report }))
    go true no0 = absurd (no0 refl)
    go false no0 = refl

pub edit_keeps : (m : models.Client) (e : Edit) → Keeps m (models.edit_client m e)
unfolding models.edit_client
edit_keeps m e = keeps _ m _ _

client_reads_lem : (m : models.Client) (r : Option Message) → Keeps m (models.client_reads m r)
unfolding models.client_takes_edit models.client_takes_ack
client_reads_lem m None = keeps _ m m no_report
client_reads_lem m (Some (message.Insert h p x q)) = keeps _ m _ _
client_reads_lem m (Some (message.Delete h p)) = keeps _ m _ _
client_reads_lem m (Some (message.Nothing h)) = keeps _ m _ _
client_reads_lem m (Some (message.Ack l d s)) = keeps _ m _ _

pub client_keeps : (m : models.Client) (bytes : List ℕ) → Keeps m (models.take_client m bytes)
unfolding models.take_client
client_keeps m bytes = client_reads_lem m (parsed bytes)

server_reads_lem : (m : server_models.Server) (r : Option Message) → Keeps m (server_models.server_reads m r)
unfolding server_models.server_takes_edit server_models.server_takes_ack
server_reads_lem m None = keeps _ m m no_report
server_reads_lem m (Some (message.Insert h p x q)) = keeps _ m _ _
server_reads_lem m (Some (message.Delete h p)) = keeps _ m _ _
server_reads_lem m (Some (message.Nothing h)) = keeps _ m _ _
server_reads_lem m (Some (message.Ack l d s)) = keeps _ m _ _

server_keeps : (m : server_models.Server) (bytes : List ℕ) → Keeps m (server_models.take_server m bytes)
unfolding server_models.take_server
server_keeps m bytes = server_reads_lem m (parsed bytes)

pub open_keeps : (n l : ℕ) (ranks items : List ℕ) → Keeps models.no_client (models.open_client n l ranks items)
unfolding models.open_client
open_keeps n l ranks items = keeps _ models.no_client _ _

-- the struct of an answer's end
pub end_stored : {E F : Type 0} (store : E → F) (m : E) (a : Answer E) → Keeps m a → cond (eqb a.refusal 0) (store a.end) (store m) ≡ store a.end
end_stored {E} {F} store m a h = go (eqb a.refusal 0) refl
  where
    go : (t : Bool) → eqb a.refusal 0 ≡ t → cond {A = F} t (store a.end) (store m) ≡ store a.end
    go true e = refl
    go false e = ap store (sym (h (eqb-false a.refusal 0 e)))

-- ---- a client

module _ (m : models.Client) (s : models.sound_client m ≡ true) where
  pub client_answers : (call : models.Client → Answer models.Client) → Keeps m (call m)
      → clients.guarded (client.store m) (call (client.view (client.store m))) ≡ record { refusal = (call m).refusal; end = client.store (call m).end; report = (call m).report }
  unfolding clients.guarded
  client_answers call h =
      ap (λ (b : Bool). cond b (clients.given (client.store m) (call (client.view (client.store m)))) (clients.refused_with 2 (client.store m))) (client_stored m s)
      ∙ ap (λ (v : models.Client). clients.given (client.store m) (call v)) (client_view m s)
      ∙ ap (λ (c : Client). record { refusal = (call m).refusal; end = c; report = (call m).report }) (end_stored client.store m (call m) h)

  pub client_sends : (call : models.Client → Sent) (lent : List ℕ) → clients.guarded_sending (client.store m) (call (client.view (client.store m))) lent ≡ call m
  unfolding clients.guarded_sending
  client_sends call lent =
      ap (λ (b : Bool). cond b (call (client.view (client.store m))) (record { refusal = 2; written = 0; buffer = lent })) (client_stored m s)
      ∙ ap call (client_view m s)

-- ---- the server

module _ (m : server_models.Server) (s : server_models.sound_server m ≡ true) where
  pub server_answers : (bytes : List ℕ)
      → servers.taken (server.store m) bytes
      ≡ record { refusal = (server_models.take_server m bytes).refusal; end = server.store (server_models.take_server m bytes).end; report = (server_models.take_server m bytes).report }
  unfolding servers.guarded
  server_answers bytes =
      ap (λ (b : Bool). cond b (servers.given (server.store m) (server_models.take_server (server.view (server.store m)) bytes)) (servers.refused_with 2 (server.store m))) (store_sound m s)
      ∙ ap (λ (v : server_models.Server). servers.given (server.store m) (server_models.take_server v bytes)) (view_store m s)
      ∙ ap (λ (c : Server). record { refusal = (server_models.take_server m bytes).refusal; end = c; report = (server_models.take_server m bytes).report })
      (end_stored server.store m (server_models.take_server m bytes) (server_keeps m bytes))

  pub server_sends : (call : server_models.Server → Sent) (lent : List ℕ) → servers.guarded_sending (server.store m) (call (server.view (server.store m))) lent ≡ call m
  unfolding servers.guarded_sending
  server_sends call lent =
      ap (λ (b : Bool). cond b (call (server.view (server.store m))) (record { refusal = 2; written = 0; buffer = lent })) (store_sound m s)
      ∙ ap call (view_store m s)
