-- The structs follow the model call by call, so that the claim holds of them.
use mathlib.Core.Path.{◌≡◌, refl, ap, ◌∙◌}
use mathlib.Core.Bool.{true}
use Prim.Native.Nat.{ℕ, ◌-◌}
use lib.ListN.{get_or-map}
use Rattle.list.specs.Seconds.{running_time}
use Rattle.list.proofs.Pad.{pad_get_or}
use Rattle.model.specs.Line.{no_line}
use Rattle.model.specs.Client as model
use Rattle.model.specs.Server as models
use Rattle.model.specs.Ours as ours
use Rattle.model.proofs.Tests.{hold}
use Rattle.model.proofs.Sound.{keeps_sound}
use Rattle.model.proofs.Alone.{edit_back, undo_back, client_alone, server_alone}
use Rattle.model.proofs.Converges as model_converges
use Rattle.line.specs.Line.{counts_of}
use Rattle.client.specs.declared.Client.{Client}
use Rattle.client.specs.View as client_view
use Rattle.client.specs.Answers as client
use Rattle.client.proofs.Stored as client_stored
use Rattle.server.specs.declared.Server.{Server}
use Rattle.server.specs.View as server_view
use Rattle.server.specs.Answers as server
use Rattle.server.proofs.Stored as server_stored
use Rattle.convergence.specs.Built.{client_calls, server_calls, built, Claimed, BuiltCarried}
use Rattle.convergence.proofs.Carry.{carries, carried_by}
use Rattle.convergence.proofs.Pairs.{on_line, line_alone, edits_alone, ClientFollows, Both, follows}
use Rattle.convergence.proofs.Small.{client_open_small, client_take_small, client_pack_little, client_send_little, client_tell_little}
use Rattle.convergence.proofs.Small.{server_open_small, server_take_small, server_pack_little, server_send_little, server_tell_little}
use Rattle.convergence.proofs.Stored.{Stored, Stands, Modelled, alike, answer_back, stored_alone, stored_follows}

-- ---- the client's calls

pub client_sound : (c : Client) → client_view.sound c ≡ true → model.sound_client (client_view.view c) ≡ true
unfolding client_view.sound
client_sound c e = (hold (client_view.sound_tests c) e).0

abbrev pub clients : Stored Client model.Client
clients =
    record {
      view = client_view.view;
      store = client_view.store;
      sound = client_view.sound;
      sound_end = model.sound_client;
      nothing = client_view.store model.no_client;
      view_store = client_stored.client_view;
      store_sound = client_stored.client_stored;
      sound_view = client_sound;
    }

pub client_modelled : (l : ℕ) → Modelled (on_line l client_calls) (on_line l ours.client_calls) clients
unfolding model.packet_client
client_modelled l =
    record {
      items = λ m s. ap (λ (v : model.Client). v.items) (client_stored.client_view m s);
      total = λ m s. refl;
      made = λ m s j. refl;
      taken = λ m s j. refl;
      opens_sound = λ n. keeps_sound.opens_client n l;
      takes_sound = keeps_sound.client_takes_lem;
      packets = λ m bytes. refl;
      alone = line_alone l ours.client_calls client_alone;
      opens = λ n. client_open_small n l;
      takes = client_take_small;
      packs = client_pack_little;
      sends = client_send_little;
      tells = client_tell_little;
    }

client_follows : ClientFollows client_calls ours.client_calls (Stands clients)
unfolding client.guarded client.guarded_sending
client_follows =
    record {
      end = λ l. stored_follows (on_line l client_calls) (on_line l ours.client_calls) clients (client_modelled l);
      inserts = λ c m r p x. alike clients c m r (λ v. model.insert_client v p x) (edit_back m _) (keeps_sound.inserts m p x r.1);
      deletes = λ c m r p. alike clients c m r (λ v. model.delete_client v p) (edit_back m _) (keeps_sound.deletes m p r.1);
      takes_back = λ c m r. alike clients c m r model.take_back_client (undo_back m) (keeps_sound.takes_back m r.1);
      alone = edits_alone 0 client_calls (stored_alone (on_line 0 client_calls) (on_line 0 ours.client_calls) clients (client_modelled 0))
          (λ c p x. answer_back clients c _ (edit_back (client_view.view c) _)) (λ c p. answer_back clients c _ (edit_back (client_view.view c) _)) (λ c. answer_back clients c _ (undo_back (client_view.view c)));
    }

-- ---- the server's calls

pub server_sound : (s : Server) → server_view.sound s ≡ true → models.sound_server (server_view.view s) ≡ true
unfolding server_view.sound
server_sound s e = (hold (server_view.sound_tests s) e).0

abbrev pub servers : Stored Server models.Server
servers =
    record {
      view = server_view.view;
      store = server_view.store;
      sound = server_view.sound;
      sound_end = models.sound_server;
      nothing = server_view.store models.no_server;
      view_store = server_stored.view_store;
      store_sound = server_stored.store_sound;
      sound_view = server_sound;
    }

-- the numbers of a line stand at its place
server_line : (m : models.Server) (l : ℕ) → server_view.counts_at (server_view.store m).counts (l - 1) ≡ counts_of (models.line_of m l)
unfolding server_view.store
server_line m l = get_or-map counts_of (server_view.all_lines m) (l - 1) no_line ∙ ap counts_of (pad_get_or 8 no_line m.lines (l - 1))

server_total : (m : models.Server) → (server_view.store m).counts.total ≡ running_time m.items
unfolding server_view.store
server_total m = refl

pub server_modelled : Modelled server_calls ours.server_calls servers
unfolding server_view.view models.packet_server
server_modelled =
    record {
      items = λ m s. ap (λ (v : models.Server). v.items) (server_stored.view_store m s);
      total = λ m s. server_total m;
      made = λ m s l. ap (λ v. v.made) (server_line m l);
      taken = λ m s l. ap (λ v. v.taken) (server_line m l);
      opens_sound = keeps_sound.opens_server;
      takes_sound = keeps_sound.server_takes_lem;
      packets = λ m bytes. refl;
      alone = server_alone;
      opens = server_open_small;
      takes = server_take_small;
      packs = server_pack_little;
      sends = server_send_little;
      tells = server_tell_little;
    }

-- ---- the claim

pub claimed : Claimed
unfolding server.guarded server.guarded_sending
claimed =
    carries built ours.ours (Both client_calls ours.client_calls server_calls ours.server_calls (Stands clients) (Stands servers))
    (follows client_calls ours.client_calls server_calls ours.server_calls (Stands clients) (Stands servers) client_follows
    (stored_follows server_calls ours.server_calls servers server_modelled) (stored_alone server_calls ours.server_calls servers server_modelled))
    model_converges.converges

pub carried : BuiltCarried
carried = carried_by built ours.ours claimed model_converges.converges
