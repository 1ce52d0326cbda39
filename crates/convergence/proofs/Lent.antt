-- The exported calls follow the structs call by call, so that the claim holds of the lent bytes.
use Prim.Native.Nat.{ℕ, ◌≤◌}
use native.Mathlib.Omega.{arith}
use mathlib.Core.Path.{◌≡◌, sym, subst}
use mathlib.Core.Bool.{Bool, true, cond}
use mathlib.Core.List.{List}
use lib.ListN.{length}
use borrow.Author.Tests.{eq-eqb}
use Rattle.model.specs.Questions.{Answer, Sent}
use Rattle.model.specs.Claim.{Back}
use Rattle.model.specs.SheetOf.{ServerCalls}
use Rattle.model.specs.Client as model
use Rattle.model.specs.Ours as ours
use Rattle.model.proofs.Sound.{keeps_sound}
use Rattle.model.proofs.Alone.{ServerAlone, edit_back, undo_back}
use Rattle.client.specs.declared.Client.{Client}
use Rattle.client.specs.View as client_view
use Rattle.client.specs.Answers as client_answers
use Rattle.client.proofs.Stored.{stored_sizes}
use Rattle.server.specs.declared.Server.{Server}
use Rattle.server.specs.View as server_view
use Rattle.server.specs.Answers as server_answers
use Rattle.server.proofs.Stored.{store_sizes}
use Rattle.c_client.specs.Layout as client_layout
use Rattle.c_client.specs.Calls as client
use Rattle.c_client.proofs.Ends as client_ends
use Rattle.c_server.specs.Layout as server_layout
use Rattle.c_server.specs.Calls as server
use Rattle.c_packet.specs.Calls as packets
use Rattle.c_server.proofs.Ends as server_ends
use Rattle.convergence.specs.Built.{client_calls, server_calls, built}
use Rattle.convergence.specs.Lent.{clients_lent, server_lent, lent, LentCarried}
use Rattle.convergence.proofs.Carry.{EndFollows, carries, carried_by}
use Rattle.convergence.proofs.Pairs.{on_line, edits_alone, ClientFollows, Both, follows}
use Rattle.convergence.proofs.Built.{clients, servers, client_modelled, server_modelled, claimed}
use Rattle.convergence.proofs.Small.{Small, Little, nothing_narrow, edit_small, undo_small}
use Rattle.convergence.proofs.Stored.{Stored, Modelled, given, answer_either, sending_either, answer_back, odd_small, guarded, sends, stored_calls, stored_alone}
use Rattle.convergence.proofs.Unpack.{Form, Fits, Changing, Are, Lendable, call_same, call_back, lent_alone, lent_follows}

-- ---- the calls of the structs, whichever end

module _ {E M : Type 0} (k : Stored E M) (form : Form E) (stored_whole : (m : M) → k.sound_end m ≡ true → form.Whole (k.store m)) where
  given_fits : (e : E) (a : Answer M) → Small a → (a.refusal ≡ 0 → k.sound_end a.end ≡ true) → Fits form.Whole (given k.store e a)
  given_fits e a h s =
      record {
        refusal = h.0;
        report = h.1;
        whole = λ z. subst (λ (t : Bool). form.Whole (cond t (k.store a.end) e)) (sym (eq-eqb a.refusal 0 z)) (stored_whole a.end (s z));
      }

  answer_fits : (e : E) (a : Answer M) → Small a → (k.sound_end (k.view e) ≡ true → k.sound_end a.end ≡ true) → Fits form.Whole (guarded k e a)
  answer_fits e a h s =
      answer_either k (Fits form.Whole) e a (λ t. given_fits e a h (λ z. s (k.sound_view e t)))
      (record { refusal = omega arith; report = nothing_narrow; whole = λ z. absurd (omega arith) })

  changing : (call : M → Answer M) → ((m : M) → Small (call m)) → ((m : M) → Back m (call m))
      → ((m : M) → k.sound_end m ≡ true → k.sound_end (call m).end ≡ true) → Changing form (λ e. guarded k e (call (k.view e)))
  changing call small back keeps =
      record {
        fits = λ e. answer_fits e (call (k.view e)) (small (k.view e)) (keeps (k.view e));
        back = λ e. answer_back k e (call (k.view e)) (back (k.view e));
      }

  sending_little : (e : E) (a : Sent) (out : List ℕ) → Little a → Little (sends k e a out)
  sending_little e a out h = sending_either k Little e a out h (record { refusal = omega arith; written = omega arith })

-- the calls that both ends have can be made in lent bytes
lendable : (v m : ServerCalls) (k : Stored v.Server m.Server) (form : Form v.Server)
    → ((e : m.Server) → k.sound_end e ≡ true → form.Whole (k.store e)) → Modelled v m k → Lendable (stored_calls v m k) form
lendable v m k form whole f =
    record {
      alone = stored_alone v m k f;
      opens = λ n ranks xs. given_fits k form whole k.nothing (m.opens n ranks xs) (f.opens n ranks xs) (f.opens_sound n ranks xs);
      takes = λ e bytes. answer_fits k form whole e (m.take (k.view e) bytes) (f.takes (k.view e) bytes) (f.takes_sound (k.view e) bytes);
      packets = λ e bytes out. odd_small k (stored_calls v m k).take bytes out e;
      packs = λ e l out offset. sending_little k form whole e (m.pack (k.view e) l out offset) out (f.packs (k.view e) l out offset);
      sends = λ e l number out. sending_little k form whole e (m.send (k.view e) l number out) out (f.sends (k.view e) l number out);
      tells = λ e l out. sending_little k form whole e (m.tell (k.view e) l out) out (f.tells (k.view e) l out);
    }

-- ---- the client's calls

abbrev client_form : Form Client
client_form =
    record {
      Whole = λ c. client_layout.Sizes c.counts c.words;
      size = client_layout.size;
      write = client_layout.bytes_in;
      read = client_layout.end_in;
      read_back = client_ends.end_read_back;
      long = client_ends.bytes_size;
    }

stored_whole : (m : model.Client) → model.sound_client m ≡ true → client_form.Whole (client_view.store m)
stored_whole m s = let z = stored_sizes m s in record { words = z.words; ranks = z.ranks }

inserting : (p x : ℕ) → Changing client_form (λ c. client_calls.insert c p x)
unfolding client_answers.guarded
inserting p x = changing clients client_form stored_whole (λ m. model.insert_client m p x) (λ m. edit_small m _) (λ m. edit_back m _) (λ m. keeps_sound.inserts m p x)

deleting : (p : ℕ) → Changing client_form (λ c. client_calls.delete c p)
unfolding client_answers.guarded
deleting p = changing clients client_form stored_whole (λ m. model.delete_client m p) (λ m. edit_small m _) (λ m. edit_back m _) (λ m. keeps_sound.deletes m p)

taking_back_lem : Changing client_form client_calls.take_back
unfolding client_answers.guarded
taking_back_lem = changing clients client_form stored_whole model.take_back_client undo_small undo_back keeps_sound.takes_back

client_lendable : (l : ℕ) → Lendable (on_line l client_calls) client_form
unfolding client_answers.guarded client_answers.guarded_sending
client_lendable l = lendable (on_line l client_calls) (on_line l ours.client_calls) clients client_form stored_whole (client_modelled l)

client_follows : (b : ℕ → List ℕ) → ((l : ℕ) → client_layout.size ≤ length (b l)) → ClientFollows (clients_lent b) client_calls (Are client_form)
unfolding client.opened_in client.inserted_in client.deleted_in client.taken_back_in client.taken_in client.answered client.sent_in client.acknowledged_in packets.client_packed_in packets.client_packet_in packets.client_some
client_follows b h =
    record {
      end = λ l. lent_follows (on_line l client_calls) client_form (client_lendable l) (b l) (h l);
      inserts = λ e c r p x. call_same client_form _ (inserting p x) e c r;
      deletes = λ e c r p. call_same client_form _ (deleting p) e c r;
      takes_back = λ e c r. call_same client_form _ taking_back_lem e c r;
      alone = edits_alone 0 (clients_lent b) (lent_alone (on_line 0 client_calls) client_form (client_lendable 0) (b 0))
          (λ e p x. call_back client_form _ (inserting p x) e) (λ e p. call_back client_form _ (deleting p) e) (λ e. call_back client_form _ taking_back_lem e);
    }

-- ---- the server's calls

abbrev server_form : Form Server
server_form =
    record {
      Whole = λ s. server_view.Sizes s.counts s.words;
      size = server_layout.size;
      write = server_layout.bytes_in;
      read = server_layout.end_in;
      read_back = server_ends.end_read_back;
      long = server_ends.bytes_size;
    }

server_lendable : Lendable server_calls server_form
unfolding server_answers.guarded server_answers.guarded_sending
server_lendable = lendable server_calls ours.server_calls servers server_form store_sizes server_modelled

server_follows : (b : List ℕ) → server_layout.size ≤ length b → EndFollows (server_lent b) server_calls (Are server_form) × ServerAlone (server_lent b)
unfolding server.opened_in server.taken_in server.answered server.sent_in server.acknowledged_in packets.server_packed_in packets.server_packet_in packets.server_some
server_follows b h = (lent_follows server_calls server_form server_lendable b h, lent_alone server_calls server_form server_lendable b)

-- ---- the claim

pub lent_carried : LentCarried
lent_carried cs ss h k =
    let claim =
    carries (lent cs ss) built (Both (clients_lent cs) client_calls (server_lent ss) server_calls (Are client_form) (Are server_form))
    (follows (clients_lent cs) client_calls (server_lent ss) server_calls (Are client_form) (Are server_form) (client_follows cs h) (server_follows ss k).0 (server_follows ss k).1) claimed in
    carried_by (lent cs ss) built claim claimed
