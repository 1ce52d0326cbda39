-- Every command keeps the ends sound.
use Prim.Native.Nat.{ℕ, zero, suc, ◌-◌, ◌<◌, ◌≤◌}
use mathlib.Core.Path.{◌≡◌, refl, sym, ap, ◌∙◌}
use mathlib.Core.Bool.{true}
use mathlib.Core.List.{List, [], ◌∷◌, map}
use native.Mathlib.Omega.{arith}
use borrow.Author.Tests.{leb-true}
use lib.Dec.{leb, eqb}
use lib.ListN.{length, get_or, set, take, length-set}
use Rattle.std.specs.Prelude.{Option, Some, None}
use Rattle.wire.specs.declared.Message.{Message}
use Rattle.wire.specs.declared.Message.TheVariants as message
use Rattle.wire.specs.Bytes.{parsed}
use Rattle.model.specs.Questions.{every, asks, between, Report, no_report, Answer, answer, Sent}
use Rattle.model.specs.Ranks.{line_ranks}
use Rattle.model.specs.Client.{Client, no_client, sound_client, insert_client, delete_client, send_client, tell_client, take_client}
use Rattle.model.specs.Server.{Server, no_server, open_server_questions, open_server, send_server, tell_server, take_server, server_reads, server_takes, server_takes_edit, server_takes_ack}
use Rattle.model.specs.Limits.{max_lines, max_initial}
use Rattle.model.proofs.Tests.{hold, yes_all, between_true}
use Rattle.model.proofs.Ranks.{line_ranking}
use Rattle.model.proofs.Opens.{fresh_server, client_opens, server_opens}
use Rattle.model.proofs.Sound.{accepted, keeps_sound}
use Rattle.sheet_text.specs.Command.{Command, Bad, Insert, Delete, Up, Down, Ack, Told}
use Rattle.sheet_ends.specs.Bench.{Bench, Step, SoundBench, client_of, on_client, on_server, delivered, room, step, open_clients, open_bench}
use Rattle.sheet_print.proofs.Sinks.{both, and_left, and_right}

-- a property of both ends that an answer may hand back
pub ends : {E : Type 0} (P : E → Type 0) (r : ℕ) (old new : E) (k : Report) → P old → P new → P (answer r old new k).end
unfolding answer
ends {E} P r old new k p q = both (λ (a : Answer E). P a.end) (eqb r 0) (record { refusal = 0; end = new; report = k }) (record { refusal = r; end = old; report = no_report }) q p

abbrev SameN : Server → Server → Type 0
SameN s t = t.n ≡ s.n

takes_n : (s : Server) (m : Message) → SameN s (server_takes s m).end
unfolding server_takes_edit server_takes_ack
takes_n s (message.Insert h p x r) = ends (SameN s) _ _ _ _ refl refl
takes_n s (message.Delete h p) = ends (SameN s) _ _ _ _ refl refl
takes_n s (message.Nothing h) = ends (SameN s) _ _ _ _ refl refl
takes_n s (message.Ack l d k) = ends (SameN s) _ _ _ _ refl refl

reads_n : (s : Server) (r : Option Message) → SameN s (server_reads s r).end
reads_n s None = ends (SameN s) _ _ _ _ refl refl
reads_n s (Some m) = takes_n s m

take_n : (s : Server) (bytes : List ℕ) → SameN s (take_server s bytes).end
unfolding take_server
take_n s bytes = reads_n s (parsed bytes)

-- one of several, and one replaced
pub every_at : (l : List Client) (i : ℕ) → every (map sound_client l) ≡ true → i < length l → sound_client (get_or l i no_client) ≡ true
every_at [] i h small = absurd (omega arith)
every_at (c ∷ l) zero h small = and_left (sound_client c) (every (map sound_client l)) h
every_at (c ∷ l) (suc i) h small = every_at l i (and_right (sound_client c) (every (map sound_client l)) h) (omega arith)

every_set : (l : List Client) (i : ℕ) (x : Client) → every (map sound_client l) ≡ true → (i < length l → sound_client x ≡ true) → every (map sound_client (set l i x)) ≡ true
every_set [] i x h good = h
every_set (c ∷ l) zero x h good = rw (good (omega arith)) (and_right (sound_client c) (every (map sound_client l)) h)
every_set (c ∷ l) (suc i) x h good =
    rw (and_left (sound_client c) (every (map sound_client l)) h)
    (every_set l i x (and_right (sound_client c) (every (map sound_client l)) h) (λ small. good (omega arith)))

module _ (b : Bench) (g : SoundBench b) where
  -- a call on a client that keeps a sound client sound
  on_client_lem : (l : ℕ) (a : Answer Client) → (sound_client (client_of b l) ≡ true → sound_client a.end ≡ true) → SoundBench (on_client b l a).bench
  on_client_lem l a keeps =
      record {
        server = g.server;
        clients = every_set b.clients (l - 1) a.end g.clients (λ small. keeps (every_at b.clients (l - 1) g.clients small));
        count = length-set b.clients (l - 1) a.end ∙ g.count;
      }

  on_server_lem : (bytes : List ℕ) → SoundBench (on_server b (take_server b.server bytes)).bench
  on_server_lem bytes =
      record {
        server = keeps_sound.server_takes_lem b.server bytes g.server;
        clients = g.clients;
        count = g.count ∙ sym (take_n b.server bytes);
      }

  sent_on : (m : Sent) (taking : List ℕ → Step) → ((bytes : List ℕ) → SoundBench (taking bytes).bench) → SoundBench (delivered b m taking).bench
  sent_on m taking h =
      both (λ (s : Step). SoundBench s.bench) (eqb m.refusal 0) (taking (take m.written m.buffer)) (record { refusal = m.refusal; bench = b })
      (h (take m.written m.buffer)) g

  taken_on : (l : ℕ) (bytes : List ℕ) → SoundBench (on_client b l (take_client (client_of b l) bytes)).bench
  taken_on l bytes = on_client_lem l (take_client (client_of b l) bytes) (keeps_sound.client_takes_lem (client_of b l) bytes)

  up : (m : Sent) → SoundBench (delivered b m (λ bytes. on_server b (take_server b.server bytes))).bench
  up m = sent_on m (λ bytes. on_server b (take_server b.server bytes)) on_server_lem

  down : (l : ℕ) (m : Sent) → SoundBench (delivered b m (λ bytes. on_client b l (take_client (client_of b l) bytes))).bench
  down l m = sent_on m (λ bytes. on_client b l (take_client (client_of b l) bytes)) (taken_on l)

  pub step_sound : (c : Command) → SoundBench (step b c).bench
  unfolding step
  step_sound Bad = g
  step_sound (Insert l p x) = on_client_lem l (insert_client (client_of b l) p x) (keeps_sound.inserts (client_of b l) p x)
  step_sound (Delete l p) = on_client_lem l (delete_client (client_of b l) p) (keeps_sound.deletes (client_of b l) p)
  step_sound (Up l k) = up (send_client (client_of b l) l k room)
  step_sound (Down l k) = down l (send_server b.server l k room)
  step_sound (Ack l) = up (tell_client (client_of b l) l room)
  step_sound (Told l) = down l (tell_server b.server l room)

-- What opening a server says of its questions.
pub opened : (n : ℕ) (ranks items : List ℕ) → (open_server n ranks items).refusal ≡ 0 → (1 ≤ n) × (n ≤ 8) × (length items ≤ 128)
unfolding open_server
opened n ranks items e =
    let r = asks (open_server_questions n ranks items) in
    let z : r ≡ 0 = accepted r no_server (fresh_server n ranks items) no_report e in
    let h = hold (between 1 max_lines n ∷ leb (length items) max_initial ∷ []) (yes_all (open_server_questions n ranks items) (omega arith) z).0 in
    let few = between_true 1 max_lines n h.0 in
    (few.0, few.1, leb-true (length items) max_initial h.1.0)

module _ (n : ℕ) (items : List ℕ) (low : 1 ≤ n) (high : n ≤ 8) (short : length items ≤ 128) where
  clients_sound : (k : ℕ) → k ≤ n → every (map sound_client (open_clients n items k)) ≡ true
  clients_sound zero h = refl
  clients_sound (suc k) h =
      rw (keeps_sound.opens_client n (n - k) (line_ranks n) items
      (ap (λ (a : Answer Client). a.refusal) (client_opens n (n - k) (line_ranks n) items low high (omega arith) (omega arith) short (line_ranking n))))
      (clients_sound k (omega arith))

  clients_count : (k : ℕ) → length (open_clients n items k) ≡ k
  clients_count zero = refl
  clients_count (suc k) = ap suc (clients_count k)

  opens : open_server n (line_ranks n) items ≡ record { refusal = 0; end = fresh_server n (line_ranks n) items; report = no_report }
  opens = server_opens n (line_ranks n) items low high short (line_ranking n)

  pub open_sound : SoundBench (open_bench n items)
  open_sound =
      record {
        server = keeps_sound.opens_server n (line_ranks n) items (ap (λ (a : Answer Server). a.refusal) opens);
        clients = clients_sound n (omega arith);
        count = clients_count n ∙ sym (ap (λ (a : Answer Server). a.end.n) opens);
      }
