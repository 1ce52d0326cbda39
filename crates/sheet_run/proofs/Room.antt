-- How long an output can be.
use Prim.Native.Nat.{ℕ, zero, suc, ◌+◌, ◌*◌, ◌/◌, ◌%◌, ◌<◌, ◌≤◌}
use mathlib.Core.Path.{◌≡◌, refl, sym, ap, ◌∙◌, subst}
use mathlib.Core.Bool.{Bool, true, false, ◌&&◌, cond}
use mathlib.Core.List.{List, [], ◌∷◌, ◌++◌, map}
use native.Mathlib.Omega.{arith}
use borrow.Author.Tests.{ltb-false, eqb-true, eqb-false, leb-true}
use lib.Dec.{leb, ltb, eqb}
use lib.ListN.{length, take, drop, length-append}
use lib.Seq.{take_all, take_at}
use Rattle.std.specs.Prelude.{Option, Some, None}
use Rattle.list.specs.Places.{items_of}
use Rattle.list.proofs.Places.{items_length}
use Rattle.wire.specs.declared.Message.{Message}
use Rattle.wire.specs.declared.Message.TheVariants as message
use Rattle.wire.specs.Bytes.{parsed}
use Rattle.model.specs.Questions.{Question, ask, every, asks, Report, no_report, Answer, answer, Sent, sent}
use Rattle.model.specs.Client.{Client, own_rank, sound_client, edit_questions, edit_client, send_client_questions, tell_client_questions, client_edit_questions, client_ack_questions, send_client, tell_client, take_client, client_reads, client_takes, client_takes_edit, client_takes_ack}
use Rattle.model.specs.Ranks.{line_ranks}
use Rattle.model.specs.Server.{Server, sound_server, open_server_questions, open_server, send_server_questions, tell_server_questions, server_edit_questions, server_ack_questions, send_server, tell_server, take_server, server_reads, server_takes, server_takes_edit, server_takes_ack}
use Rattle.model.proofs.SoundClient.{client_facts}
use Rattle.model.proofs.SoundServer.{server_facts}
use Rattle.sheet_text.specs.Command.{Command}
use Rattle.sheet_text.specs.Command as command
use Rattle.ot.specs.Edit.{Edit}
use Rattle.ot.specs.Edit.{Nothing, Delete, Insert}
use Rattle.sheet_text.specs.Text.{joined, parts, lines_of}
use Rattle.sheet_print.specs.Decimal.{digits, decimal, listed}
use Rattle.sheet_text.specs.Command.{command_of}
use Rattle.sheet_text.specs.Opening.{Opening, none, sheet, opening_of}
use Rattle.sheet_ends.specs.Bench.{Bench, Step, SoundBench, client_of, on_client, on_server, delivered, room, step, open_bench}
use Rattle.sheet_print.specs.Lines.{unknown, server_word, client_word, replied, server_list, client_list}
use Rattle.sheet_run.specs.Output.{long, understood, replies, client_lists, lists, ran, started, printed, output, max_input, max_output, OutputFits, AllPrinted}
use Rattle.sheet_print.proofs.Sinks.{both, and_left, and_right}
use Rattle.sheet_ends.proofs.Benches.{step_sound, opened, open_sound}

-- A number has at most ten digits, a list eleven bytes an item.
digits_length : (k n : ℕ) → length (digits k n) ≤ k + 1
unfolding digits
digits_length zero n = omega arith
digits_length (suc k) n =
    let l = length-append (cond (leb 10 n) (digits k (n / 10)) []) ((48 + n % 10) ∷ []) in
    let h = both (λ (x : List ℕ). length x ≤ k + 1) (leb 10 n) (digits k (n / 10)) [] (digits_length k (n / 10)) (omega arith) in
    omega arith

decimal_length : (n : ℕ) → length (decimal n) ≤ 10
unfolding decimal
decimal_length n = digits_length 9 n

listed_length : (xs : List ℕ) → length (listed xs) ≤ 11 * length xs + 1
unfolding listed
listed_length [] = omega arith
listed_length (x ∷ xs) =
    let l = length-append (32 ∷ decimal x) (listed xs) in
    let d = decimal_length x in
    let h = listed_length xs in
    omega arith

-- Refusals of a command are at most 16, so an answer has at most three bytes.
abbrev small : ℕ → Bool
small r = leb (length (decimal r)) 2

below : (k : ℕ) (P : ℕ → Bool) → Bool
below zero P = true
below (suc k) P = P k && below k P

below_at : (k : ℕ) (P : ℕ → Bool) (r : ℕ) → below k P ≡ true → r < k → P r ≡ true
unfolding below
below_at zero P r h lt = absurd (omega arith)
below_at (suc k) P r h lt = go (eqb r k) refl (λ less. below_at k P r (and_right (P k) (below k P) h) less)
  where
    go : (t : Bool) → eqb r k ≡ t → (r < k → P r ≡ true) → P r ≡ true
    go true e ih = subst (λ x. P x ≡ true) (sym (eqb-true r k e)) (and_left (P k) (below k P) h)
    go false e ih = ih (let d = eqb-false r k e in omega arith)

reply_length : (r : ℕ) → r ≤ 16 → length (replied r) ≤ 3
unfolding below decimal digits
reply_length r h =
    let l = length-append (decimal r) (10 ∷ []) in
    let s = leb-true (length (decimal r)) 2 (below_at 17 small r refl (omega arith)) in
    omega arith

numbered : List Question → Bool
numbered [] = true
numbered (q ∷ qs) = leb q.number 16 && numbered qs

asks_length : (qs : List Question) → numbered qs ≡ true → asks qs ≤ 16
unfolding numbered
asks_length [] h = omega arith
asks_length (q ∷ qs) h =
    both (λ r. r ≤ 16) q.yes (asks qs) q.number (asks_length qs (and_right (leb q.number 16) (numbered qs) h))
    (leb-true q.number 16 (and_left (leb q.number 16) (numbered qs) h))

answer_small : {E : Type 0} (r : ℕ) (old new : E) (k : Report) → r ≤ 16 → (answer r old new k).refusal ≤ 16
unfolding answer
answer_small {E} r old new k h =
    both (λ (a : Answer E). a.refusal ≤ 16) (eqb r 0) (record { refusal = 0; end = new; report = k }) (record { refusal = r; end = old; report = no_report }) (omega arith) h

sent_small : (r : ℕ) (bytes lent : List ℕ) → r ≤ 16 → (sent r bytes lent).refusal ≤ 16
unfolding sent
sent_small r bytes lent h =
    both (λ (a : Sent). a.refusal ≤ 16) (eqb r 0) (record { refusal = 0; written = length bytes; buffer = bytes ++ drop (length bytes) lent })
    (record { refusal = r; written = 0; buffer = lent }) (omega arith) h

edit_small : (c : Client) (e : Edit) → (edit_client c e).refusal ≤ 16
unfolding edit_client numbered
edit_small c e = answer_small _ _ _ _ (asks_length (edit_questions c e) refl)

client_message_small : (c : Client) (m : Message) → (client_takes c m).refusal ≤ 16
unfolding client_takes_edit client_takes_ack numbered
client_message_small c (message.Insert h p x r) = answer_small _ _ _ _ (asks_length (client_edit_questions c h (Insert p x r)) refl)
client_message_small c (message.Delete h p) = answer_small _ _ _ _ (asks_length (client_edit_questions c h (Delete p)) refl)
client_message_small c (message.Nothing h) = answer_small _ _ _ _ (asks_length (client_edit_questions c h Nothing) refl)
client_message_small c (message.Ack l d s) = answer_small _ _ _ _ (asks_length (client_ack_questions c l d s) refl)

client_read_small : (c : Client) (r : Option Message) → (client_reads c r).refusal ≤ 16
unfolding numbered
client_read_small c None = answer_small _ _ _ _ (asks_length (ask 2 (sound_client c) ∷ ask 3 false ∷ []) refl)
client_read_small c (Some m) = client_message_small c m

server_message_small : (s : Server) (m : Message) → (server_takes s m).refusal ≤ 16
unfolding server_takes_edit server_takes_ack numbered
server_message_small s (message.Insert h p x r) = answer_small _ _ _ _ (asks_length (server_edit_questions s h (Insert p x r)) refl)
server_message_small s (message.Delete h p) = answer_small _ _ _ _ (asks_length (server_edit_questions s h (Delete p)) refl)
server_message_small s (message.Nothing h) = answer_small _ _ _ _ (asks_length (server_edit_questions s h Nothing) refl)
server_message_small s (message.Ack l d k) = answer_small _ _ _ _ (asks_length (server_ack_questions s l d k) refl)

server_read_small : (s : Server) (r : Option Message) → (server_reads s r).refusal ≤ 16
unfolding numbered
server_read_small s None = answer_small _ _ _ _ (asks_length (ask 2 (sound_server s) ∷ ask 3 false ∷ []) refl)
server_read_small s (Some m) = server_message_small s m

module _ (b : Bench) where
  delivered_small : (m : Sent) (taking : List ℕ → Step) → m.refusal ≤ 16 → ((bytes : List ℕ) → (taking bytes).refusal ≤ 16) → (delivered b m taking).refusal ≤ 16
  delivered_small m taking h k =
      both (λ (s : Step). s.refusal ≤ 16) (eqb m.refusal 0) (taking (take m.written m.buffer)) (record { refusal = m.refusal; bench = b })
      (k (take m.written m.buffer)) h

  up_small : (m : Sent) → m.refusal ≤ 16 → (delivered b m (λ bytes. on_server b (take_server b.server bytes))).refusal ≤ 16
  unfolding take_server
  up_small m h = delivered_small m (λ bytes. on_server b (take_server b.server bytes)) h (λ bytes. server_read_small b.server (parsed bytes))

  down_small : (l : ℕ) (m : Sent) → m.refusal ≤ 16 → (delivered b m (λ bytes. on_client b l (take_client (client_of b l) bytes))).refusal ≤ 16
  unfolding take_client
  down_small l m h = delivered_small m (λ bytes. on_client b l (take_client (client_of b l) bytes)) h (λ bytes. client_read_small (client_of b l) (parsed bytes))

  step_small : (c : Command) → (step b c).refusal ≤ 16
  unfolding step send_client tell_client send_server tell_server numbered
  step_small command.Bad = omega arith
  step_small (command.Insert l p x) = edit_small (client_of b l) (Insert p x (own_rank (client_of b l)))
  step_small (command.Delete l p) = edit_small (client_of b l) (Delete p)
  step_small (command.Up l k) = up_small (send_client (client_of b l) l k room) (sent_small _ _ _ (asks_length (send_client_questions (client_of b l) l k room) refl))
  step_small (command.Down l k) = down_small l (send_server b.server l k room) (sent_small _ _ _ (asks_length (send_server_questions b.server l k room) refl))
  step_small (command.Ack l) = up_small (tell_client (client_of b l) l room) (sent_small _ _ _ (asks_length (tell_client_questions (client_of b l) l room) refl))
  step_small (command.Told l) = down_small l (tell_server b.server l room) (sent_small _ _ _ (asks_length (tell_server_questions b.server l room) refl))

replies_length : (c : Command) (r : ℕ) → r ≤ 16 → length (replies c r) ≤ 3
replies_length c r h = both (λ (l : List ℕ). length l ≤ 3) (understood c) (replied r) unknown (reply_length r h) (omega arith)

-- The lists of sound ends.
clients_length : (l : ℕ) (cs : List Client) → every (map sound_client cs) ≡ true → length (client_lists l cs) ≤ 5650 * length cs
unfolding client_lists
clients_length l [] h = omega arith
clients_length l (c ∷ cs) h =
    let f = (client_facts c (and_left (sound_client c) (every (map sound_client cs)) h)).items in
    let n = items_length c.items in
    let a = length-append (client_list l (items_of c.items)) (client_lists (suc l) cs) in
    let d = length-append (client_word ++ decimal l) (listed (items_of c.items)) in
    let e = decimal_length l in
    let g = listed_length (items_of c.items) in
    let k = clients_length (suc l) cs (and_right (sound_client c) (every (map sound_client cs)) h) in
    let w = length-append client_word (decimal l) in
    omega arith

lists_length : (b : Bench) → SoundBench b → length (lists b) ≤ 50839
lists_length b g =
    let f = server_facts b.server g.server in
    let few = f.n.1 in
    let items = f.items in
    let n = g.count in
    let long = items_length b.server.items in
    let a = length-append (server_list (items_of b.server.items)) (client_lists 1 b.clients) in
    let d = length-append server_word (listed (items_of b.server.items)) in
    let k = listed_length (items_of b.server.items) in
    let c = clients_length 1 b.clients g.clients in
    omega arith

ran_length : (ls : List (List ℕ)) (b : Bench) → SoundBench b → length (ran b ls) ≤ 3 * length ls + 50839
unfolding ran
ran_length [] b g = lists_length b g
ran_length (line ∷ ls) b g =
    let c = command_of b.server.n line in
    let a = length-append (replies c (step b c).refusal) (ran (step b c).bench ls) in
    let k = replies_length c (step b c).refusal (step_small b c) in
    let h = ran_length ls (step b c).bench (step_sound b g c) in
    omega arith

-- No text has more lines than bytes.
joined_length : (b : ℕ) (l : List (List ℕ)) (n : ℕ) → length l ≤ n → length (joined b l) ≤ suc n
joined_length b [] n h = omega arith
joined_length b (w ∷ ws) n h = omega arith

lines_length : (s : List ℕ) → length (lines_of s) ≤ length s
unfolding parts
lines_length [] = omega arith
lines_length (b ∷ s) =
    both (λ (l : List (List ℕ)). length l ≤ suc (length s)) (eqb b 10) ([] ∷ lines_of s) (joined b (lines_of s))
    (let h = lines_length s in omega arith) (joined_length b (lines_of s) (length s) (lines_length s))

started_length : (o : Opening) (ls : List (List ℕ)) → length (started o ls) ≤ 3 * length ls + 50842
unfolding open_server numbered
started_length none ls = omega arith
started_length (sheet n items) ls = go (eqb (open_server n (line_ranks n) items).refusal 0) refl
  where
    go : (t : Bool) → eqb (open_server n (line_ranks n) items).refusal 0 ≡ t
        → length (cond t (replied 0 ++ ran (open_bench n items) ls) (replied (open_server n (line_ranks n) items).refusal)) ≤ 3 * length ls + 50842
    go true e =
        let q = opened n (line_ranks n) items (eqb-true (open_server n (line_ranks n) items).refusal 0 e) in
        let a = length-append (replied 0) (ran (open_bench n items) ls) in
        let k = reply_length 0 (omega arith) in
        let h = ran_length ls (open_bench n items) (open_sound n items q.0 q.1 q.2) in
        omega arith
    go false e = let k = reply_length (open_server n (line_ranks n) items).refusal (answer_small _ _ _ _ (asks_length (open_server_questions n (line_ranks n) items) refl)) in omega arith

printed_length : (ls : List (List ℕ)) → length (printed ls) ≤ 3 * length ls + 50842
printed_length [] = omega arith
printed_length (line ∷ ls) = let h = started_length (opening_of line) ls in omega arith

pub output_fits : OutputFits
unfolding output
output_fits s = go (ltb max_input (length s)) refl
  where
    go : (t : Bool) → ltb max_input (length s) ≡ t → length (cond t long (printed (lines_of s))) ≤ max_output
    go true e = omega arith
    go false e =
        let few = ltb-false max_input (length s) e in
        let l = lines_length s in
        let h = printed_length (lines_of s) in
        omega arith

pub all_printed : AllPrinted
all_printed s before after n large p =
    let fits = output_fits s in
    let k = p.count in
    let exact : length (output s) ≡ n = omega arith in
    ap (take n) (p.bytes ∙ ap (λ l. l ++ drop n before) (take_all n (output s) (omega arith))) ∙ take_at (output s) (drop n before) n exact
