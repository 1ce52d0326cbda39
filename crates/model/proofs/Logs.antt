-- What a call leaves of the log, whatever the sheet: an edit that is made, and a client that makes and takes nothing.
use mathlib.Core.Path.{◌≡◌, refl, ap, ◌∙◌, subst}
use mathlib.Core.Bool.{Bool, true, false, not, cond}
use mathlib.Core.Option.{Option, none, some}
use mathlib.Core.List.{List, [], ◌∷◌}
use Prim.Native.Nat.{ℕ, zero, suc, ◌≤◌}
use native.Mathlib.Omega.{arith}
use lib.Dec.{ltb, eqb}
use lib.ListN.{length, get_elem?}
use borrow.Author.Tests.{eqb-true, eqb-false, eq-eqb, not-true}
use Rattle.ot.specs.Edit as edit
use Rattle.ot.specs.Edit.{Edit, fits}
use Rattle.jupiter.specs.Algebra.{Algebra}
use Rattle.jupiter.specs.Made.{Made, holds, select}
use Rattle.jupiter.specs.Form.{form, in_order}
use Rattle.jupiter.specs.Run.{Message, up, down, up_ack, down_ack}
use Rattle.jupiter.specs.History.{History, at, order, new_edit}
use Rattle.jupiter.proofs.Lists.{All}
use Rattle.jupiter.proofs.Forms.{form_made}
use Rattle.model.specs.Questions.{asks, between}
use Rattle.model.specs.Packets.{known}
use Rattle.model.specs.Ranks.{rank_of}
use Rattle.model.specs.Inverse.{inverse_of}
use Rattle.model.specs.Edits.{Named, applied_named, edits}
use Rattle.model.specs.Sheet.{Sheet, Call, insert, delete, take_back, send, tell, receive, pack, packet, junk}
use Rattle.model.specs.Log.{Log, set_of, named_by, hears, hearing, edited, took, took_first, took_packet, logged, refused_log, log}
use Rattle.model.specs.Numbers.{editing, undoing, number}
use Rattle.model.specs.Run.{State, callable, handed, packet_of, call, number_of, run}
use Rattle.model.specs.Consequences.{edit_of, spared_by}
use Rattle.model.proofs.Tests.{never, three, and_left, and_right, yes_all, between_true}
use Rattle.model.proofs.Table.{cond_ne}

-- ---- an edit is made

-- what passes a test, passes it
selected : {𝓐 : Algebra} (p : Made 𝓐 → Bool) (xs : List (Made 𝓐)) → All (λ x. p x ≡ true) (select p xs)
unfolding select
selected p [] = tt
selected p (x ∷ xs) = go (p x) refl (selected p xs)
  where
    go : (b : Bool) → p x ≡ b → All (λ y. p y ≡ true) (select p xs) → All (λ y. p y ≡ true) (cond b (x ∷ select p xs) (select p xs))
    go true e ih = (e, ih)
    go false e ih = ih

-- An edit is made in its form at what its client has applied: all of that is in its context.
pub made_form : {𝓐 : Algebra} (h : History 𝓐) (l : ℕ) (e : 𝓐.Edit) → form (new_edit h l e) (in_order (order h l) (h.applied l)) ≡ e
unfolding in_order
made_form h l e = form_made (new_edit h l e) (in_order (order h l) (h.applied l)) (selected (λ x. holds (new_edit h l e).context x.name) (order h l))

-- the set of a client: what it has applied, in order
pub client_set : {𝓐 : Algebra} (h : History 𝓐) (k : ℕ) (e : Made 𝓐) (x : 𝓐.Edit) → 1 ≤ k → form e (in_order (order h k) (h.applied k)) ≡ x → form e (set_of h k) ≡ x
unfolding set_of
client_set h zero e x a q = absurd (omega arith)
client_set h (suc k) e x a q = q

pub at_same : {A : Type 0} (l : ℕ) (v : A) (f : ℕ → A) → at l v f l ≡ v
at_same l v f = rw (eq-eqb l l refl)

module _ {ranks : List ℕ} (w : Log ranks) (l : ℕ) (e : Edit) where
  -- its client shows the list with the edit applied as it was made
  pub edited_shows : 1 ≤ l → (edited w l e).shown l ≡ applied_named (named_by w l e) (w.shown l)
  edited_shows lo =
      let new = new_edit w.history l (named_by w l e) in
      at_same l (applied_named (form new (set_of w.history l)) (w.shown l)) w.shown
      ∙ ap (λ (d : Named). applied_named d (w.shown l)) (client_set w.history l new (named_by w l e) lo (made_form w.history l (named_by w l e)))

  -- and would take it back by its inverse
  pub edited_undo : (edited w l e).undo l ≡ inverse_of (rank_of ranks l) (w.shown l) e
  edited_undo = at_same l (inverse_of (rank_of ranks l) (w.shown l) e) w.undo

-- what a call of client l that is not refused makes: an edit that fits
pub record Makes {ranks : List ℕ} (n : ℕ) (w : Log ranks) (l : ℕ) (c : Call) : Type 0 where
  pub edit : Edit
  pub leaves : log w c 0 ≡ edited w l edit
  pub fit : fits edit (length (w.shown l)) ≡ true

fits_by : {ranks : List ℕ} (w : Log ranks) (l : ℕ) (e : Edit) → asks (editing w l e) ≡ 0 → fits e (length (w.shown l)) ≡ true
fits_by w l e z = and_left (fits e (length (w.shown l))) _ (yes_all (editing w l e) (omega arith) z).0

pub makes : {ranks : List ℕ} (n : ℕ) (w : Log ranks) (l : ℕ) (c : Call) → edit_of l c ≡ true → number n w c ≡ 0 → Makes n w l c
unfolding log logged number
makes {ranks} n w l (insert j p x) e z = subst (λ (i : ℕ). Makes n w i (insert j p x)) (eqb-true j l e) (record { edit = edit.Insert p x (rank_of ranks j); leaves = refl; fit = fits_by w j (edit.Insert p x (rank_of ranks j)) z })
makes n w l (delete j p) e z = subst (λ (i : ℕ). Makes n w i (delete j p)) (eqb-true j l e) (record { edit = edit.Delete p; leaves = refl; fit = fits_by w j (edit.Delete p) z })
makes n w l (take_back j) e z =
    let y = yes_all (undoing w j) (omega arith) z in
    subst (λ (i : ℕ). Makes n w i (take_back j)) (eqb-true j l e) (record { edit = w.undo j; leaves = refl; fit = and_left (fits (w.undo j) (length (w.shown j))) _ y.1.0 })
makes n w l (send a j k lent) e z = never e
makes n w l (tell a j lent) e z = never e
makes n w l (receive a i) e z = never e
makes n w l (pack a j offset lent) e z = never e
makes n w l (packet a is tail) e z = never e
makes n w l (junk a bytes) e z = never e

-- the line of such a call is one of the sheet's
pub edits_line : (n l : ℕ) (c : Call) → edit_of l c ≡ true → callable n c ≡ true → (1 ≤ l) × (l ≤ n)
unfolding callable
edits_line n l (insert j p x) e ok = subst (λ (i : ℕ). (1 ≤ i) × (i ≤ n)) (eqb-true j l e) (between_true 1 n j (three (between 1 n j) (ltb p 65536) (ltb x 4294967296) ok).0)
edits_line n l (delete j p) e ok = subst (λ (i : ℕ). (1 ≤ i) × (i ≤ n)) (eqb-true j l e) (between_true 1 n j (and_left (between 1 n j) (ltb p 65536) ok))
edits_line n l (take_back j) e ok = subst (λ (i : ℕ). (1 ≤ i) × (i ≤ n)) (eqb-true j l e) (between_true 1 n j ok)
edits_line n l (send a j k lent) e ok = never e
edits_line n l (tell a j lent) e ok = never e
edits_line n l (receive a i) e ok = never e
edits_line n l (pack a j offset lent) e ok = never e
edits_line n l (packet a is tail) e ok = never e
edits_line n l (junk a bytes) e ok = never e

-- ---- a client makes and takes nothing

-- the list that client l shows, and what taking back makes there, are as they were
pub record Spared {ranks : List ℕ} (l : ℕ) (w w' : Log ranks) : Type 0 where
  pub shown : w'.shown l ≡ w.shown l
  pub undo : w'.undo l ≡ w.undo l

spared_none : {ranks : List ℕ} (l : ℕ) (w : Log ranks) → Spared l w w
spared_none l w = record { shown = refl; undo = refl }

-- a test that says no
apart : (i j : ℕ) → not (eqb i j) ≡ true → i ≡ j → ⊥
apart i j t = eqb-false i j (not-true (eqb i j) t)

module _ {ranks : List ℕ} (l : ℕ) (w : Log ranks) where
  either : (b : Bool) (u v : Log ranks) → (b ≡ true → Spared l w u) → Spared l w v → Spared l w (cond b u v)
  either true u v f g = f refl
  either false u v f g = g

  heard_spares : (heard : ℕ → ℕ → ℕ) → Spared l w (hears w heard)
  heard_spares heard = record { shown = refl; undo = refl }

  edited_spares : (j : ℕ) (e : Edit) → (j ≡ l → ⊥) → Spared l w (edited w j e)
  edited_spares j e d = record { shown = cond_ne j l _ (w.shown l) d; undo = cond_ne j l _ (w.undo l) d }

  -- another end takes something
  took_spares : (a : ℕ) (x : Option (Message (edits ranks))) → (a ≡ l → ⊥) → Spared l w (took w a x)
  unfolding took
  took_spares a none d = heard_spares w.heard
  took_spares a (some (up j m)) d =
      either (eqb a 0) _ _ (λ e. record { shown = cond_ne 0 l _ (w.shown l) (λ z. d (eqb-true a 0 e ∙ z)); undo = refl }) (heard_spares w.heard)
  took_spares a (some (down j m)) d =
      either (eqb a j) _ _
      (λ e.
      let other : j ≡ l → ⊥ = λ z. d (eqb-true a j e ∙ z) in
      record { shown = cond_ne j l _ (w.shown l) other; undo = cond_ne j l _ (w.undo l) other })
      (heard_spares w.heard)
  took_spares a (some (up_ack j seen)) d = either (eqb a 0) _ _ (λ e. heard_spares (hearing w 0 j seen)) (heard_spares w.heard)
  took_spares a (some (down_ack j seen)) d = either (eqb a j) _ _ (λ e. heard_spares (hearing w j j seen)) (heard_spares w.heard)

  -- a call that spares client l leaves both, refused or not
  log_spares : (c : Call) (cs : List Call) (r : ℕ) → spared_by l (c ∷ cs) ≡ true → Spared l w (log w c r)
  unfolding spared_by log logged refused_log
  log_spares (insert j p x) cs r e = either (eqb r 0) _ _ (λ z. edited_spares j _ (apart j l (and_left (not (eqb j l)) (spared_by l cs) e))) (heard_spares w.heard)
  log_spares (delete j p) cs r e = either (eqb r 0) _ _ (λ z. edited_spares j _ (apart j l (and_left (not (eqb j l)) (spared_by l cs) e))) (heard_spares w.heard)
  log_spares (take_back j) cs r e = either (eqb r 0) _ _ (λ z. edited_spares j _ (apart j l (and_left (not (eqb j l)) (spared_by l cs) e))) (heard_spares w.heard)
  log_spares (send a j k lent) cs r e = either (eqb r 0) _ _ (λ z. record { shown = refl; undo = refl }) (spared_none l w)
  log_spares (tell a j lent) cs r e = either (eqb r 0) _ _ (λ z. record { shown = refl; undo = refl }) (spared_none l w)
  log_spares (receive a i) cs r e = either (eqb r 0) _ _ (λ z. took_spares a (get_elem? w.messages i) (apart a l (and_left (not (eqb a l)) (spared_by l cs) e))) (heard_spares w.heard)
  log_spares (pack a j offset lent) cs r e = either (eqb r 0) _ _ (λ z. record { shown = refl; undo = refl }) (spared_none l w)
  log_spares (packet a is tail) cs r e = either (eqb r 0) _ _ (λ z. spared_none l w) (spared_none l w)
  log_spares (junk a bytes) cs r e = either (eqb r 0) _ _ (λ z. heard_spares w.heard) (heard_spares w.heard)

-- another end takes messages of a packet
first_spares : {ranks : List ℕ} (l a : ℕ) → (a ≡ l → ⊥) → (k : ℕ) (is : List ℕ) (w : Log ranks) → Spared l w (took_first w a k is)
unfolding took_first
first_spares l a d zero is w = spared_none l w
first_spares l a d (suc k) [] w = spared_none l w
first_spares l a d (suc k) (i ∷ is) w =
    let one = took_spares l w a (get_elem? w.messages i) d in
    let rest = first_spares l a d k is (took w a (get_elem? w.messages i)) in
    record { shown = rest.shown ∙ one.shown; undo = rest.undo ∙ one.undo }

packet_spares : {ranks : List ℕ} (l a : ℕ) → (a ≡ l → ⊥) → (k : ℕ) (is : List ℕ) (w : Log ranks) → Spared l w (took_packet w a k is)
packet_spares l a d k is w = let all = first_spares l a d k is w in record { shown = all.shown; undo = all.undo }

-- the calls behind it spare the client too
spared_rest : (l : ℕ) (c : Call) (cs : List Call) → spared_by l (c ∷ cs) ≡ true → spared_by l cs ≡ true
unfolding spared_by
spared_rest l (insert j p x) cs e = and_right (not (eqb j l)) (spared_by l cs) e
spared_rest l (delete j p) cs e = and_right (not (eqb j l)) (spared_by l cs) e
spared_rest l (take_back j) cs e = and_right (not (eqb j l)) (spared_by l cs) e
spared_rest l (send a j k lent) cs e = e
spared_rest l (tell a j lent) cs e = e
spared_rest l (receive a i) cs e = and_right (not (eqb a l)) (spared_by l cs) e
spared_rest l (pack a j offset lent) cs e = e
spared_rest l (packet a is tail) cs e = and_right (not (eqb a l)) (spared_by l cs) e
spared_rest l (junk a bytes) cs e = e

module _ (S : Sheet) {ranks : List ℕ} where
  -- an edit, or a taking back, is logged by its number
  pub edit_logs : (s : State S ranks) (l : ℕ) (c : Call) → edit_of l c ≡ true → (call S s c).recorded ≡ log s.recorded c (number_of S s c)
  unfolding call number_of
  edit_logs s l (insert j p x) e = refl
  edit_logs s l (delete j p) e = refl
  edit_logs s l (take_back j) e = refl
  edit_logs s l (send a j k lent) e = never e
  edit_logs s l (tell a j lent) e = never e
  edit_logs s l (receive a i) e = never e
  edit_logs s l (pack a j offset lent) e = never e
  edit_logs s l (packet a is tail) e = never e
  edit_logs s l (junk a bytes) e = never e

  -- a call writes to the log by the number that it is answered with, a packet by how many messages were taken; where no such message was
  -- written, there is no call
  logs_as : (P : Log ranks → Type 0) (s : State S ranks) (c : Call) → P s.recorded → ((r : ℕ) → P (log s.recorded c r))
      → ((a : ℕ) (is tail : List ℕ) → c ≡ packet a is tail → (k : ℕ) (js : List ℕ) → P (took_packet s.recorded a k js)) → P (call S s c).recorded
  unfolding call handed
  logs_as P s (insert j p x) same f g = f (S.insert (s.ends j) p x).refusal
  logs_as P s (delete j p) same f g = f (S.delete (s.ends j) p).refusal
  logs_as P s (take_back j) same f g = f (S.take_back (s.ends j)).refusal
  logs_as P s (send a j k lent) same f g = f (S.send (s.ends a) j k lent).refusal
  logs_as P s (tell a j lent) same f g = f (S.tell (s.ends a) j lent).refusal
  logs_as P s (receive a i) same f g = go (get_elem? s.messages i)
    where
      go : (m : Option (List ℕ)) → P (handed S s a (receive a i) m).recorded
      go none = same
      go (some b) = f (S.take (s.ends a) b).refusal
  logs_as P s (pack a j offset lent) same f g = f (S.pack (s.ends a) j lent offset).refusal
  logs_as P s (packet a is tail) same f g = g a is tail refl (S.take_packet (s.ends a) (packet_of S s is tail)).report.passed (known (length s.messages) is)
  logs_as P s (junk a bytes) same f g = f (S.take (s.ends a) bytes).refusal

  pub run_spares : (n l : ℕ) (calls : List Call) (s : State S ranks) → spared_by l calls ≡ true → Spared l s.recorded (run S n s calls).recorded
  unfolding run spared_by
  run_spares n l [] s e = spared_none l s.recorded
  run_spares n l (c ∷ cs) s e =
      let one = go (callable n c) in
      let rest = run_spares n l cs (cond (callable n c) (call S s c) s) (spared_rest l c cs e) in
      record { shown = rest.shown ∙ one.shown; undo = rest.undo ∙ one.undo }
    where
      go : (b : Bool) → Spared l s.recorded (cond {A = State S ranks} b (call S s c) s).recorded
      go true = logs_as (Spared l s.recorded) s c (spared_none l s.recorded) (λ r. log_spares l s.recorded c cs r e)
          (λ a is tail z k js. packet_spares l a (apart a l (and_left (not (eqb a l)) (spared_by l cs) (subst (λ (d : Call). spared_by l (d ∷ cs) ≡ true) z e))) k js s.recorded)
      go false = spared_none l s.recorded
