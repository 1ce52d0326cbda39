-- Sending: what is refused and what is written is what the model refuses and writes.
use Prim.Native.Nat.{ℕ}
use mathlib.Core.Path.{◌≡◌, ap, ◌∙◌, sym}
use mathlib.Core.Bool.{Bool, true, false, cond}
use mathlib.Core.List.{List, [], ◌∷◌}
use lib.Dec.{leb, eqb}
use lib.ListN.{length}
use borrow.Author.Tests.{eq-eqb, ne_eqb}
use Rattle.std.specs.Prelude.{Result, Err, IsErrAnd}
use Rattle.refusal.specs.declared.Refusal.{Refusal}
use Rattle.refusal.specs.declared.Refusal.TheVariants as refusal
use Rattle.refusal.specs.Number.{number as code}
use Rattle.refusal.proofs.Some.{number_some, passed_on}
use Rattle.wire.specs.declared.Message.{Message}
use Rattle.wire.specs.declared.Message.TheVariants as message
use Rattle.wire.specs.Bytes.{bytes_of}
use Rattle.model.specs.Questions as model
use Rattle.model.specs.Line.{line_message, send_questions}
use Rattle.model.specs.Client.{sound_client, client_message, send_client_questions, send_client, tell_client}
use Rattle.line.specs.Keeping.{then_asked}
use Rattle.line.proofs.Parts.{then_yes, then_no}
use Rattle.line.specs.Sending.{answered, number_asked, finished}
use Rattle.line.proofs.Sends.{send_asked_lem, refused_sent}
use Rattle.client.specs.declared.Client.{Client}
use Rattle.client.specs.View.{slots_in, view, sound, Sound, SaysUnsound}
use Rattle.client.specs.Answers.{guarded_sending, sent_edit, sent_ack}

pub unsound_sending : (c : Client) (a : model.Sent) (lent : List ℕ) → sound c ≡ false
    → record { refusal = 2; written = 0; buffer = lent } ≡ guarded_sending c a lent
unfolding guarded_sending
unsound_sending c a lent h = rw h

pub sound_sending : (c : Client) (a : model.Sent) (lent : List ℕ) → sound c ≡ true → a ≡ guarded_sending c a lent
unfolding guarded_sending
sound_sending c a lent h = rw h

-- the refusal of question 2 is handed on
pub unsound_sent : (c : Client) (a : model.Sent) (lent : List ℕ) (r : Refusal) → SaysUnsound c r → (q : Result ℕ Refusal) → IsErrAnd q (λ y. y ≡ r)
    → answered q lent ≡ guarded_sending c a lent
unsound_sent c a lent r u q h =
    ap (λ (x : Result ℕ Refusal). answered x lent) (passed_on q r h ∙ ap Err u.0) ∙ unsound_sending c a lent u.1

-- questions 2 and 4 at a sound client, and those that follow
module _ (c : Client) (s : Sound c) (line : ℕ) (rest : List model.Question) where
  abbrev pub questions : List model.Question
  questions = model.ask 2 (sound_client (view c)) ∷ model.ask 4 (eqb line c.counts.line) ∷ rest

  asked : (b : Bool) → eqb line c.counts.line ≡ b → cond b (model.asks rest) 4 ≡ model.asks questions
  asked b e = λ i. cond (sym s.model i) (cond (sym e i) (model.asks rest) 4) 2

  pub other_line : (line ≡ c.counts.line → ⊥) → 4 ≡ model.asks questions
  other_line n = asked false (ne_eqb line c.counts.line n)

  pub own_line : line ≡ c.counts.line → model.asks rest ≡ model.asks questions
  own_line e = asked true (eq-eqb line c.counts.line e)

-- ---- a pending edit

module _ (c : Client) (s : Sound c) (line number : ℕ) (lent : List ℕ) where
  abbrev bytes : List ℕ
  bytes = bytes_of (client_message (view c) number)

  abbrev line_questions : List model.Question
  line_questions = send_questions (view c).own number (client_message (view c) number) lent

  abbrev fit : List model.Question
  fit = model.ask 14 (leb (length bytes) (length lent)) ∷ []

  in_parts : model.asks line_questions ≡ then_asked (model.asks (number_asked c.counts.own number)) (model.asks fit)
  in_parts = send_asked_lem c.counts.own (slots_in c.words) number (client_message (view c) number) lent

  send_refused : (r : Refusal) → code r ≡ model.asks (send_client_questions (view c) line number lent) → answered (Err r) lent ≡ sent_edit c line number lent
  unfolding send_client
  send_refused r e =
      refused_sent r bytes lent ∙ ap (λ (q : ℕ). model.sent q bytes lent) e
      ∙ sound_sending c (send_client (view c) line number lent) lent s.yes

  pub send_other : (line ≡ c.counts.line → ⊥) → answered (Err refusal.WrongLine) lent ≡ sent_edit c line number lent
  send_other n = send_refused refusal.WrongLine (other_line c s line line_questions n)

  module _ (e : line ≡ c.counts.line) where
    pub send_number : (r : Refusal) → code r ≡ model.asks (number_asked c.counts.own number) → (q : Result ℕ Refusal) → IsErrAnd q (λ y. y ≡ r)
        → answered q lent ≡ sent_edit c line number lent
    send_number r er q h =
        ap (λ (x : Result ℕ Refusal). answered x lent) (passed_on q r h)
        ∙ send_refused r
        (er ∙ sym (then_no (model.asks (number_asked c.counts.own number)) (model.asks fit) (λ z. number_some r (er ∙ z)))
        ∙ sym in_parts ∙ own_line c s line line_questions e)

    pub sent_edit_lem : 0 ≡ model.asks (number_asked c.counts.own number) → (m : Message) → m ≡ line_message line 0 (record { line = line; number = number }) (view c).own number → finished m lent ≡ sent_edit c line number lent
    unfolding send_client
    sent_edit_lem z m em =
        ap (λ (x : Message). finished x lent) (em ∙ ap (λ (l : ℕ). line_message l 0 (record { line = l; number = number }) (view c).own number) e)
        ∙ ap (λ (q : ℕ). model.sent q bytes lent)
        (sym (then_yes (model.asks (number_asked c.counts.own number)) (model.asks fit) (sym z)) ∙ sym in_parts ∙ own_line c s line line_questions e)
        ∙ sound_sending c (send_client (view c) line number lent) lent s.yes

-- ---- an acknowledgement

module _ (c : Client) (s : Sound c) (line : ℕ) (lent : List ℕ) where
  abbrev ack : ℕ → Message
  ack l = message.Ack l 0 c.counts.own.taken

  abbrev room : List model.Question
  room = model.ask 14 (leb 5 (length lent)) ∷ []

  pub tell_other : (line ≡ c.counts.line → ⊥) → answered (Err refusal.WrongLine) lent ≡ sent_ack c line lent
  unfolding tell_client
  tell_other n =
      refused_sent refusal.WrongLine (bytes_of (ack c.counts.line)) lent
      ∙ ap (λ (q : ℕ). model.sent q (bytes_of (ack c.counts.line)) lent) (other_line c s line room n)
      ∙ sound_sending c (tell_client (view c) line lent) lent s.yes

  pub sent_ack_lem : line ≡ c.counts.line → finished (ack line) lent ≡ sent_ack c line lent
  unfolding tell_client bytes_of
  sent_ack_lem e =
      ap (λ (l : ℕ). finished (ack l) lent) e
      ∙ ap (λ (q : ℕ). model.sent q (bytes_of (ack c.counts.line)) lent) (own_line c s line room e)
      ∙ sound_sending c (tell_client (view c) line lent) lent s.yes
