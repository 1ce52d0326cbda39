-- What a call over lent bytes answers, by the call on the client that was read from them.
use Prim.Native.Nat.{ℕ, ◌/◌, ◌%◌, ◌≤◌, ◌<◌}
use native.Mathlib.Omega.{arith}
use mathlib.Core.Path.{◌≡◌, refl, ap, sym, ◌∙◌}
use mathlib.Core.Bool.{Bool, true, false, ◌&&◌, cond}
use mathlib.Core.List.{List, [], ◌∷◌, ◌++◌}
use lib.Dec.{leb}
use lib.ListN.{length, drop}
use borrow.Author.Tests.{lt-leb}
use Rattle.std.specs.Prelude.{Result, Ok, Err, ⊤, IsErrAnd}
use Rattle.refusal.specs.declared.Refusal.{Refusal}
use Rattle.refusal.specs.Number.{number}
use Rattle.refusal.proofs.Some.{number_some}
use Rattle.limits.specs.Limits.{max_lines, max_initial}
use Rattle.wire.specs.declared.Message.TheVariants.{Ack}
use Rattle.model.specs.Questions as model
use Rattle.model.specs.Client as client
use Rattle.model.proofs.Tests.{never}
use Rattle.line.specs.Sending as sent
use Rattle.line.specs.Taking.{done_of}
use Rattle.client.specs.declared.Client.{Client}
use Rattle.client.specs.View.{view, sound}
use Rattle.client.specs.Answers.{guarded, guarded_sending, opened, sent_edit, sent_ack}
use Rattle.c_layout.specs.Words.{items_of}
use Rattle.c_layout.specs.Called.{Called, packed, called, done}
use Rattle.c_layout.proofs.Called.{items_count, open_cut, open_whole, sent_few, Guarded, sent_fits, changed_no, changed_done, said}
use Rattle.c_client.specs.Layout.{size, bytes_in, end_in}
use Rattle.c_client.specs.Reading.{capped_end}
use Rattle.c_client.specs.Calls.{returned, answered, opened_in}
use Rattle.c_client.proofs.Capped.{sound_same, sound_capped}

pub unsound : (c : Client) (a : model.Answer client.Client) → sound c ≡ false → guarded c a ≡ record { refusal = 2; end = c; report = model.no_report }
unfolding guarded
unsound c a s = rw s

pub sends_is : (c : Client) (m : model.Sent) (out : List ℕ) → guarded_sending c m out ≡ cond (sound c) m (record { refusal = 2; written = 0; buffer = out })
unfolding guarded_sending
sends_is c m out = refl

abbrev pub clients : Guarded Client client.Client
clients =
    record {
      size = size;
      sound = sound;
      view = view;
      end_in = end_in;
      as_read = capped_end;
      bytes_in = bytes_in;
      read_sound = λ end. sound_capped (end_in end);
      sound_read = λ end. sound_same (end_in end);
      guarded = guarded;
      sends = guarded_sending;
      unsound = unsound;
      sends_is = sends_is;
    }

module _ (c : Client) (line : ℕ) (out : List ℕ) (n : ℕ) (after : List ℕ) where
  pub edit_fits : (number : ℕ) → sent.answered (Ok n) after ≡ sent_edit c line number out → n ≤ 17
  unfolding client.send_client
  edit_fits number =
      sent_fits clients c (client.send_client (view c) line number out) out n after
      (sent_few (model.asks (client.send_client_questions (view c) line number out)) (client.client_message (view c) number) out)

  pub ack_fits : sent.answered (Ok n) after ≡ sent_ack c line out → n ≤ 17
  unfolding client.tell_client
  ack_fits =
      sent_fits clients c (client.tell_client (view c) line out) out n after
      (sent_few (model.asks (client.tell_client_questions (view c) line out)) (Ack c.counts.line 0 c.counts.own.taken) out)

-- ---- opening

module _ (end : List ℕ) (n line : ℕ) (ranks items : List ℕ) (long : size ≤ length end) where
  abbrev rest : Called
  rest = answered (opened n line ranks (items_of items)) end

  pub opened_cut : (r : ℕ) → (length items % 4 ≡ 0 → ⊥) → r ≡ packed 1 0 → returned r end ≡ opened_in end n line ranks items
  unfolding opened_in
  opened_cut = open_cut size end items rest long

  pub opened_whole : (r : ℕ) (after : List ℕ) → length items % 4 ≡ 0 → returned r after ≡ rest → returned r after ≡ opened_in end n line ranks items
  unfolding opened_in
  opened_whole r after even e = e ∙ open_whole size end items rest long even

  and_no : (a b c : Bool) → c ≡ false → (a && (b && (c && true))) ≡ false
  and_no a b true e = never (sym e)
  and_no true true false e = refl
  and_no true false false e = refl
  and_no false b false e = refl

  pub opened_many : (r : ℕ) → length items % 4 ≡ 0 → max_initial < length items / 4 → r ≡ packed 1 0 → returned r end ≡ opened_in end n line ranks items
  unfolding answered client.open_client model.answer
  opened_many r even h e =
      let its = items_of items in
      let no' : model.every (model.between 1 max_lines n ∷ model.between 1 n line ∷ leb (length its) max_initial ∷ []) ≡ false =
      and_no (model.between 1 max_lines n) (model.between 1 n line) (leb (length its) max_initial) (lt-leb (length its) max_initial (omega (arith, items_count items even))) in
      let told : called 1 0 end ≡ rest = rw no' in
      opened_whole r end even (ap (λ (k : ℕ). returned k end) e ∙ told)

  -- the items as they were decoded
  module _ (even : length items % 4 ≡ 0) (list : List ℕ) (el : list ≡ items_of items) where
    from_items : (a : model.Answer Client) (r : ℕ) (after : List ℕ) → a ≡ opened n line ranks list → returned r after ≡ answered a end
        → returned r after ≡ opened_in end n line ranks items
    from_items a r after ea er = opened_whole r after even (er ∙ ap (λ (b : model.Answer Client). answered b end) (ea ∙ ap (opened n line ranks) el))

    pub opened_refused : (r : Refusal) (new : Client) → done_of (Err r) new ≡ opened n line ranks list → (q : Result ⊤ Refusal) → IsErrAnd q (λ y. y ≡ r)
        → returned (done q) end ≡ opened_in end n line ranks items
    unfolding answered
    opened_refused r new ea q e =
        from_items (done_of (Err r) new) (done q) end ea
        (changed_no size (number r) model.no_report (bytes_in new) end (done q) (number_some r) (omega (arith, said done (λ x. refl) q r e)))

    pub opened_done : (new : Client) (after : List ℕ) → done_of (Ok tt) new ≡ opened n line ranks list → after ≡ bytes_in new ++ drop size end
        → returned 0 after ≡ opened_in end n line ranks items
    unfolding answered
    opened_done new after ea eb =
        from_items (done_of (Ok tt) new) 0 after ea (changed_done size 0 model.no_report (bytes_in new) end 0 after refl refl eb)
