-- What a call over lent bytes answers, by the call on the server that was read from them.
use Prim.Native.Nat.{ℕ, ◌/◌, ◌%◌, ◌≤◌, ◌<◌}
use native.Mathlib.Omega.{arith}
use mathlib.Core.Path.{◌≡◌, refl, ap, sym, ◌∙◌}
use mathlib.Core.Bool.{Bool, true, false, ◌&&◌, cond}
use mathlib.Core.List.{List, [], ◌∷◌, ◌++◌}
use lib.Dec.{leb}
use lib.ListN.{length, drop}
use borrow.Author.Tests.{lt-leb}
use Rattle.std.specs.Prelude.{Result, Ok, Err, ⊤, IsErrAnd}
use Rattle.refusal.specs.declared.Refusal.{Refusal}
use Rattle.refusal.specs.Number.{number}
use Rattle.refusal.proofs.Some.{number_some}
use Rattle.limits.specs.Limits.{max_lines, max_initial}
use Rattle.wire.specs.declared.Message.TheVariants.{Ack}
use Rattle.model.specs.Questions as model
use Rattle.model.specs.Server as server
use Rattle.model.proofs.Tests.{never}
use Rattle.line.specs.Sending as sent
use Rattle.line.specs.Taking.{done_of}
use Rattle.server.specs.declared.Server.{Server}
use Rattle.server.specs.View.{view, sound}
use Rattle.server.specs.Answers.{guarded, guarded_sending, opened, sent_edit, sent_ack}
use Rattle.c_layout.specs.Words.{words_of, items_of}
use Rattle.c_layout.specs.Called.{Called, packed, called, done}
use Rattle.c_layout.proofs.Called.{items_count, open_cut, open_whole, sent_few, Guarded, sent_fits, changed_no, changed_done, said}
use Rattle.c_layout.proofs.Counts.{lines_length}
use Rattle.c_server.specs.Layout.{size, bytes_in, end_in}
use Rattle.c_server.specs.Reading.{capped_end}
use Rattle.c_server.specs.Calls.{returned, answered, opened_in}
use Rattle.c_server.proofs.Capped.{sound_same, sound_capped}

pub eight : (end : List ℕ) → length (end_in end).counts.lines ≡ max_lines
unfolding end_in
eight end = lines_length (words_of end) _ max_lines

pub unsound : (s : Server) (a : model.Answer server.Server) → sound s ≡ false → guarded s a ≡ record { refusal = 2; end = s; report = model.no_report }
unfolding guarded
unsound s a no' = rw no'

pub sends_is : (s : Server) (m : model.Sent) (out : List ℕ) → guarded_sending s m out ≡ cond (sound s) m (record { refusal = 2; written = 0; buffer = out })
unfolding guarded_sending
sends_is s m out = refl

abbrev pub servers : Guarded Server server.Server
servers =
    record {
      size = size;
      sound = sound;
      view = view;
      end_in = end_in;
      as_read = capped_end;
      bytes_in = bytes_in;
      read_sound = λ end. sound_capped (end_in end) (eight end);
      sound_read = λ end. sound_same (end_in end) (eight end);
      guarded = guarded;
      sends = guarded_sending;
      unsound = unsound;
      sends_is = sends_is;
    }

module _ (c : Server) (line : ℕ) (out : List ℕ) (n : ℕ) (after : List ℕ) where
  pub edit_fits : (number : ℕ) → sent.answered (Ok n) after ≡ sent_edit c line number out → n ≤ 17
  unfolding server.send_server
  edit_fits number =
      sent_fits servers c (server.send_server (view c) line number out) out n after
      (sent_few (model.asks (server.send_server_questions (view c) line number out)) (server.server_message (view c) line number) out)

  pub ack_fits : sent.answered (Ok n) after ≡ sent_ack c line out → n ≤ 17
  unfolding server.tell_server
  ack_fits =
      sent_fits servers c (server.tell_server (view c) line out) out n after
      (sent_few (model.asks (server.tell_server_questions (view c) line out)) (Ack line 1 (server.line_of (view c) line).taken) out)

-- ---- opening

module _ (end : List ℕ) (n : ℕ) (ranks items : List ℕ) (long : size ≤ length end) where
  abbrev rest : Called
  rest = answered (opened n ranks (items_of items)) end

  pub opened_cut : (r : ℕ) → (length items % 4 ≡ 0 → ⊥) → r ≡ packed 1 0 → returned r end ≡ opened_in end n ranks items
  unfolding opened_in
  opened_cut = open_cut size end items rest long

  pub opened_whole : (r : ℕ) (after : List ℕ) → length items % 4 ≡ 0 → returned r after ≡ rest → returned r after ≡ opened_in end n ranks items
  unfolding opened_in
  opened_whole r after even e = e ∙ open_whole size end items rest long even

  and_no : (a b : Bool) → b ≡ false → (a && (b && true)) ≡ false
  and_no a true e = never (sym e)
  and_no true false e = refl
  and_no false false e = refl

  pub opened_many : (r : ℕ) → length items % 4 ≡ 0 → max_initial < length items / 4 → r ≡ packed 1 0 → returned r end ≡ opened_in end n ranks items
  unfolding answered server.open_server model.answer
  opened_many r even h e =
      let its = items_of items in
      let no' : model.every (model.between 1 max_lines n ∷ leb (length its) max_initial ∷ []) ≡ false =
      and_no (model.between 1 max_lines n) (leb (length its) max_initial) (lt-leb (length its) max_initial (omega (arith, items_count items even))) in
      let told : called 1 0 end ≡ rest = rw no' in
      opened_whole r end even (ap (λ (k : ℕ). returned k end) e ∙ told)

  -- the items as they were decoded
  module _ (even : length items % 4 ≡ 0) (list : List ℕ) (el : list ≡ items_of items) where
    from_items : (a : model.Answer Server) (r : ℕ) (after : List ℕ) → a ≡ opened n ranks list → returned r after ≡ answered a end
        → returned r after ≡ opened_in end n ranks items
    from_items a r after ea er = opened_whole r after even (er ∙ ap (λ (b : model.Answer Server). answered b end) (ea ∙ ap (opened n ranks) el))

    pub opened_refused : (r : Refusal) (new : Server) → done_of (Err r) new ≡ opened n ranks list → (q : Result ⊤ Refusal) → IsErrAnd q (λ y. y ≡ r)
        → returned (done q) end ≡ opened_in end n ranks items
    unfolding answered
    opened_refused r new ea q e =
        from_items (done_of (Err r) new) (done q) end ea
        (changed_no size (number r) model.no_report (bytes_in new) end (done q) (number_some r) (omega (arith, said done (λ x. refl) q r e)))

    pub opened_done : (new : Server) (after : List ℕ) → done_of (Ok tt) new ≡ opened n ranks list → after ≡ bytes_in new ++ drop size end
        → returned 0 after ≡ opened_in end n ranks items
    unfolding answered
    opened_done new after ea eb =
        from_items (done_of (Ok tt) new) 0 after ea (changed_done size 0 model.no_report (bytes_in new) end 0 after refl refl eb)
