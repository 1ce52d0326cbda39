-- What a call on a packet over lent bytes answers, by the call on the end that was read from them. Over either end.
use Prim.Native.Nat.{ℕ, ◌%◌, ◌≤◌, ◌<◌}
use native.Mathlib.Omega.{arith}
use mathlib.Core.Path.{◌≡◌, refl, ap, ap₂, sym, ◌∙◌}
use mathlib.Core.List.{List, ◌++◌}
use lib.ListN.{length, drop}
use Rattle.std.specs.Prelude.{Result, Ok, Err, IsErrAnd}
use Rattle.std.proofs.lemmas.Result.{err_from_is_err_and}
use Rattle.refusal.specs.declared.Refusal.{Refusal}
use Rattle.refusal.specs.declared.Refusal.TheVariants.{TooShort}
use Rattle.refusal.specs.Number.{number}
use Rattle.refusal.proofs.Some.{number_some}
use Rattle.model.specs.Questions.{Answer, Report, no_report}
use Rattle.model.specs.Packets as model
use Rattle.model.specs.Packets.{next_size, unpacked}
use Rattle.line.specs.declared.taking.Stopped.{Stopped}
use Rattle.line.specs.Taking.{packet_of}
use Rattle.wire_packet.specs.Packet.{message_taken}
use Rattle.wire_packet.proofs.Handing.{packet_unsound, message_unsound}
use Rattle.c_layout.specs.Called.{Called, packed, packed_read, counted, laid_out, returned, taking_some, taking_one}
use Rattle.c_layout.proofs.Called.{Guarded, too_short, same_answer, one_read, some_none, some_taken, one_no, one_done}
use Rattle.c_packet.specs.Calls.{taken_by}
use Rattle.c_packet.proofs.Sizes.{size_read}

-- question 18, which a packet asks before its first message
pub packet_short : (size : ℕ) (end : List ℕ) (rest : Called) (r : Refusal) → (length end < size) × (r ≡ TooShort) → (q : Result ℕ Stopped)
    → IsErrAnd q (λ s. (s.refusal ≡ r) × (s.taken ≡ 0)) → returned (counted q) end ≡ laid_out size end end rest
packet_short size end rest r h q e =
    let p = err_from_is_err_and q e in
    too_short size end end rest (counted q) h.0
    (ap counted p.1 ∙ ap₂ (λ (x : Refusal) (n : ℕ). packed (number x) n) (p.2.0 ∙ h.1) p.2.1)

module _ {E M : Type 0} (k : Guarded E M) (taking : E → List ℕ → Answer E)
    (end : List ℕ) (e : E) (h : (k.size ≤ length end) × (e ≡ k.as_read (k.end_in end))) (packet : List ℕ) where
  -- a packet
  abbrev some : Answer E → Called
  some a = taking_some k.size a.refusal a.report (k.bytes_in a.end) end

  abbrev answer_of : E → Answer E
  answer_of c = unpacked k.sound taking c packet

  abbrev pub packet_whole : Called
  packet_whole = laid_out k.size end end (some (answer_of (k.end_in end)))

  packet_called : (a : Answer E) (r : ℕ) (after : List ℕ) → a ≡ answer_of e → returned r after ≡ some a → returned r after ≡ packet_whole
  packet_called a r after ea er =
      er ∙ ap some ea ∙ same_answer k end e h (λ c. some (answer_of c)) end (λ c no'. ap some (sym (packet_unsound k.sound taking c packet no')))

  -- no message was taken, or some were
  pub packet_kept : (q : Result ℕ Stopped) (new : E) → packet_of q new ≡ answer_of e → taken_by q ≡ 0 → returned (counted q) end ≡ packet_whole
  packet_kept (Ok n) new ea z =
      packet_called (packet_of (Ok n) new) (packed 0 n) end ea (some_none k.size 0 (model.counted n) (k.bytes_in new) end (packed 0 n) z (omega arith))
  packet_kept (Err s) new ea z =
      packet_called (packet_of (Err s) new) (packed (number s.refusal) s.taken) end ea
      (some_none k.size (number s.refusal) (model.counted s.taken) (k.bytes_in new) end (packed (number s.refusal) s.taken) z (omega arith))

  pub packet_written : (q : Result ℕ Stopped) (new : E) (after : List ℕ) → packet_of q new ≡ answer_of e → (taken_by q ≡ 0 → ⊥)
      → after ≡ k.bytes_in new ++ drop k.size end → returned (counted q) after ≡ packet_whole
  packet_written (Ok n) new after ea z eb =
      packet_called (packet_of (Ok n) new) (packed 0 n) after ea (some_taken k.size 0 (model.counted n) (k.bytes_in new) end (packed 0 n) after z (omega arith) eb)
  packet_written (Err s) new after ea z eb =
      packet_called (packet_of (Err s) new) (packed (number s.refusal) s.taken) after ea
      (some_taken k.size (number s.refusal) (model.counted s.taken) (k.bytes_in new) end (packed (number s.refusal) s.taken) after z (omega arith) eb)

  -- one message of it
  module _ (at : ℕ) (long : (c : E) (m : List ℕ) → 17 < length m → (taking c m).refusal ≡ 0 → ⊥) where
    abbrev one : ℕ → Answer E → Called
    one read a = taking_one k.size a.refusal a.report read (k.bytes_in a.end) end

    abbrev message_of : E → Answer E
    message_of c = message_taken k.sound taking c packet at

    abbrev size : ℕ
    size = next_size (drop at packet)

    abbrev pub message_whole : Called
    message_whole = laid_out k.size end end (one size (message_of (k.end_in end)))

    message_called : (a : Answer E) (read r : ℕ) (after : List ℕ) → a ≡ message_of e → read ≡ size % 256 → returned r after ≡ one read a
        → returned r after ≡ message_whole
    message_called b read r after eb es er =
        let a = message_of e in
        er ∙ ap (one read) eb ∙ one_read k.size a.refusal a.report (k.bytes_in a.end) end read size (λ z. es ∙ size_read k.sound taking long e packet at z)
        ∙ same_answer k end e h (λ c. one size (message_of c)) end (λ c no'. ap (one size) (sym (message_unsound k.sound taking c packet at no')))

    pub message_refused : (r : Refusal) (new : E) (n : ℕ) → record { refusal = number r; end = new; report = no_report } ≡ message_of e
        → n ≡ packed (number r) 0 → returned n end ≡ message_whole
    message_refused r new n ea en =
        message_called (record { refusal = number r; end = new; report = no_report }) (size % 256) n end ea refl
        (one_no k.size (number r) no_report (k.bytes_in new) end n (size % 256) (number_some r) (omega (arith, en)))

    pub message_done : (new : E) (report : Report) (read : ℕ) (after : List ℕ) → record { refusal = 0; end = new; report = report } ≡ message_of e
        → read ≡ size % 256 → after ≡ k.bytes_in new ++ drop k.size end → returned (packed_read 0 report read) after ≡ message_whole
    message_done new report read after ea es eb =
        message_called (record { refusal = 0; end = new; report = report }) read (packed_read 0 report read) after ea es
        (one_done k.size 0 report (k.bytes_in new) end (packed_read 0 report read) read after refl refl eb)
