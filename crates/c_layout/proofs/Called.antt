-- The ways in which a call over lent bytes ends, and an answer taken apart.
use Prim.Native.Nat.{ℕ, ◌+◌, ◌*◌, ◌/◌, ◌%◌, ◌≤◌, ◌<◌}
use native.Mathlib.Omega.{arith}
use mathlib.Core.Path.{◌≡◌, refl, ap, ap₂, sym, ◌∙◌, subst}
use mathlib.Core.Bool.{Bool, true, false, cond}
use mathlib.Core.List.{List, ◌++◌}
use lib.Dec.{eqb}
use lib.ListN.{length, drop}
use borrow.Author.Tests.{le-ltb, lt-ltb, ne_eqb, eq-eqb, eqb-true}
use Rattle.wire.specs.declared.Message.{Message}
use Rattle.wire.specs.declared.Message.TheVariants.{Insert, Delete, Nothing, Ack}
use Rattle.wire.specs.Bytes.{bytes_of}
use Rattle.std.specs.Prelude.{Result, Ok, Err, IsErrAnd}
use Rattle.refusal.specs.declared.Refusal.{Refusal}
use Rattle.refusal.specs.declared.Refusal.TheVariants.{TooShort}
use Rattle.refusal.specs.Number.{number}
use Rattle.refusal.proofs.Some.{number_some, passed_on}
use Rattle.model.specs.Questions.{Answer, Report, no_report, Sent, sent}
use Rattle.line.specs.Sending.{answered}
use Rattle.c_layout.specs.Words.{high_first, items_of}
use Rattle.c_layout.specs.Called.{Called, packed, packed_report, packed_read, written, called, returned, laid_out, changing, taking_some, taking_one, opening, sending, refusal_of, count_of, arrived_of, applied_of, read_of, Unpacks, Fits, UnpacksRead}
use Rattle.c_layout.proofs.Words.{words_length}

pub unpacks : Unpacks
unpacks =
    record {
      sent = λ refusal count h h₂. (omega arith, omega arith);
      refusal = λ refusal k h. omega arith;
      count = λ refusal k h h₂. omega arith;
      arrived = λ refusal k h h₂ h₃. omega arith;
      applied = λ refusal k h h₂ h₃ h₄. omega arith;
    }

-- whatever is added from bit 56 on
module _ (refusal : ℕ) (k : Report) (more : ℕ) (small : refusal < 256) where
  abbrev above : ℕ
  above = packed_report refusal k + 72057594037927936 * more

  refusal_under : refusal_of above ≡ refusal
  refusal_under = omega arith

  module _ (f : Fits k) where
    read_above : read_of above ≡ more
    read_above = omega (arith, f.passed, f.arrived, f.applied)

    count_under : count_of above ≡ k.passed
    count_under = omega (arith, f.passed)

    arrived_under : arrived_of above ≡ k.arrived
    arrived_under = omega (arith, f.passed, f.arrived)

    applied_under : applied_of above ≡ k.applied
    applied_under = omega (arith, f.passed, f.arrived, f.applied)

-- what stands there: the bytes read, or 0
read_either : (refusal : ℕ) (k : Report) (read : ℕ) (P : ℕ → Type 0) → ((more : ℕ) → P (packed_report refusal k + 72057594037927936 * more))
    → P (packed_read refusal k read)
read_either refusal k read P each = go (eqb refusal 0)
  where
    go : (b : Bool) → P (packed_report refusal k + cond b (72057594037927936 * read) 0)
    go true = each read
    go false = each 0

pub unpacks_read : UnpacksRead
unpacks_read =
    record {
      read = λ k read f. read_above 0 k read (omega arith) f;
      none = λ refusal k read h n f. rw (ne_eqb refusal 0 n) (read_above refusal k 0 h f);
      refusal = λ refusal k read h. read_either refusal k read (λ a. refusal_of a ≡ refusal) (λ more. refusal_under refusal k more h);
      count = λ refusal k read h f. read_either refusal k read (λ a. count_of a ≡ k.passed) (λ more. count_under refusal k more h f);
      arrived = λ refusal k read h f. read_either refusal k read (λ a. arrived_of a ≡ k.arrived) (λ more. arrived_under refusal k more h f);
      applied = λ refusal k read h f. read_either refusal k read (λ a. applied_of a ≡ k.applied) (λ more. applied_under refusal k more h f);
    }

-- ---- question 18

module _ (size : ℕ) (end out : List ℕ) (rest : Called) where
  pub too_short : (r : ℕ) → length end < size → r ≡ packed 18 0 → returned r out ≡ laid_out size end out rest
  unfolding laid_out
  too_short r h e = ap (λ (n : ℕ). returned n out) e ∙ rw (lt-ltb (length end) size h)

  pub laid : size ≤ length end → rest ≡ laid_out size end out rest
  unfolding laid_out
  laid h = rw (le-ltb (length end) size h)

-- ---- a call that may change its end

module _ (size refusal : ℕ) (report : Report) (new end : List ℕ) where
  pub changed_no : (r : ℕ) → (refusal ≡ 0 → ⊥) → r ≡ packed_report refusal report → returned r end ≡ changing size refusal report new end
  changed_no r n e = ap (λ (k : ℕ). returned k end) e ∙ rw (ne_eqb refusal 0 n)

  pub changed_done : (r : ℕ) (after : List ℕ) → refusal ≡ 0 → r ≡ packed_report 0 report → after ≡ new ++ drop size end
      → returned r after ≡ changing size refusal report new end
  changed_done r after z e ea = ap₂ returned e ea ∙ rw z

-- ---- packets

module _ (size refusal : ℕ) (report : Report) (new end : List ℕ) where
  -- no message was taken, or some were
  pub some_none : (r : ℕ) → report.passed ≡ 0 → r ≡ packed_report refusal report → returned r end ≡ taking_some size refusal report new end
  some_none r z e = ap (λ (k : ℕ). returned k end) e ∙ rw (eq-eqb report.passed 0 z)

  pub some_taken : (r : ℕ) (after : List ℕ) → (report.passed ≡ 0 → ⊥) → r ≡ packed_report refusal report → after ≡ new ++ drop size end
      → returned r after ≡ taking_some size refusal report new end
  some_taken r after n e ea = ap₂ returned e ea ∙ rw (ne_eqb report.passed 0 n)

  -- one message was refused, or taken
  pub one_no : (r read : ℕ) → (refusal ≡ 0 → ⊥) → r ≡ packed_report refusal report → returned r end ≡ taking_one size refusal report read new end
  one_no r read n e = let none : r ≡ packed_report refusal report + 0 = omega (arith, e) in ap (λ (k : ℕ). returned k end) none ∙ rw (ne_eqb refusal 0 n)

  pub one_done : (r read : ℕ) (after : List ℕ) → refusal ≡ 0 → r ≡ packed_read 0 report read → after ≡ new ++ drop size end
      → returned r after ≡ taking_one size refusal report read new end
  one_done r read after z e ea = ap₂ returned e ea ∙ rw z

  -- at a refusal the bytes of the message do not matter
  pub one_read : (n m : ℕ) → (refusal ≡ 0 → n ≡ m) → taking_one size refusal report n new end ≡ taking_one size refusal report m new end
  one_read n m same = go (eqb refusal 0) refl
    where
      if : Bool → ℕ → Called
      if b read = record { answer = packed_report refusal report + cond b (72057594037927936 * read) 0; bytes = cond b (new ++ drop size end) end }

      go : (b : Bool) → eqb refusal 0 ≡ b → if b n ≡ if b m
      go true e = ap (if true) (same (eqb-true refusal 0 e))
      go false e = refl

-- ---- opening

-- how many items the bytes are
pub items_count : (items : List ℕ) → length items % 4 ≡ 0 → length (items_of items) ≡ length items / 4
items_count items even = words_length high_first (length items / 4) items (omega arith)

module _ (size : ℕ) (end items : List ℕ) (rest : Called) (long : size ≤ length end) where
  abbrev asked : Bool → Called
  asked b = laid_out size end end (cond b rest (called 1 0 end))

  pub open_cut : (r : ℕ) → (length items % 4 ≡ 0 → ⊥) → r ≡ packed 1 0 → returned r end ≡ opening size end items rest
  open_cut r h e = ap (λ (k : ℕ). returned k end) e ∙ laid size end end (called 1 0 end) long ∙ ap asked (sym (ne_eqb (length items % 4) 0 h))

  pub open_whole : length items % 4 ≡ 0 → rest ≡ opening size end items rest
  open_whole even = laid size end end rest long ∙ ap asked (sym (eq-eqb (length items % 4) 0 even))

-- ---- sending

sending_is : (s : Result ℕ Refusal) (m : Sent) (after : List ℕ) → answered s after ≡ m → returned (written s) after ≡ sending m
sending_is (Ok n) m after e = ap sending e
sending_is (Err r) m after e = ap sending e

-- a message has at most 17 bytes, so its length fits the answer
message_few : (m : Message) → length (bytes_of m) ≤ 17
unfolding bytes_of
message_few (Insert h p x r) = omega arith
message_few (Delete h p) = omega arith
message_few (Nothing h) = omega arith
message_few (Ack l d s) = omega arith

abbrev pub Few : Sent → Type 0
Few s = s.written ≤ 17

few_either : (b : Bool) (x y : Sent) → Few x → Few y → Few (cond b x y)
few_either true x y p q = p
few_either false x y p q = q

pub sent_few : (r : ℕ) (m : Message) (lent : List ℕ) → Few (sent r (bytes_of m) lent)
unfolding sent
sent_few r m lent =
    few_either (eqb r 0) (record { refusal = 0; written = length (bytes_of m); buffer = bytes_of m ++ drop (length (bytes_of m)) lent })
    (record { refusal = r; written = 0; buffer = lent }) (message_few m) (omega arith)

-- ---- ends as they are read

-- A call that answers the same of every end that is not sound. It answers the same of two ends that are one if question 2 says yes to either.
module _ {E : Type 0} (sound : E → Bool) (answers : E → Called) (refused : Called) (unsound : (e : E) → sound e ≡ false → answers e ≡ refused) where
  alike : (s t : E) → (sound s ≡ true → s ≡ t) → (sound t ≡ true → s ≡ t) → answers s ≡ answers t
  alike s t left right = go (sound s) (sound t) refl refl
    where
      go : (b c : Bool) → sound s ≡ b → sound t ≡ c → answers s ≡ answers t
      go true c p q = ap answers (left p)
      go false true p q = ap answers (right q)
      go false false p q = unsound s p ∙ sym (unsound t q)

abbrev unsent : List ℕ → Sent
unsent out = record { refusal = 2; written = 0; buffer = out }

-- An end in lent bytes, whichever of the two ends: its calls ask question 2, and then answer what the model does. It is read with its numbers
-- capped, and so is the end that the bytes are if question 2 says yes to either.
pub record Guarded (E M : Type 0) : Type 0 where
  pub size : ℕ
  pub sound : E → Bool
  pub view : E → M
  -- the end that bytes are, that end as it is read, and the bytes of an end
  pub end_in : List ℕ → E
  pub as_read : E → E
  pub bytes_in : E → List ℕ
  pub read_sound : (end : List ℕ) → sound (as_read (end_in end)) ≡ true → as_read (end_in end) ≡ end_in end
  pub sound_read : (end : List ℕ) → sound (end_in end) ≡ true → as_read (end_in end) ≡ end_in end
  -- what a call answers, by the model's answer
  pub guarded : E → Answer M → Answer E
  pub sends : E → Sent → List ℕ → Sent
  pub unsound : (e : E) (a : Answer M) → sound e ≡ false → guarded e a ≡ record { refusal = 2; end = e; report = no_report }
  pub sends_is : (e : E) (m : Sent) (out : List ℕ) → sends e m out ≡ cond (sound e) m (unsent out)

module _ {E M : Type 0} (k : Guarded E M) where
  -- the length of a message fits the answer
  pub sent_fits : (e : E) (m : Sent) (out : List ℕ) (n : ℕ) (after : List ℕ) → Few m → answered (Ok n) after ≡ k.sends e m out → n ≤ 17
  sent_fits e m out n after h is = subst Few (sym (is ∙ k.sends_is e m out)) (few_either (k.sound e) m (unsent out) h (omega arith))

  abbrev pub answered_in : Answer E → List ℕ → Called
  answered_in a end = changing k.size a.refusal a.report (k.bytes_in a.end) end

  module _ (end : List ℕ) (e : E) (h : (k.size ≤ length end) × (e ≡ k.as_read (k.end_in end))) where
    -- the end as it was read gives the same answer
    pub same_answer : (answers : E → Called) (out : List ℕ) → ((c : E) → k.sound c ≡ false → answers c ≡ called 2 0 out)
        → answers e ≡ laid_out k.size end out (answers (k.end_in end))
    same_answer answers out unsound =
        ap answers h.1 ∙ alike k.sound answers (called 2 0 out) unsound (k.as_read (k.end_in end)) (k.end_in end) (k.read_sound end) (k.sound_read end)
        ∙ laid k.size end out (answers (k.end_in end)) h.0

    pub call_sent : (out : List ℕ) (f : M → Sent) (s : Result ℕ Refusal) (after : List ℕ) → answered s after ≡ k.sends e (f (k.view e)) out
        → returned (written s) after ≡ laid_out k.size end out (sending (k.sends (k.end_in end) (f (k.view (k.end_in end))) out))
    call_sent out f s after es =
        sending_is s (k.sends e (f (k.view e)) out) after es
        ∙ same_answer (λ c. sending (k.sends c (f (k.view c)) out)) out
        (λ c no'. ap sending (k.sends_is c (f (k.view c)) out ∙ ap (λ (b : Bool). cond b (f (k.view c)) (unsent out)) no'))

    module _ (f : M → Answer M) where
      abbrev pub whole : Called
      whole = laid_out k.size end end (answered_in (k.guarded (k.end_in end) (f (k.view (k.end_in end)))) end)

      call_answered : (a : Answer E) (n : ℕ) (after : List ℕ) → a ≡ k.guarded e (f (k.view e)) → returned n after ≡ answered_in a end → returned n after ≡ whole
      call_answered a n after ea er =
          er ∙ ap (λ (b : Answer E). answered_in b end) ea
          ∙ same_answer (λ c. answered_in (k.guarded c (f (k.view c))) end) end
          (λ c no'. ap (λ (b : Answer E). answered_in b end) (k.unsound c (f (k.view c)) no'))

      -- the call was refused: no byte changed
      pub call_refused : (r : Refusal) (new : E) (n : ℕ) → record { refusal = number r; end = new; report = no_report } ≡ k.guarded e (f (k.view e))
          → n ≡ packed (number r) 0 → returned n end ≡ whole
      call_refused r new n ea en =
          call_answered (record { refusal = number r; end = new; report = no_report }) n end ea
          (changed_no k.size (number r) no_report (k.bytes_in new) end n (number_some r) (omega (arith, en)))

      -- it was done: the end is written
      pub call_done : (new : E) (report : Report) (n : ℕ) (after : List ℕ) → record { refusal = 0; end = new; report = report } ≡ k.guarded e (f (k.view e))
          → n ≡ packed_report 0 report → after ≡ k.bytes_in new ++ drop k.size end → returned n after ≡ whole
      call_done new report n after ea en eb =
          call_answered (record { refusal = 0; end = new; report = report }) n after ea
          (changed_done k.size 0 report (k.bytes_in new) end n after refl en eb)

-- ---- refusals as they are handed on

module _ {A : Type 0} (say : Result A Refusal → ℕ) (no' : (r : Refusal) → say (Err r) ≡ packed (number r) 0) (q : Result A Refusal) (r : Refusal)
    (e : IsErrAnd q (λ y. y ≡ r)) where
  pub said : say q ≡ packed (number r) 0
  said = ap say (passed_on q r e) ∙ no' r

  -- question 18
  pub short : (size : ℕ) (end out : List ℕ) (rest : Called) → (length end < size) × (r ≡ TooShort) → returned (say q) out ≡ laid_out size end out rest
  short size end out rest h = too_short size end out rest (say q) h.0 (said ∙ ap (λ (x : Refusal). packed (number x) 0) h.1)
