-- A call was refused, or it was not: what its answer then is. And the answer to bytes, by what they are.
use mathlib.Core.Path.{◌≡◌, refl, sym}
use mathlib.Core.Bool.{Bool, true, false, cond}
use mathlib.Core.List.{List, [], ◌∷◌, ◌++◌}
use Prim.Native.Nat.{ℕ}
use lib.Dec.{eqb}
use lib.ListN.{length, drop}
use borrow.Author.Tests.{eqb-true, eqb-false}
use Rattle.std.specs.Prelude.{Option, Some, None}
use Rattle.ot.specs.Edit.{Edit, Nothing, Delete, Insert}
use Rattle.wire.specs.declared.Header.{Header}
use Rattle.wire.specs.declared.Message.{Message}
use Rattle.wire.specs.declared.Message.TheVariants as message
use Rattle.wire.specs.Message.{in_range, header_in_range}
use Rattle.wire.specs.Bytes.{parsed}
use Rattle.wire.proofs.Ranges.{insert_bounds, delete_bounds}
use Rattle.wire.proofs.Codec.{codec}
use Rattle.model.specs.Questions.{ask, asks, Report, no_report, Answer, answer, Sent, sent}
use Rattle.model.specs.Line.{takes_by, reads_by}

pub data Outcome {E : Type 0} (r : ℕ) (old new : E) (k : Report) : Answer E → Type 0 where
  no : (r ≡ 0 → ⊥) → Outcome r old new k (record { refusal = r; end = old; report = no_report })
  yes : r ≡ 0 → Outcome r old new k (record { refusal = 0; end = new; report = k })

pub outcome : {E : Type 0} (r : ℕ) (old new : E) (k : Report) → Outcome r old new k (answer r old new k)
unfolding answer
outcome {E} r old new k = go (eqb r 0) refl
  where
    go : (b : Bool) → eqb r 0 ≡ b
        → Outcome r old new k (cond {A = Answer E} b (record { refusal = 0; end = new; report = k }) (record { refusal = r; end = old; report = no_report }))
    go true e = Outcome.yes (eqb-true r 0 e)
    go false e = Outcome.no (eqb-false r 0 e)

pub data Posted (r : ℕ) (bytes lent : List ℕ) : Sent → Type 0 where
  no : (r ≡ 0 → ⊥) → Posted r bytes lent (record { refusal = r; written = 0; buffer = lent })
  yes : r ≡ 0 → Posted r bytes lent (record { refusal = 0; written = length bytes; buffer = bytes ++ drop (length bytes) lent })

pub posted : (r : ℕ) (bytes lent : List ℕ) → Posted r bytes lent (sent r bytes lent)
unfolding sent
posted r bytes lent = go (eqb r 0) refl
  where
    go : (b : Bool) → eqb r 0 ≡ b
        → Posted r bytes lent (cond {A = Sent} b (record { refusal = 0; written = length bytes; buffer = bytes ++ drop (length bytes) lent }) (record { refusal = r; written = 0; buffer = lent }))
    go true e = Posted.yes (eqb-true r 0 e)
    go false e = Posted.no (eqb-false r 0 e)

-- the number of an answer
pub refusal_is : {E : Type 0} (r : ℕ) (old new : E) (k : Report) → (answer r old new k).refusal ≡ r
unfolding answer
refusal_is {E} r old new k = go (eqb r 0) refl
  where
    go : (b : Bool) → eqb r 0 ≡ b → (cond {A = Answer E} b (record { refusal = 0; end = new; report = k }) (record { refusal = r; end = old; report = no_report })).refusal ≡ r
    go true e = sym (eqb-true r 0 e)
    go false e = refl

-- An end's answer to bytes: what holds of its answer to bytes that are no message, to an edit under any header in range and to any acknowledgement, holds of it.
pub by_bytes : {E : Type 0} (P : Answer E → Type 0) (sound : E → Bool) (c : E) (edit : Header → Edit → Answer E) (ack : ℕ → ℕ → ℕ → Answer E)
    → P (answer (asks (ask 2 (sound c) ∷ ask 3 false ∷ [])) c c no_report) → ((h : Header) (e : Edit) → header_in_range h ≡ true → P (edit h e)) → ((l d s : ℕ) → P (ack l d s))
    → (bytes : List ℕ) → P (reads_by sound c (takes_by edit ack) (parsed bytes))
unfolding in_range
by_bytes P sound c edit ack no_message edits acks bytes = go (parsed bytes) (codec.read_in_range bytes)
  where
    go : (r : Option Message) → ((m : Message) → r ≡ Some m → in_range m ≡ true) → P (reads_by sound c (takes_by edit ack) r)
    go None range = no_message
    go (Some (message.Insert h p x q)) range = edits h (Insert p x q) (insert_bounds h p x q (range (message.Insert h p x q) refl)).header_in_range_lem
    go (Some (message.Delete h p)) range = edits h (Delete p) (delete_bounds h p (range (message.Delete h p) refl)).header_in_range_lem
    go (Some (message.Nothing h)) range = edits h Nothing (range (message.Nothing h) refl)
    go (Some (message.Ack l d s)) range = acks l d s
