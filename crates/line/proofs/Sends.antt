-- Sending: question 13, the message of a pending edit, and how a sending ends.
use Prim.Native.Nat.{ℕ, ◌+◌, ◌-◌, ◌≤◌, ◌<◌}
use native.Mathlib.Omega.{arith}
use mathlib.Core.Path.{◌≡◌, refl, ap, ap₂, ◌∙◌, sym}
use mathlib.Core.Bool.{Bool, true, false, ◌&&◌, cond}
use mathlib.Core.List.{List, [], ◌∷◌, ◌++◌}
use lib.Dec.{leb}
use lib.ListN.{length, get_or, drop}
use borrow.Author.Tests.{lt-leb, le-leb, eqb-false, ne_eqb}
use Rattle.std.specs.Prelude.{Ok, Err}
use Rattle.refusal.specs.declared.Refusal.{Refusal}
use Rattle.refusal.specs.declared.Refusal.TheVariants as refusal
use Rattle.refusal.specs.Number.{number}
use Rattle.refusal.proofs.Some.{number_some}
use Rattle.limits.specs.Limits.{max_pending}
use Rattle.ot.specs.declared.Form.{Form}
use Rattle.ot.specs.Edit.{edit}
use Rattle.list.specs.declared.Origin.{Origin}
use Rattle.wire.specs.declared.Header.{Header}
use Rattle.wire.specs.declared.Message.{Message}
use Rattle.wire.specs.declared.Message.TheVariants.{Insert, Delete, Nothing, Ack}
use Rattle.wire.specs.Message.{message_of}
use Rattle.wire.specs.Bytes.{bytes_of}
use Rattle.wire.specs.Buffer.{Written}
use Rattle.model.specs.Line as model
use Rattle.model.specs.Questions.{ask, asks, sent}
use Rattle.model.proofs.Tests.{yes_all, between_true}
use Rattle.pending.specs.Slots.{form_in, edit_in}
use Rattle.pending.proofs.Slots.{edits_at}
use Rattle.line.specs.declared.Line.{Line}
use Rattle.line.specs.Line.{line_of}
use Rattle.line.specs.Keeping.{then_asked}
use Rattle.line.proofs.Parts.{asks_append}
use Rattle.line.specs.Sending.{answered, number_asked, finished, IsPending}

-- ---- question 13

module _ (v : Line) (number : ℕ) where
  asked : (a b : Bool) → leb (v.acked + 1) number ≡ a → leb number v.made ≡ b → asks (ask 13 (a && b) ∷ []) ≡ asks (number_asked v number)
  asked a b ea eb = sym (ap₂ (λ (s t : Bool). asks (ask 13 (s && t) ∷ [])) ea eb)

  pub number_low : number ≤ v.acked → 13 ≡ asks (number_asked v number)
  number_low h = asked false (leb number v.made) (lt-leb (v.acked + 1) number (omega arith)) refl

  pub number_high : v.acked < number → v.made < number → 13 ≡ asks (number_asked v number)
  number_high h g = asked true false (le-leb (v.acked + 1) number (omega arith)) (lt-leb number v.made g)

  pub number_right : v.acked < number → number ≤ v.made → 0 ≡ asks (number_asked v number)
  number_right h g = asked true true (le-leb (v.acked + 1) number (omega arith)) (le-leb number v.made g)

  pub number_pending : asks (number_asked v number) ≡ 0 → IsPending v number
  number_pending z =
      let y = between_true (v.acked + 1) v.made number (yes_all (number_asked v number) (eqb-false 13 0 refl, tt) z).0 in
      (omega (arith, y.0), y.1)

-- the model's questions of a sending: 13, then 14
pub send_asked_lem : (v : Line) (words : List ℕ) (number : ℕ) (m : Message) (lent : List ℕ)
    → asks (model.send_questions (line_of v words) number m lent)
    ≡ then_asked (asks (number_asked v number)) (asks (ask 14 (leb (length (bytes_of m)) (length lent)) ∷ []))
send_asked_lem v words number m lent = asks_append (number_asked v number) (ask 14 (leb (length (bytes_of m)) (length lent)) ∷ []) (eqb-false 13 0 refl, tt)

-- ---- the message

-- what it says beside the edit
abbrev pub header_of : ℕ → ℕ → Origin → Line → ℕ → Header
header_of line direction origin v number =
    record { line = line; direction = direction; number = number; seen = v.taken; origin = origin }

pub message_of_lem : (line direction : ℕ) (origin : Origin) (v : Line) (words : List ℕ) (number i : ℕ) (f : Form) (x : ℕ) (m : Message) → IsPending v number
    → i ≡ number - 1 - v.acked → f ≡ form_in words i → x ≡ get_or words (max_pending + i) 0
    → m ≡ message_of (header_of line direction origin v number) (edit f x) → m ≡ model.line_message line direction origin (line_of v words) number
message_of_lem line direction origin v words number i f x m p ei ef ex em =
    let at : 0 + (number - (v.acked + 1)) ≡ i = omega (arith, p.0, ei) in
    let inside : number - (v.acked + 1) < v.made - v.acked = omega (arith, p.0, p.1) in
    em ∙ ap (message_of (header_of line direction origin v number))
    (ap₂ edit ef ex ∙ sym (edits_at words 0 (v.made - v.acked) (number - (v.acked + 1)) inside ∙ ap (edit_in words) at))

-- ---- the end of a sending

some_bytes : (m : Message) → 1 ≤ length (bytes_of m)
unfolding bytes_of
some_bytes (Insert h p x r) = omega arith
some_bytes (Delete h p) = omega arith
some_bytes (Nothing h) = omega arith
some_bytes (Ack l d s) = omega arith

-- a refusal leaves the buffer
pub refused_sent : (r : Refusal) (bytes lent : List ℕ) → answered (Err r) lent ≡ sent (number r) bytes lent
unfolding sent
refused_sent r bytes lent = simp (ne_eqb (number r) 0 (number_some r))

module _ (m : Message) (lent : List ℕ) where
  -- what the writer says, by whether the message fits
  abbrev Fitting : Bool → ℕ → List ℕ → Type 0
  Fitting b n after =
      (n ≡ cond b (length (bytes_of m)) 0) × (after ≡ cond b (bytes_of m ++ drop (length (bytes_of m)) lent) lent)

  pub too_short : (n : ℕ) (after : List ℕ) → Written m lent n after → n ≡ 0 → answered (Err refusal.Room) after ≡ finished m lent
  unfolding sent
  too_short n after w e = go (leb (length (bytes_of m)) (length lent)) refl (w.size, w.bytes)
    where
      go : (b : Bool) → leb (length (bytes_of m)) (length lent) ≡ b → Fitting b n after → answered (Err refusal.Room) after ≡ finished m lent
      go true t f = absurd (omega (arith, some_bytes m, f.0))
      go false t f = rw (t, f.1)

  pub written : (n : ℕ) (after : List ℕ) → Written m lent n after → (n ≡ 0 → ⊥) → answered (Ok n) after ≡ finished m lent
  unfolding sent
  written n after w e = go (leb (length (bytes_of m)) (length lent)) refl (w.size, w.bytes)
    where
      go : (b : Bool) → leb (length (bytes_of m)) (length lent) ≡ b → Fitting b n after → answered (Ok n) after ≡ finished m lent
      go true t f = rw (t, f.0, f.1)
      go false t f = absurd (e f.0)
