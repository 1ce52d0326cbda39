-- Packets: messages end to end, a packet taken message by message, and a packet in a stretch of a buffer.
use mathlib.Core.Path.{◌≡◌, refl, ap, sym, ◌∙◌, subst}
use mathlib.Core.Bool.{Bool, true, false, cond, ◌&&◌}
use mathlib.Core.List.{List, [], ◌∷◌, ◌++◌, append_assoc}
use Prim.Native.Nat.{ℕ, zero, suc, ◌+◌, ◌-◌, ◌≤◌}
use native.Mathlib.Nat.{le_refl}
use native.Mathlib.Omega.{arith}
use lib.Dec.{eqb, leb}
use lib.ListN.{length, get_or, take, drop, length-append}
use lib.Seq.{length-take-le, take-append_seam, drop-append_seam}
use borrow.Author.Tests.{ne_eqb, le-leb, leb-true}
use Rattle.wire.specs.declared.Message.{Message}
use Rattle.wire.specs.declared.Message.TheVariants as message
use Rattle.wire.specs.Bytes.{bytes_of, size_of_kind}
use Rattle.jupiter.proofs.Lists.{All}
use Rattle.model.specs.Limits.{max_packet}
use Rattle.model.specs.Questions.{between, no_report, Answer}
use Rattle.model.specs.Packets.{joined, fitting, put_from, next_size, messages_in, counted, handed_over, unpacked}
use Rattle.model.specs.SheetOf.{answer_as}
use Rattle.model.proofs.Tests.{and_left}

-- ---- the next message

-- bytes whose kind gives their length
abbrev pub Whole : List ℕ → Type 0
Whole b = (1 ≤ length b) × (size_of_kind (get_or b 0 0) ≡ length b)

pub whole_bytes : (m : Message) → Whole (bytes_of m)
unfolding bytes_of
whole_bytes (message.Insert h p x r) = (omega arith, refl)
whole_bytes (message.Delete h p) = (omega arith, refl)
whole_bytes (message.Nothing h) = (omega arith, refl)
whole_bytes (message.Ack l d s) = (omega arith, refl)

-- it is the next one wherever it stands in front
next_is : (b rest : List ℕ) → Whole b → next_size (b ++ rest) ≡ length b
next_is [] rest w = absurd (omega (arith, w.0))
next_is (x ∷ xs) rest w =
    let n = length (x ∷ xs) in
    let all = length ((x ∷ xs) ++ rest) in
    let long : n ≤ all = omega (arith, length-append (x ∷ xs) rest) in
    ap (λ (k : ℕ). cond (leb 1 k && leb k all) k all) w.1 ∙ rw (le-leb 1 n w.0, le-leb n all long)

next_take : (b rest : List ℕ) → Whole b → take (next_size (b ++ rest)) (b ++ rest) ≡ b
next_take b rest w = ap (λ (k : ℕ). take k (b ++ rest)) (next_is b rest w) ∙ take-append_seam b rest

next_drop : (b rest : List ℕ) → Whole b → drop (next_size (b ++ rest)) (b ++ rest) ≡ rest
next_drop b rest w = ap (λ (k : ℕ). drop k (b ++ rest)) (next_is b rest w) ∙ drop-append_seam b rest

some_length : (b rest : List ℕ) → Whole b → eqb (length (b ++ rest)) 0 ≡ false
some_length b rest w = ne_eqb (length (b ++ rest)) 0 (λ e. omega (arith, length-append b rest, w.0))

-- messages end to end are found again
pub messages_in_lem : (bs : List (List ℕ)) → All Whole bs → (most : ℕ) → length (joined bs) ≤ most → messages_in most (joined bs) ≡ bs
unfolding joined messages_in
messages_in_lem [] ok zero enough = refl
messages_in_lem [] ok (suc most) enough = refl
messages_in_lem (b ∷ bs) ok zero enough = absurd (omega (arith, length-append b (joined bs), ok.0.0))
messages_in_lem (b ∷ bs) ok (suc most) enough =
    ap (λ (e : Bool). cond e [] (take (next_size (b ++ joined bs)) (b ++ joined bs) ∷ messages_in most (drop (next_size (b ++ joined bs)) (b ++ joined bs)))) (some_length b (joined bs) ok.0)
    ∙ ap (λ (m : List ℕ). m ∷ messages_in most (drop (next_size (b ++ joined bs)) (b ++ joined bs))) (next_take b (joined bs) ok.0)
    ∙ ap (λ (r : List ℕ). b ∷ messages_in most r) (next_drop b (joined bs) ok.0)
    ∙ ap (λ (ms : List (List ℕ)). b ∷ ms) (messages_in_lem bs ok.1 most (omega (arith, length-append b (joined bs), ok.0.0)))

-- ---- handing over

-- the first message is handed over, and then the rest unless it was refused
abbrev pub handed_then : {E : Type 0} → (E → List ℕ → Answer E) → ℕ → ℕ → E → List ℕ → List ℕ → Answer E
handed_then t most count e b rest =
    cond (eqb (t e b).refusal 0) (handed_over t most (suc count) (t e b).end rest) (record { refusal = (t e b).refusal; end = (t e b).end; report = counted count })

pub handed_some : {E : Type 0} (t : E → List ℕ → Answer E) (most count : ℕ) (e : E) (bytes : List ℕ) → 1 ≤ length bytes
    → handed_over t (suc most) count e bytes ≡ handed_then t most count e (take (next_size bytes) bytes) (drop (next_size bytes) bytes)
unfolding handed_over
handed_some {E} t most count e bytes some =
    ap (λ (z : Bool). cond {A = Answer E} z (record { refusal = 0; end = e; report = counted count }) (handed_then t most count e (take (next_size bytes) bytes) (drop (next_size bytes) bytes)))
    (ne_eqb (length bytes) 0 (λ z. omega (arith, z)))

pub handed_step : {E : Type 0} (t : E → List ℕ → Answer E) (most count : ℕ) (e : E) (b rest : List ℕ) → Whole b
    → handed_over t (suc most) count e (b ++ rest) ≡ handed_then t most count e b rest
handed_step t most count e b rest w =
    handed_some t most count e (b ++ rest) (omega (arith, length-append b rest, w.0))
    ∙ ap (λ (m : List ℕ). handed_then t most count e m (drop (next_size (b ++ rest)) (b ++ rest))) (next_take b rest w)
    ∙ ap (handed_then t most count e b) (next_drop b rest w)

-- an end of one kind, as an end
pub handed_as : {A B : Type 0} (f : A → B) (t : A → List ℕ → Answer A) (u : B → List ℕ → Answer B) → ((e : A) (b : List ℕ) → u (f e) b ≡ answer_as f (t e b))
    → (most count : ℕ) (e : A) (bytes : List ℕ) → handed_over u most count (f e) bytes ≡ answer_as f (handed_over t most count e bytes)
unfolding handed_over
handed_as f t u same zero count e bytes = refl
handed_as {A} {B} f t u same (suc most) count e bytes =
    ap (λ (x : Answer B). cond {A = Answer B} (eqb (length bytes) 0) (record { refusal = 0; end = f e; report = counted count })
    (cond (eqb x.refusal 0) (handed_over u most (suc count) x.end rest) (record { refusal = x.refusal; end = x.end; report = counted count }))) (same e part)
    ∙ go (eqb (length bytes) 0) (eqb (t e part).refusal 0) (handed_as f t u same most (suc count) (t e part).end rest)
  where
    part : List ℕ
    part = take (next_size bytes) bytes

    rest : List ℕ
    rest = drop (next_size bytes) bytes

    go : (b c : Bool) → handed_over u most (suc count) (f (t e part).end) rest ≡ answer_as f (handed_over t most (suc count) (t e part).end rest)
        → cond {A = Answer B} b (record { refusal = 0; end = f e; report = counted count })
        (cond c (handed_over u most (suc count) (f (t e part).end) rest) (record { refusal = (t e part).refusal; end = f (t e part).end; report = counted count }))
        ≡ answer_as f (cond {A = Answer A} b (record { refusal = 0; end = e; report = counted count })
        (cond c (handed_over t most (suc count) (t e part).end rest) (record { refusal = (t e part).refusal; end = (t e part).end; report = counted count })))
    go true c more = refl
    go false true more = more
    go false false more = refl

-- A sound end is asked for the packet's length, and then hands the messages over.
pub unpacked_sound : {E : Type 0} (sound : E → Bool) (t : E → List ℕ → Answer E) (e : E) (bytes : List ℕ) → sound e ≡ true
    → unpacked sound t e bytes ≡ cond (between 1 max_packet (length bytes)) (handed_over t (length bytes) 0 e bytes) (record { refusal = 15; end = e; report = no_report })
unfolding unpacked
unpacked_sound {E} sound t e bytes s = ap (λ (b : Bool). told (cond b (cond (between 1 max_packet (length bytes)) 0 15) 2)) s ∙ go (between 1 max_packet (length bytes))
  where
    told : ℕ → Answer E
    told r = cond (eqb r 0) (handed_over t (length bytes) 0 e bytes) (record { refusal = r; end = e; report = no_report })

    go : (b : Bool) → told (cond b 0 15) ≡ cond b (handed_over t (length bytes) 0 e bytes) (record { refusal = 15; end = e; report = no_report })
    go true = refl
    go false = refl

-- An end that refuses every message by one number refuses the packet by it.
pub refused_first : {E : Type 0} (t : E → List ℕ → Answer E) (e : E) (r : ℕ) → ((b : List ℕ) → ((t e b).refusal ≡ suc r) × ((t e b).end ≡ e)) → (most : ℕ) (bytes : List ℕ) → 1 ≤ length bytes → length bytes ≤ most
    → handed_over t most 0 e bytes ≡ record { refusal = suc r; end = e; report = no_report }
refused_first t e r refuses zero bytes some enough = absurd (omega arith)
refused_first {E} t e r refuses (suc most) bytes some enough =
    let b = take (next_size bytes) bytes in
    handed_some t most 0 e bytes some
    ∙ ap (λ (k : ℕ). cond {A = Answer E} (eqb k 0) (handed_over t most 1 (t e b).end (drop (next_size bytes) bytes)) (record { refusal = k; end = (t e b).end; report = counted 0 })) (refuses b).0
    ∙ ap (λ (z : Bool). cond {A = Answer E} z (handed_over t most 1 (t e b).end (drop (next_size bytes) bytes)) (record { refusal = suc r; end = (t e b).end; report = counted 0 })) (ne_eqb (suc r) 0 (λ z. omega (arith, z)))
    ∙ ap (λ (d : E). record { refusal = suc r; end = d; report = counted 0 }) (refuses b).1

module _ {E : Type 0} (sound : E → Bool) (t : E → List ℕ → Answer E) (refuses : (e : E) → sound e ≡ false → (b : List ℕ) → ((t e b).refusal ≡ 2) × ((t e b).end ≡ e)) (e : E) (bytes : List ℕ) where
  -- whatever the end is, a packet is its messages handed over
  pub packet_law : between 1 max_packet (length bytes) ≡ true → unpacked sound t e bytes ≡ handed_over t (length bytes) 0 e bytes
  unfolding unpacked
  packet_law ok = go (sound e) refl
    where
      told : ℕ → Answer E
      told r = cond (eqb r 0) (handed_over t (length bytes) 0 e bytes) (record { refusal = r; end = e; report = no_report })

      go : (b : Bool) → sound e ≡ b → told (cond b (cond (between 1 max_packet (length bytes)) 0 15) 2) ≡ handed_over t (length bytes) 0 e bytes
      go true s = ap (λ (c : Bool). told (cond c 0 15)) ok
      go false s = sym (refused_first t e 1 (refuses e s) (length bytes) bytes (leb-true 1 (length bytes) (and_left (leb 1 (length bytes)) (leb (length bytes) max_packet) ok)) (le_refl (length bytes)))

  pub packet_none : between 1 max_packet (length bytes) ≡ false
      → ((unpacked sound t e bytes).refusal ≡ 0 → ⊥) × ((unpacked sound t e bytes).end ≡ e) × ((unpacked sound t e bytes).report ≡ no_report)
  unfolding unpacked
  packet_none out = subst (λ (b : Bool). Refused (told (cond (sound e) (cond b 0 15) 2))) (sym out) (go (sound e))
    where
      told : ℕ → Answer E
      told r = cond (eqb r 0) (handed_over t (length bytes) 0 e bytes) (record { refusal = r; end = e; report = no_report })

      Refused : Answer E → Type 0
      Refused a = (a.refusal ≡ 0 → ⊥) × (a.end ≡ e) × (a.report ≡ no_report)

      go : (b : Bool) → Refused (told (cond b 15 2))
      go true = (λ z. omega (arith, z), refl, refl)
      go false = (λ z. omega (arith, z), refl, refl)

-- ---- writing

-- the messages that fit take no more than the room
pub fitting_room : (room : ℕ) (ms : List (List ℕ)) → length (joined (fitting room ms)) ≤ room
unfolding fitting joined
fitting_room room [] = omega arith
fitting_room room (m ∷ ms) = go (leb (length m) room) refl (fitting_room (room - length m) ms)
  where
    go : (b : Bool) → leb (length m) room ≡ b → length (joined (fitting (room - length m) ms)) ≤ room - length m → length (joined (cond b (m ∷ fitting (room - length m) ms) [])) ≤ room
    go true e rest = omega (arith, length-append m (joined (fitting (room - length m) ms)), leb-true (length m) room e)
    go false e rest = omega arith

-- a stretch that was written is read back, and all before and behind it stays
module _ (offset : ℕ) (lent : List ℕ) where
  pub put_read : (bytes : List ℕ) → length bytes ≤ length lent - offset → take (length bytes) (drop offset (put_from offset bytes lent)) ≡ bytes
  put_read [] fits = refl
  put_read (b ∷ bs) fits =
      let front = take offset lent in
      let seam : offset ≡ length front = omega (arith, length-take-le offset lent (omega arith)) in
      let behind = (b ∷ bs) ++ drop (offset + suc (length bs)) lent in
      ap (λ (k : ℕ). take (suc (length bs)) (drop k (front ++ behind))) seam
      ∙ ap (take (suc (length bs))) (drop-append_seam front behind)
      ∙ take-append_seam (b ∷ bs) (drop (offset + suc (length bs)) lent)

  pub put_before : (bytes : List ℕ) → length bytes ≤ length lent - offset → take offset (put_from offset bytes lent) ≡ take offset lent
  put_before [] fits = refl
  put_before (b ∷ bs) fits =
      let front = take offset lent in
      let seam : offset ≡ length front = omega (arith, length-take-le offset lent (omega arith)) in
      ap (λ (k : ℕ). take k (front ++ ((b ∷ bs) ++ drop (offset + suc (length bs)) lent))) seam
      ∙ take-append_seam front ((b ∷ bs) ++ drop (offset + suc (length bs)) lent)

  pub put_behind : (bytes : List ℕ) → length bytes ≤ length lent - offset → drop (offset + length bytes) (put_from offset bytes lent) ≡ drop (offset + length bytes) lent
  put_behind [] fits = refl
  put_behind (b ∷ bs) fits =
      let front = take offset lent in
      let rest = drop (offset + suc (length bs)) lent in
      let seam : offset + suc (length bs) ≡ length (front ++ (b ∷ bs)) = omega (arith, length-take-le offset lent (omega arith), length-append front (b ∷ bs)) in
      ap (λ (k : ℕ). drop k (front ++ ((b ∷ bs) ++ rest))) seam
      ∙ ap (drop (length (front ++ (b ∷ bs)))) (sym (append_assoc front (b ∷ bs) rest))
      ∙ drop-append_seam (front ++ (b ∷ bs)) rest
