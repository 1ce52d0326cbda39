-- One message from a place on, and the loop that writes one behind another.
use Prim.Native.Nat.{ℕ, suc, ◌+◌, ◌-◌, ◌≤◌, ◌<◌}
use native.Mathlib.Numerals.{add-one}
use native.Mathlib.Omega.{arith}
use mathlib.Core.Path.{◌≡◌, refl, ap, ap₂, sym, ◌∙◌, subst}
use mathlib.Core.Bool.{Bool, true, false, cond}
use mathlib.Core.List.{List, [], ◌∷◌, ◌++◌, map, append_assoc, append-nil}
use lib.Dec.{leb}
use lib.ListN.{length, take, drop, length-append, length-drop, drop_of_length-le}
use lib.Seq.{take_all, drop-drop}
use borrow.Author.Tests.{leb-true, lt-leb}
use borrow.Rule.Slice.PartMut.{mid_of, put_mid, mid_len, put_same}
use Rattle.wire.specs.declared.Message.{Message}
use Rattle.wire.specs.Bytes.{bytes_of}
use Rattle.wire.specs.Buffer.{Written}
use Rattle.model.specs.Line.{numbers_from}
use Rattle.model.specs.Packets.{joined, fitting, put_from}
use Rattle.line.specs.declared.Line.{Line}
use Rattle.line.specs.Packet.{message_at, messages, Filled}
use Rattle.line.proofs.Putting.{some_bytes, put_inside, put_length, put_behind, fitting_first, fitting_stops, fitting_none, fitting_one}

-- ---- one message

module _ (m : List ℕ) (at : ℕ) (before : List ℕ) (n : ℕ) (after : List ℕ) where
  one_stays : leb (length m) (length before - at) ≡ false → n ≡ 0 → after ≡ before → Filled (m ∷ []) at before n after
  one_stays f en ea =
      let e = fitting_stops (length before - at) m [] f in
      record { size = en ∙ sym (ap length e); bytes = ea ∙ sym (ap (λ (x : List ℕ). put_from at x before) e) }

  one_goes : leb (length m) (length before - at) ≡ true → n ≡ length m → after ≡ put_from at m before → Filled (m ∷ []) at before n after
  one_goes t en ea =
      let e = fitting_one (length before - at) m t in
      record { size = en ∙ sym (ap length e); bytes = ea ∙ sym (ap (λ (x : List ℕ). put_from at x before) e) }

-- a place past the buffer's end
pub past_end : (m : Message) (at : ℕ) (before : List ℕ) → length before < at → Filled (bytes_of m ∷ []) at before 0 before
past_end m at before h =
    one_stays (bytes_of m) at before 0 before (lt-leb (length (bytes_of m)) (length before - at) (omega (arith, some_bytes m))) refl refl

-- The buffer from a place on is lent to the writer of a message, and comes back.
module _ (m : Message) (at : ℕ) (before : List ℕ) (inside : at ≤ length before) where
  abbrev rest : ℕ
  rest = length before - at

  abbrev lent : List ℕ
  lent = mid_of at rest before

  abbrev x : List ℕ
  x = bytes_of m

  lent_is : lent ≡ drop at before
  lent_is = take_all rest (drop at before) (omega (arith, length-drop at before))

  nothing_behind : drop rest (drop at before) ≡ []
  nothing_behind = drop_of_length-le (drop at before) {i = rest} (omega (arith, length-drop at before))

  -- the message at the front of that part, put back
  put_back : put_mid at rest before (x ++ drop (length x) lent) ≡ put_from at x before
  put_back =
      ap₂ (λ (l r : List ℕ). take at before ++ ((x ++ drop (length x) l) ++ r)) lent_is nothing_behind
      ∙ ap (λ (l : List ℕ). take at before ++ l) (append-nil (x ++ drop (length x) (drop at before)))
      ∙ ap (λ (l : List ℕ). take at before ++ (x ++ l)) (drop-drop (length x) at before)
      ∙ sym (put_inside at x before inside)

  pub lent_back : (n : ℕ) (after : List ℕ) → Written m (mid_of at (length before - at) before) n after
      → Filled (bytes_of m ∷ []) at before n (put_mid at (length before - at) before after)
  lent_back n after w =
      let e : leb (length x) (length lent) ≡ leb (length x) rest = ap (leb (length x)) (mid_len at (length before) before (omega arith)) in
      go (leb (length x) rest) refl (w.size ∙ ap (λ (b : Bool). cond b (length x) 0) e)
      (w.bytes ∙ ap (λ (b : Bool). cond b (x ++ drop (length x) lent) lent) e)
    where
      go : (b : Bool) → leb (length x) rest ≡ b → n ≡ cond b (length x) 0 → after ≡ cond b (x ++ drop (length x) lent) lent
          → Filled (x ∷ []) at before n (put_mid at rest before after)
      go true t en ea = one_goes x at before n (put_mid at rest before after) t en (ap (put_mid at rest before) ea ∙ put_back)
      go false f en ea = one_stays x at before n (put_mid at rest before after) f en (ap (put_mid at rest before) ea ∙ put_same at rest before)

-- ---- one behind another

-- Of all messages some are written, as `done`, and those left go behind them.
pub record Filling (all left : List (List ℕ)) (offset : ℕ) (before : List ℕ) (at : ℕ) (out : List ℕ) : Type 0 where
  pub done : List ℕ
  pub bytes : joined (fitting (length before - offset) all) ≡ done ++ joined (fitting (length before - at) left)
  pub place : at ≡ offset + length done
  pub room : length done ≤ length before - offset
  pub buffer : out ≡ put_from offset done before

filling_start : (all : List (List ℕ)) (offset : ℕ) (before : List ℕ) → Filling all all offset before offset before
filling_start all offset before = record { done = []; bytes = refl; place = omega arith; room = omega arith; buffer = refl }

module _ {all : List (List ℕ)} {offset : ℕ} {before : List ℕ} {at : ℕ} {out : List ℕ} where
  filling_long : {left : List (List ℕ)} → Filling all left offset before at out → length out ≡ length before
  filling_long v = ap length v.buffer ∙ put_length offset v.done before v.room

  -- where nothing more is written
  filled_so_far : {left : List (List ℕ)} (v : Filling all left offset before at out) → joined (fitting (length before - at) left) ≡ []
      → Filled all offset before (at - offset) out
  filled_so_far v none =
      let e : joined (fitting (length before - offset) all) ≡ v.done = v.bytes ∙ ap (λ (l : List ℕ). v.done ++ l) none ∙ append-nil v.done in
      let n : at - offset ≡ length v.done = omega (arith, v.place) in
      record { size = n ∙ sym (ap length e); bytes = v.buffer ∙ sym (ap (λ (l : List ℕ). put_from offset l before) e) }

  -- all are written
  filling_end : Filling all [] offset before at out → Filled all offset before (at - offset) out
  filling_end v = filled_so_far v (fitting_none (length before - at))

  module _ (m : List ℕ) (left : List (List ℕ)) (some : 1 ≤ length m) (v : Filling all (m ∷ left) offset before at out)
      (n : ℕ) (after : List ℕ) (w : Filled (m ∷ []) at out n after) where
    long : length out ≡ length before
    long = filling_long v

    -- the next one fits or not
    fits : leb (length m) (length before - at) ≡ true → (n ≡ length m) × (after ≡ put_from at m out)
    fits t =
        let e = fitting_one (length out - at) m (ap (λ (k : ℕ). leb (length m) (k - at)) long ∙ t) in
        (w.size ∙ ap length e, w.bytes ∙ ap (λ (x : List ℕ). put_from at x out) e)

    stays : leb (length m) (length before - at) ≡ false → (n ≡ 0) × (after ≡ out)
    stays f =
        let e = fitting_stops (length out - at) m [] (ap (λ (k : ℕ). leb (length m) (k - at)) long ∙ f) in
        (w.size ∙ ap length e, w.bytes ∙ ap (λ (x : List ℕ). put_from at x out) e)

    filling_stop : n ≡ 0 → Filled all offset before (at - offset) after
    filling_stop z = go (leb (length m) (length before - at)) refl
      where
        go : (b : Bool) → leb (length m) (length before - at) ≡ b → Filled all offset before (at - offset) after
        go true t = absurd (omega (arith, (fits t).0))
        go false f = subst (Filled all offset before (at - offset)) (sym (stays f).1) (filled_so_far v (fitting_stops (length before - at) m left f))

    filling_fits : (n ≡ 0 → ⊥) → leb (length m) (length before - at) ≡ true
    filling_fits h = go (leb (length m) (length before - at)) refl
      where
        go : (b : Bool) → leb (length m) (length before - at) ≡ b → leb (length m) (length before - at) ≡ true
        go true t = t
        go false f = absurd (h (stays f).0)

    filling_room : (n ≡ 0 → ⊥) → at + n ≤ length before
    filling_room h = let t = filling_fits h in omega (arith, leb-true (length m) (length before - at) t, (fits t).0)

    filling_turn : (n ≡ 0 → ⊥) → Filling all left offset before (at + n) after
    filling_turn h =
        let t = filling_fits h in
        let en : n ≡ length m = (fits t).0 in
        let to : at + n ≤ length before = filling_room h in
        let next : at + n ≡ offset + length (v.done ++ m) = omega (arith, v.place, length-append v.done m) in
        let less : length before - at - length m ≡ length before - (at + n) = omega (arith, en) in
        record {
          done = v.done ++ m;
          bytes =
              v.bytes ∙ ap (λ (l : List ℕ). v.done ++ l) (fitting_first (length before - at) m left t)
              ∙ sym (append_assoc v.done m (joined (fitting (length before - at - length m) left)))
              ∙ ap (λ (k : ℕ). (v.done ++ m) ++ joined (fitting k left)) less;
          place = next;
          room = omega (arith, next);
          buffer =
              (fits t).1 ∙ ap₂ (λ (k : ℕ) (l : List ℕ). put_from k m l) v.place v.buffer
              ∙ put_behind offset v.done m before (omega (arith, v.place, en));
        }

-- ---- by number

-- the numbers behind one, up to the last
numbers_end : (number made : ℕ) → made ≤ number → numbers_from (number + 1) (made - number) ≡ []
unfolding numbers_from
numbers_end number made h = let e : made - number ≡ 0 = omega arith in ap (numbers_from (number + 1)) e

numbers_next : (number made : ℕ) → number < made
    → numbers_from (number + 1) (made - number) ≡ (number + 1) ∷ numbers_from (number + 1 + 1) (made - (number + 1))
unfolding numbers_from
numbers_next number made h =
    let e : made - number ≡ suc (made - (number + 1)) = omega arith in
    ap (numbers_from (number + 1)) e ∙ ap (λ (k : ℕ). (number + 1) ∷ numbers_from k (made - (number + 1))) (sym (add-one (number + 1)))

module _ (line direction : ℕ) (v : Line) (words origins : List ℕ) where
  abbrev bytes_for : ℕ → List ℕ
  bytes_for k = bytes_of (message_at line direction v words origins k)

  -- the messages of the pending edits behind a number
  abbrev pub behind : ℕ → List (List ℕ)
  behind number = map (λ k. bytes_of (message_at line direction v words origins k)) (numbers_from (number + 1) (v.made - number))

  pub behind_next : (number : ℕ) → number < v.made
      → behind number ≡ bytes_of (message_at line direction v words origins (number + 1)) ∷ behind (number + 1)
  behind_next number h = ap (map bytes_for) (numbers_next number v.made h)

  pub behind_last : (number : ℕ) → v.made ≤ number → behind number ≡ []
  behind_last number h = ap (map bytes_for) (numbers_end number v.made h)

  -- The messages up to a number are written, and the next goes to `at`.
  pub record Upto (offset : ℕ) (before out : List ℕ) (number at : ℕ) : Type 0 where
    pub from : v.acked ≤ number
    pub start : offset ≤ at
    pub long : length out ≡ length before
    pub filling : Filling (messages line direction v words origins) (behind number) offset before at out

  module _ (offset : ℕ) (before : List ℕ) where
    pub upto_start : Upto offset before before v.acked offset
    unfolding messages
    upto_start = record { from = omega arith; start = omega arith; long = refl; filling = filling_start (behind v.acked) offset before }

    module _ {out : List ℕ} {number at : ℕ} (u : Upto offset before out number at) where
      pub upto_end : v.made ≤ number → Filled (messages line direction v words origins) offset before (at - offset) out
      upto_end h =
          filling_end
          (subst (λ (l : List (List ℕ)). Filling (messages line direction v words origins) l offset before at out) (behind_last number h) u.filling)

      module _ (next : number < v.made) (m : Message) (is : m ≡ message_at line direction v words origins (number + 1)) (n : ℕ) (after : List ℕ)
          (w : Filled (bytes_of m ∷ []) at out n after) where
        left : Filling (messages line direction v words origins) (bytes_of m ∷ behind (number + 1)) offset before at out
        left =
            subst (λ (l : List (List ℕ)). Filling (messages line direction v words origins) l offset before at out)
            (behind_next number next ∙ ap (λ (x : Message). bytes_of x ∷ behind (number + 1)) (sym is))
            u.filling

        -- the next message does not fit
        pub upto_stop : n ≡ 0 → Filled (messages line direction v words origins) offset before (at - offset) after
        upto_stop z = filling_stop (bytes_of m) (behind (number + 1)) (some_bytes m) left n after w z

        -- or it fits
        pub upto_room : (n ≡ 0 → ⊥) → at + n ≤ length before
        upto_room h = filling_room (bytes_of m) (behind (number + 1)) (some_bytes m) left n after w h

        pub upto_turn : (n ≡ 0 → ⊥) → Upto offset before after (number + 1) (at + n)
        upto_turn h =
            let f = filling_turn (bytes_of m) (behind (number + 1)) (some_bytes m) left n after w h in
            record { from = omega (arith, u.from); start = omega (arith, u.start); long = filling_long f; filling = f }
