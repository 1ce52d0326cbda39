-- Reading and writing keep what `Codec` says of them.
use Prim.Native.Nat.{ℕ, zero, suc, ◌+◌, ◌/◌, ◌%◌, ◌≤◌, ◌<◌}
use native.Mathlib.Nat.{div-add-mod', mod-lt, div-lt_iff_lt-mul}
use native.Mathlib.Omega.{arith}
use mathlib.Core.Path.{◌≡◌, refl, sym, ap, subst, ◌∙◌}
use mathlib.Core.Bool.{Bool, true, false, ◌&&◌, cond}
use mathlib.Core.List.{List, [], ◌∷◌, ◌++◌}
use lib.Dec.{leb, eqb, lit<}
use lib.ListN.{length, get_or}
use borrow.Author.Tests.{eq-eqb, eqb-true, leb-true}
use Rattle.std.specs.Prelude.{Option, Some, None}
use Rattle.list.proofs.Places.{high, low}
use Rattle.wire.specs.declared.Header.{Header}
use Rattle.wire.specs.declared.Message.{Message}
use Rattle.wire.specs.declared.Message.TheVariants.{Insert, Delete, Nothing, Ack}
use Rattle.wire.specs.Message.{in_range, header_in_range}
use Rattle.wire.specs.Bytes.{bytes_of, header, origin, size_of_kind, two_at, four_at, fields_of, parsed}
use Rattle.wire.proofs.Ranges.{both, header_bounds, insert_bounds, delete_bounds, ack_bounds}
use Rattle.wire.specs.Codec.{AreBytes, Codec}

-- ---- from a message to its bytes and back

-- the fields of a message's bytes are the message's, whatever their ranges
fields_of_bytes : (m : Message) → fields_of (get_or (bytes_of m) 0 0) (bytes_of m) ≡ m
unfolding bytes_of
fields_of_bytes (Insert h p x r) = simp div-add-mod'
fields_of_bytes (Delete h p) = simp div-add-mod'
fields_of_bytes (Nothing h) = simp div-add-mod'
fields_of_bytes (Ack l d s) = simp div-add-mod'

sized : (m : Message) → length (bytes_of m) ≡ size_of_kind (get_or (bytes_of m) 0 0)
unfolding bytes_of
sized (Insert h p x r) = refl
sized (Delete h p) = refl
sized (Nothing h) = refl
sized (Ack l d s) = refl

some : (m : Message) → leb 1 (length (bytes_of m)) ≡ true
unfolding bytes_of
some (Insert h p x r) = refl
some (Delete h p) = refl
some (Nothing h) = refl
some (Ack l d s) = refl

written_read : (m : Message) → in_range m ≡ true → parsed (bytes_of m) ≡ Some m
unfolding parsed
written_read m h = simp (some m, eq-eqb _ _ (sized m), fields_of_bytes m, h)

injective : (m m' : Message) → bytes_of m ≡ bytes_of m' → m ≡ m'
injective m m' e = sym (fields_of_bytes m) ∙ ap (λ (s : List ℕ). fields_of (get_or s 0 0) s) e ∙ fields_of_bytes m'

-- ---- from bytes to a message and back

-- a list of n numbers, written out by its places
places : ℕ → (ℕ → ℕ) → List ℕ
places zero f = []
places (suc n) f = f 0 ∷ places n (λ i. f (suc i))

spread : (s : List ℕ) (n : ℕ) → length s ≡ n → s ≡ places n (λ i. get_or s i 0)
unfolding places
spread [] zero e = refl
spread [] (suc n) e = cc
spread (a ∷ s) zero e = cc
spread (a ∷ s) (suc n) e = ap (λ (l : List ℕ). a ∷ l) (spread s n (cc))

-- a kind byte, or a byte that is none
data Kind : ℕ → Type 0 where
  insert : Kind 5
  delete : Kind 7
  nothing : Kind 8
  ack : Kind 4
  other : (k : ℕ) → size_of_kind k ≡ 0 → Kind k

kind : (k : ℕ) → Kind k
kind k = go (eqb k 5) refl (eqb k 7) refl (eqb k 8) refl (eqb k 4) refl
  where
    go : (a : Bool) → eqb k 5 ≡ a → (b : Bool) → eqb k 7 ≡ b → (c : Bool) → eqb k 8 ≡ c → (d : Bool) → eqb k 4 ≡ d → Kind k
    go true p b q c r d s = subst Kind (sym (eqb-true k 5 p)) insert
    go false p true q c r d s = subst Kind (sym (eqb-true k 7 q)) delete
    go false p false q true r d s = subst Kind (sym (eqb-true k 8 r)) nothing
    go false p false q false r true s = subst Kind (sym (eqb-true k 4 s)) ack
    go false p false q false r false s = other k (simp (p, q, r, s))

module _ (s : List ℕ) (bytes : AreBytes s) where
  high_of : (i : ℕ) → two_at s i / 256 ≡ get_or s i 0
  high_of i = high (get_or s i 0) (get_or s (i + 1) 0) 256 (bytes (i + 1)) (lit< tt)

  low_of : (i : ℕ) → two_at s i % 256 ≡ get_or s (i + 1) 0
  low_of i = low (get_or s i 0) (get_or s (i + 1) 0) 256 (bytes (i + 1))

  two_fits : (i : ℕ) → two_at s i < 65536
  two_fits i = omega (arith, bytes i, bytes (i + 1))

  first_of : (i : ℕ) → four_at s i / 65536 ≡ two_at s i
  first_of i = high (two_at s i) (two_at s (i + 2)) 65536 (two_fits (i + 2)) (lit< tt)

  second_of : (i : ℕ) → four_at s i % 65536 ≡ two_at s (i + 2)
  second_of i = low (two_at s i) (two_at s (i + 2)) 65536 (two_fits (i + 2))

  bytes_of_fields : {k : ℕ} → Kind k → get_or s 0 0 ≡ k → length s ≡ size_of_kind k → 1 ≤ length s → bytes_of (fields_of k s) ≡ s
  unfolding bytes_of places
  bytes_of_fields insert e n h = simp (first_of, second_of, high_of, low_of) (sym (rw e at (spread s 17 n)))
  bytes_of_fields delete e n h = simp (high_of, low_of) (sym (rw e at (spread s 12 n)))
  bytes_of_fields nothing e n h = simp (high_of, low_of) (sym (rw e at (spread s 10 n)))
  bytes_of_fields ack e n h = simp (high_of, low_of) (sym (rw e at (spread s 5 n)))
  bytes_of_fields (other k none) e n h = absurd (omega arith)

chosen : (b : Bool) (x y : Message) → cond b (Some x) None ≡ Some y → (b ≡ true) × (x ≡ y)
chosen true x y e = (refl, cc)
chosen false x y e = (cc, cc)

module _ (s : List ℕ) (m : Message) (e : parsed s ≡ Some m) where
  -- what holds of bytes that read as a message
  parts : (1 ≤ length s) × (length s ≡ size_of_kind (get_or s 0 0)) × (in_range (fields_of (get_or s 0 0) s) ≡ true) × (fields_of (get_or s 0 0) s ≡ m)
  unfolding parsed
  parts =
      let some = leb 1 (length s) in
      let whole = eqb (length s) (size_of_kind (get_or s 0 0)) in
      let ranged = in_range (fields_of (get_or s 0 0) s) in
      let tests = chosen (some && whole && ranged) _ _ e in
      let outer = both (some && whole) ranged tests.0 in
      let inner = both some whole outer.0 in
      (leb-true _ _ inner.0, eqb-true _ _ inner.1, outer.1, tests.1)

  read_in_range : in_range m ≡ true
  read_in_range = rw parts.3 at parts.2

  read_written : AreBytes s → bytes_of m ≡ s
  read_written bytes = rw (← parts.3) (bytes_of_fields s bytes (kind (get_or s 0 0)) refl parts.1 parts.0)

others_refused : (s : List ℕ) → AreBytes s → ((m : Message) → in_range m ≡ true → bytes_of m ≡ s → ⊥) → parsed s ≡ None
others_refused s bytes none = found (parsed s) refl
  where
    found : (r : Option Message) → parsed s ≡ r → parsed s ≡ None
    found None e = e
    found (Some m) e = absurd (none m (read_in_range s m e) (read_written s m e bytes))

-- ---- the numbers of a message in range are bytes

data Each : List ℕ → Type 0 where
  none : Each []
  one : (a : ℕ) {s : List ℕ} → a < 256 → Each s → Each (a ∷ s)

each : {s : List ℕ} → Each s → AreBytes s
each none i = lit< tt
each (one a h hs) zero = h
each (one a h hs) (suc i) = each hs i

pair : (n : ℕ) {s : List ℕ} → n < 65536 → Each s → Each (n / 256 ∷ n % 256 ∷ s)
pair n h hs = one (n / 256) ((div-lt_iff_lt-mul (lit< tt)).1 h) (one (n % 256) (mod-lt n (lit< tt)) hs)

all_header : (h : Header) (s : List ℕ) → header_in_range h ≡ true → Each s → Each (header h ++ s)
all_header h s e hs =
    let b = header_bounds h e in
    one h.line (omega arith) (one h.direction (omega arith) (pair h.number (omega arith) (pair h.seen (omega arith) hs)))

all_origin : (h : Header) → header_in_range h ≡ true → Each (origin h.origin)
all_origin h e =
    let b = header_bounds h e in
    one h.origin.line (omega arith) (pair h.origin.number (omega arith) none)

all_bytes : (m : Message) → in_range m ≡ true → Each (bytes_of m)
unfolding bytes_of in_range
all_bytes (Insert h p x r) e =
    let b = insert_bounds h p x r e in
    let item : x / 65536 < 65536 = (div-lt_iff_lt-mul (lit< tt)).1 (omega arith) in
    let rest = one r (omega arith) (all_origin h b.header_in_range_lem) in
    one 5 (lit< tt)
    (all_header h _ b.header_in_range_lem (pair p (omega arith) (pair (x / 65536) item (pair (x % 65536) (mod-lt x (lit< tt)) rest))))
all_bytes (Delete h p) e =
    let b = delete_bounds h p e in
    one 7 (lit< tt) (all_header h _ b.header_in_range_lem (pair p (omega arith) (all_origin h b.header_in_range_lem)))
all_bytes (Nothing h) e = one 8 (lit< tt) (all_header h _ e (all_origin h e))
all_bytes (Ack l d s) e =
    let b = ack_bounds l d s e in
    one 4 (lit< tt) (one l (omega arith) (one d (omega arith) (pair s (omega arith) none)))

pub codec : Codec
codec =
    record {
      written_read = written_read;
      read_written = λ s m bytes e. read_written s m e bytes;
      read_in_range = read_in_range;
      others_refused = others_refused;
      injective = injective;
      sized = sized;
      are_bytes_lem = λ m e. each (all_bytes m e);
    }
