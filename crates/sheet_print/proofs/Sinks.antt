-- Laws of writing into a lent buffer.
use Prim.Native.Nat.{ℕ, suc, ◌+◌, ◌-◌, ◌<◌, ◌≤◌, min}
use mathlib.Core.Path.{◌≡◌, refl, sym, ap, ◌∙◌}
use mathlib.Core.Bool.{Bool, true, false, ◌&&◌, cond}
use mathlib.Core.List.{List, [], ◌∷◌, ◌++◌, append_assoc}
use native.Mathlib.Numerals.{add-one}
use native.Mathlib.Nat.{add-zero, zero-add}
use native.Mathlib.Omega.{arith}
use borrow.Author.Tests.{eqb-false, ltb-true, ltb-false, lt-ltb, le-ltb}
use lib.Dec.{ltb}
use lib.ListN.{length, get_or, take, drop, set, length-set, length-append, take-append-drop, drop_of_length-le}
use lib.Seq.{drop-cons, take-suc-set, drop-set-lt, length-take-le}
use Rattle.sheet_print.specs.Sink.{Sink, sink, put, puts, Printed}

-- a property of both cases of a test
pub both : {A : Type 0} (P : A → Type 0) (t : Bool) (x y : A) → P x → P y → P (cond t x y)
both P true x y p q = p
both P false x y p q = q

pub and_left : (a b : Bool) → (a && b) ≡ true → a ≡ true
and_left true b h = refl
and_left false b h = h

pub and_right : (a b : Bool) → (a && b) ≡ true → b ≡ true
and_right true b h = h
and_right false b h = absurd (eqb-false 0 1 refl (ap (λ t. cond t 1 0) h))

pub put_length : (b : ℕ) (s : Sink) → length (put b s).buffer ≡ length s.buffer
unfolding put
put_length b s = both (λ (z : Sink). length z.buffer ≡ length s.buffer) (ltb s.at (length s.buffer)) (sink (set s.buffer s.at b) (s.at + 1)) s (length-set s.buffer s.at b) refl

pub puts_length : (bs : List ℕ) (s : Sink) → length (puts bs s).buffer ≡ length s.buffer
unfolding puts
puts_length [] s = refl
puts_length (b ∷ bs) s = puts_length bs (put b s) ∙ put_length b s

pub puts_append : (a b : List ℕ) (s : Sink) → puts (a ++ b) s ≡ puts b (puts a s)
unfolding puts
puts_append [] b s = refl
puts_append (x ∷ a) b s = puts_append a b (put x s)

-- one text after another
pub then : (a b : List ℕ) (s : Sink) {t u : Sink} → t ≡ puts a s → u ≡ puts b t → u ≡ puts (a ++ b) s
then a b s {t} {u} p q = q ∙ ap (puts b) p ∙ sym (puts_append a b s)

-- a byte after a text
pub then_byte : (a : List ℕ) (b : ℕ) (s : Sink) {t u : Sink} → t ≡ puts a s → u ≡ put b t → u ≡ puts (a ++ (b ∷ [])) s
unfolding puts
then_byte a b s p q = then a (b ∷ []) s p q

-- one turn of a loop that writes the bytes of s
pub turn : (s : List ℕ) (i : ℕ) (a : Sink) {b z : Sink} → i < length s → b ≡ put (get_or s i 0) a → puts (drop i s) a ≡ z → puts (drop (i + 1) s) b ≡ z
unfolding puts
turn s i a {b} {z} h e r =
    ap (puts (drop (i + 1) s)) e ∙ ap (λ n. puts (drop n s) (put (get_or s i 0) a)) (add-one i)
    ∙ ap (λ l. puts l a) (sym (drop-cons s i 0 h)) ∙ r

-- after the last byte of s
pub puts_end : (s : List ℕ) (i : ℕ) (a : Sink) → length s ≤ i → puts (drop i s) a ≡ a
unfolding puts
puts_end s i a h = rw (drop_of_length-le s h)

-- How many bytes are written, and where they stand.
abbrev reach : List ℕ → List ℕ → ℕ → ℕ
reach bs l k = min (length bs) (length l - k)

full : (bs l : List ℕ) (k : ℕ) → length l ≤ k → puts bs (sink l k) ≡ sink l k
unfolding puts put
full [] l k h = refl
full (b ∷ bs) l k h = rw (le-ltb k (length l) h) (full bs l k h)

put_room : (b : ℕ) (l : List ℕ) (k : ℕ) → k < length l → put b (sink l k) ≡ sink (set l k b) (k + 1)
unfolding put
put_room b l k h = rw (lt-ltb k (length l) h)

next_is : (b : ℕ) (bs l : List ℕ) (k m : ℕ) → k < length l
    → sink (take (k + 1) (set l k b) ++ (take m bs ++ drop (k + 1 + m) (set l k b))) (k + 1 + m)
    ≡ sink (take k l ++ (take (suc m) (b ∷ bs) ++ drop (k + suc m) l)) (k + suc m)
next_is b bs l k m h =
    let e : k + 1 + m ≡ k + suc m = omega arith in
    rw (e, add-one k, take-suc-set l k b h, drop-set-lt (k + suc m) l k b (omega arith), append_assoc (take k l) (b ∷ []) (take m bs ++ drop (k + suc m) l))

puts_is : (bs l : List ℕ) (k m : ℕ) → k ≤ length l → m ≡ reach bs l k → puts bs (sink l k) ≡ sink (take k l ++ (take m bs ++ drop (k + m) l)) (k + m)
unfolding puts
puts_is [] l k m h e =
    let z : m ≡ 0 = omega arith in rw (z, add-zero k) (ap (λ x. sink x k) (sym (take-append-drop k l)))
puts_is (b ∷ bs) l k m h e = go (ltb k (length l)) refl (λ small r. puts_is bs (set l k b) (k + 1) (m - 1) (rw length-set (omega arith)) (rw length-set r))
  where
    go : (t : Bool) → ltb k (length l) ≡ t
        → (k < length l → m - 1 ≡ reach bs l (k + 1) → puts bs (sink (set l k b) (k + 1)) ≡ sink (take (k + 1) (set l k b) ++ (take (m - 1) bs ++ drop (k + 1 + (m - 1)) (set l k b))) (k + 1 + (m - 1)))
        → puts bs (put b (sink l k)) ≡ sink (take k l ++ (take m (b ∷ bs) ++ drop (k + m) l)) (k + m)
    go true q ih =
        let small = ltb-true k (length l) q in
        let one : m ≡ suc (m - 1) = omega arith in
        ap (puts bs) (put_room b l k small) ∙ ih small (omega arith) ∙ next_is b bs l k (m - 1) small
        ∙ ap (λ x. sink (take k l ++ (take x (b ∷ bs) ++ drop (k + x) l)) (k + x)) (sym one)
    go false q ih =
        let large = ltb-false k (length l) q in
        let z : m ≡ 0 = omega arith in
        full (b ∷ bs) l k large ∙ rw (z, add-zero k) (ap (λ x. sink x k) (sym (take-append-drop k l)))

-- a whole output, from the front of a buffer
printed_by : (o l after : List ℕ) (n m : ℕ) → m ≡ min (length o) (length l) → sink after n ≡ sink (take 0 l ++ (take m o ++ drop (0 + m) l)) (0 + m)
    → Printed o l after n
printed_by o l after n m e q =
    let k = ap (λ (s : Sink). s.at) q ∙ zero-add m in
    record { count = k ∙ e; bytes = ap (λ (s : Sink). s.buffer) q ∙ rw (zero-add m, k) }

pub printed : (o l after : List ℕ) (n : ℕ) → sink after n ≡ puts o (sink l 0) → Printed o l after n
printed o l after n e = printed_by o l after n (min (length o) (length l)) refl (e ∙ puts_is o l 0 (min (length o) (length l)) (omega arith) (omega arith))

-- what was written is within the buffer
pub printed_within : {o before after : List ℕ} {n : ℕ} → Printed o before after n → n ≤ length after
printed_within {o} {before} {after} {n} p =
    let k = p.count in
    let l = ap length p.bytes ∙ length-append (take n o) (drop n before) in
    let t = length-take-le n o (omega arith) in
    omega arith
