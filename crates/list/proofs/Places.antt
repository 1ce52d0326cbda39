-- Laws of places: an origin as a word, the items and the origins of a list, an edit on both, and the initial list.
use Prim.Native.Nat.{ℕ, zero, suc, ◌+◌, ◌*◌, ◌/◌, ◌%◌, ◌≤◌, ◌<◌}
use native.Mathlib.Nat.{div-add-mod', mod-lt, mul-add-div_right, mul-add-mod_self_right, div-eq_of_lt, mod-eq_of_lt, add-zero, le_of_suc-le-suc, not-suc-le-zero}
use native.Mathlib.Omega.{arith}
use mathlib.Core.Path.{◌≡◌, refl, ap, ap₂, sym, ◌∙◌, subst}
use mathlib.Core.Bool.{true}
use mathlib.Core.List.{List, [], ◌∷◌, ◌++◌, map}
use lib.Dec.{ltb, lit<}
use lib.ListN.{length, get_or, take, drop, set, replicate, length-map, length-replicate, drop_of_length-le}
use lib.Seq.{take_all}
use borrow.Author.Tests.{ltb-true, lt-ltb}
use Rattle.ot.specs.Edit.{Edit, Nothing, Delete, Insert, form_of, edit, applied, fits, size_after}
use Rattle.ot.proofs.Fits.{and_left, and_right, looked, alike, all_applied}
use Rattle.list.specs.declared.Origin.{Origin}
use Rattle.list.specs.Items.{capacity, padded, stored, edited, Room}
use Rattle.list.specs.Places.{Place, place_of, initial_from, initial_places, applied_by, word_of, origin_at, items_of, origins_of, places_of, numbered}
use Rattle.list.proofs.Array.{array}
use native.Mathlib.Numerals.{add-one}
use Rattle.list.proofs.Pad.{pad_front}
use Rattle.list.proofs.Sweep.{swept, swept_store, swept_to}

-- ---- an origin as a word

-- a number in two parts, of which the lower is below k
pub high : (b a k : ℕ) → a < k → 0 < k → (b * k + a) / k ≡ b
high b a k h z = mul-add-div_right z b a ∙ ap (λ (n : ℕ). b + n) (div-eq_of_lt h) ∙ add-zero b

pub low : (b a k : ℕ) → a < k → (b * k + a) % k ≡ a
low b a k h = mul-add-mod_self_right b k a ∙ mod-eq_of_lt h

pub word_of_at : (w : ℕ) → word_of (origin_at w) ≡ w
word_of_at w = div-add-mod' w 65536

pub words_of_at : (ws : List ℕ) → map word_of (map origin_at ws) ≡ ws
words_of_at [] = refl
words_of_at (w ∷ ws) = ap₂ (λ (v : ℕ) (l : List ℕ). v ∷ l) (word_of_at w) (words_of_at ws)

pub origin_at_of : (o : Origin) → o.number < 65536 → origin_at (word_of o) ≡ o
origin_at_of o h = rw (high o.line o.number 65536 h (lit< tt), low o.line o.number 65536 h) refl

-- ---- items and origins

pub items_length : (l : List Place) → length (items_of l) ≡ length l
items_length l = length-map l (λ (p : Place). p.item)

pub origins_length : (l : List Place) → length (origins_of l) ≡ length l
origins_length l = length-map l (λ (p : Place). word_of p.origin)

pub places_length : (xs ws : List ℕ) → length xs ≡ length ws → length (places_of xs ws) ≡ length xs
unfolding places_of
places_length [] ws e = refl
places_length (x ∷ xs) [] e = absurd (omega arith)
places_length (x ∷ xs) (w ∷ ws) e = ap suc (places_length xs ws (omega arith))

pub places_items : (xs ws : List ℕ) → length xs ≡ length ws → items_of (places_of xs ws) ≡ xs
unfolding places_of
places_items [] ws e = refl
places_items (x ∷ xs) [] e = absurd (omega arith)
places_items (x ∷ xs) (w ∷ ws) e = ap (λ (l : List ℕ). x ∷ l) (places_items xs ws (omega arith))

pub places_origins : (xs ws : List ℕ) → length xs ≡ length ws → origins_of (places_of xs ws) ≡ ws
unfolding places_of
places_origins [] [] e = refl
places_origins [] (w ∷ ws) e = absurd (omega arith)
places_origins (x ∷ xs) [] e = absurd (omega arith)
places_origins (x ∷ xs) (w ∷ ws) e =
    ap (λ (v : ℕ). v ∷ origins_of (places_of xs ws)) (word_of_at w) ∙ ap (λ (l : List ℕ). w ∷ l) (places_origins xs ws (omega arith))

pub places_take : (n : ℕ) (xs ws : List ℕ) → take n (places_of xs ws) ≡ places_of (take n xs) (take n ws)
unfolding places_of
places_take zero xs ws = refl
places_take (suc n) [] ws = refl
places_take (suc n) (x ∷ xs) [] = refl
places_take (suc n) (x ∷ xs) (w ∷ ws) = ap (λ (l : List Place). place_of (origin_at w) x ∷ l) (places_take n xs ws)

-- places that are read are numbered; numbered ones are read as they were
pub places_numbered : (xs ws : List ℕ) → numbered (places_of xs ws) ≡ true
unfolding places_of numbered
places_numbered [] ws = refl
places_numbered (x ∷ xs) [] = refl
places_numbered (x ∷ xs) (w ∷ ws) = rw (lt-ltb (w % 65536) 65536 (mod-lt w (lit< tt))) (places_numbered xs ws)

pub places_of_lem : (l : List Place) → numbered l ≡ true → places_of (items_of l) (origins_of l) ≡ l
unfolding places_of numbered
places_of_lem [] h = refl
places_of_lem (p ∷ l) h =
    let fits = ltb-true p.origin.number 65536 (and_left (ltb p.origin.number 65536) (numbered l) h) in
    ap (λ (o : Origin). place_of o p.item ∷ places_of (items_of l) (origins_of l)) (origin_at_of p.origin fits)
    ∙ ap (λ (r : List Place). p ∷ r) (places_of_lem l (and_right (ltb p.origin.number 65536) (numbered l) h))

-- ---- an edit

pub items_applied : (o : Origin) (e : Edit) (l : List Place) → items_of (applied_by o e l) ≡ applied e (items_of l)
items_applied o e l = looked (λ (p : Place). p.item) (place_of o) e l

-- the origins change as items would whose edit brings the origin
pub origins_applied : (o : Origin) (e : Edit) (l : List Place) → origins_of (applied_by o e l) ≡ applied (edit (form_of e) (word_of o)) (origins_of l)
origins_applied o e l = looked (λ (p : Place). word_of p.origin) (place_of o) e l ∙ alike (word_of o) e (origins_of l)

pub numbered_applied : (o : Origin) (e : Edit) (l : List Place) → o.number < 65536 → numbered l ≡ true → numbered (applied_by o e l) ≡ true
unfolding numbered
numbered_applied o e l h k =
    all_applied (λ (p : Place). ltb p.origin.number 65536) numbered (λ p ps. refl) (place_of o) e l (λ p x r z. lt-ltb o.number 65536 h) k

-- ---- the two arrays after an edit

-- room for an edit is room for one that brings another item
pub room_alike : {n m : ℕ} (y : ℕ) (e : Edit) → Room e n m → Room (edit (form_of e) y) n m
unfolding fits size_after
room_alike y Nothing r = r
room_alike y (Delete p) r = r
room_alike y (Insert p x s) r = record { fitting = r.fitting; before = r.before; after = r.after }

-- what the array of one part of the places becomes, where the edit e changes that part of them
array_of : (m : ℕ) (h : Place → ℕ) (e : Edit) (l k : List Place) → map h k ≡ applied e (map h l) → Room e (length l) m
    → edited e (length l) (padded 0 m (map h l)) ≡ padded 0 m (map h k)
array_of m h e l k s r =
    let n : length (map h l) ≡ length l = length-map l h in
    subst (λ (j : ℕ). edited e j (padded 0 m (map h l)) ≡ padded 0 m (applied e (map h l))) n (array m e (map h l) (subst (λ (j : ℕ). Room e j m) (sym n) r))
    ∙ ap (padded 0 m) (sym s)

pub items_edited : (o : Origin) (e : Edit) (l : List Place) → Room e (length l) capacity
    → edited e (length l) (stored (items_of l)) ≡ stored (items_of (applied_by o e l))
items_edited o e l r = array_of capacity (λ p. p.item) e l (applied_by o e l) (items_applied o e l) r

pub origins_edited : (o : Origin) (e : Edit) (l : List Place) → Room e (length l) capacity
    → edited (edit (form_of e) (word_of o)) (length l) (stored (origins_of l)) ≡ stored (origins_of (applied_by o e l))
origins_edited o e l r =
    array_of capacity (λ p. word_of p.origin) (edit (form_of e) (word_of o)) l (applied_by o e l) (origins_applied o e l) (room_alike (word_of o) e r)

-- ---- the initial list

from_length : (k : ℕ) (xs : List ℕ) → length (initial_from k xs) ≡ length xs
unfolding initial_from
from_length k [] = refl
from_length k (x ∷ xs) = ap suc (from_length (suc k) xs)

pub initial_length : (xs : List ℕ) → length (initial_places xs) ≡ length xs
initial_length xs = from_length 1 xs

from_items : (k : ℕ) (xs : List ℕ) → items_of (initial_from k xs) ≡ xs
unfolding initial_from
from_items k [] = refl
from_items k (x ∷ xs) = ap (λ (l : List ℕ). x ∷ l) (from_items (suc k) xs)

pub initial_items_lem : (xs : List ℕ) → items_of (initial_places xs) ≡ xs
initial_items_lem xs = from_items 1 xs

from_numbered : (k : ℕ) (xs : List ℕ) → k + length xs ≤ 65536 → numbered (initial_from k xs) ≡ true
unfolding initial_from numbered
from_numbered k [] h = refl
from_numbered k (x ∷ xs) h = rw (lt-ltb k 65536 (omega arith)) (from_numbered (suc k) xs (omega arith))

pub initial_numbered : (xs : List ℕ) → length xs ≤ 128 → numbered (initial_places xs) ≡ true
initial_numbered xs h = from_numbered 1 xs (omega arith)

-- the origins say nothing of the items
from_origins : (k : ℕ) (xs ys : List ℕ) → length xs ≡ length ys → origins_of (initial_from k xs) ≡ origins_of (initial_from k ys)
unfolding initial_from
from_origins k [] [] e = refl
from_origins k [] (y ∷ ys) e = absurd (omega arith)
from_origins k (x ∷ xs) [] e = absurd (omega arith)
from_origins k (x ∷ xs) (y ∷ ys) e = ap (λ (l : List ℕ). (0 * 65536 + k) ∷ l) (from_origins (suc k) xs ys (omega arith))

from_origin : (k : ℕ) (xs : List ℕ) (i : ℕ) → i < length xs → get_or (origins_of (initial_from k xs)) i 0 ≡ k + i
unfolding initial_from
from_origin k [] i h = absurd (not-suc-le-zero h)
from_origin k (x ∷ xs) zero h = omega arith
from_origin k (x ∷ xs) (suc i) h =
    let next : suc k + i ≡ k + suc i = omega arith in
    from_origin (suc k) xs i (le_of_suc-le-suc h) ∙ next

-- ---- the loop that puts the origins of an initial list of m items into m places that hold `first`, after i turns

abbrev words : ℕ → List ℕ
words m = origins_of (initial_places (replicate m 0))

abbrev pub Numbering : ℕ → List ℕ → List ℕ → ℕ → Type 0
Numbering m first a i = a ≡ swept (words m) first i

module _ (m : ℕ) (first : List ℕ) (room : length first ≡ m) where
  words_length : length (words m) ≡ m
  words_length = origins_length (initial_places (replicate m 0)) ∙ initial_length (replicate m 0) ∙ length-replicate m 0

  pub numbering_turn : (i : ℕ) (a : List ℕ) → i < m → Numbering m first a i → Numbering m first (set a i (i + 1)) (i + 1)
  numbering_turn i a h e =
      let long : length (replicate {A = ℕ} m 0) ≡ m = length-replicate m 0 in
      let number : i + 1 ≡ get_or (words m) i 0 = omega (arith, from_origin 1 (replicate m 0) i (omega arith)) in
      ap (λ (b : List ℕ). set b i (i + 1)) e ∙ ap (set (swept (words m) first i) i) number
      ∙ swept_store (words m) first i 0 (words_length ∙ sym room) (omega arith) ∙ ap (swept (words m) first) (sym (add-one i))

  -- the places behind them stay as they were: zero
  pub numbering_end : (n i : ℕ) (a list xs : List ℕ) → m ≤ i → Numbering m first a i → list ≡ replicate n 0 → length xs ≡ m
      → a ++ drop m list ≡ padded 0 n (origins_of (initial_places xs))
  numbering_end n i a list xs h e empty size =
      let ws = origins_of (initial_places xs) in
      let long : length ws ≡ m = origins_length (initial_places xs) ∙ initial_length xs ∙ size in
      let all : take m ws ≡ ws = take_all m ws (omega arith) in
      let numbers : a ≡ take m ws =
      e ∙ swept_to (words m) first i (drop_of_length-le (words m) {i = i} (omega (arith, words_length)) ∙ sym (drop_of_length-le first {i = i} (omega arith)))
      ∙ from_origins 1 (replicate m 0) xs (length-replicate m 0 ∙ sym size) ∙ sym all in
      pad_front n m 0 ws list a (ap (λ (l : List ℕ). length l) all ∙ long) numbers empty ∙ ap (padded 0 n) all
