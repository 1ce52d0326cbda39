-- The words of a line and the edits that they hold: both ways, one edit more, and what is left once some are acknowledged.
use mathlib.Core.Path.{◌≡◌, refl, ap, ap₂, sym, ◌∙◌}
use mathlib.Core.Bool.{Bool, true}
use mathlib.Core.List.{List, [], ◌∷◌, ◌++◌, map, map-append, append_assoc}
use Prim.Native.Nat.{ℕ, zero, suc, ◌+◌, ◌-◌, ◌≤◌, ◌<◌}
use native.Mathlib.Nat.{le_of_suc-le-suc, not-suc-le-zero, suc-add, zero-add}
use native.Mathlib.Omega.{arith}
use lib.ListN.{length, get_or, set, take, drop, replicate, length-append, length-drop, length-set, length-map, get_or-append, get_or-map}
use lib.Seq.{ext_get_or, set-append_left, take_at, drop-append-le, drop-append-add, get_or-append-add}
use Rattle.limits.specs.Limits.{max_items, max_pending}
use Rattle.ot.specs.declared.Form.{Form}
use Rattle.ot.specs.Edit.{Edit, Nothing, edit, form_of, item_of}
use Rattle.ot.specs.Laws.{within}
use Rattle.ot.proofs.Laws.{laws}
use Rattle.ot.proofs.Fits.{and_left, and_right}
use Rattle.list.specs.Items.{padded}
use Rattle.list.proofs.Pad.{pad_length, pad_get_or, pad_snoc}
use Rattle.model.specs.Cross.{placed, all_placed, priority, priorities}
use Rattle.pending.specs.Slots.{size, place_of, form_at, edit_in, edits_from, places_of, items_of, slots_of}
use Rattle.pending.specs.Crossing.{filled}
use Rattle.pending.proofs.Slot.{slot_read_back}

-- ---- the edits that words mean

pub edits_length : (words : List ℕ) (from count : ℕ) → length (edits_from words from count) ≡ count
unfolding edits_from
edits_length words from zero = refl
edits_length words from (suc count) = ap suc (edits_length words (suc from) count)

pub edits_at : (words : List ℕ) (from count i : ℕ) → i < count → get_or (edits_from words from count) i Nothing ≡ edit_in words (from + i)
unfolding edits_from
edits_at words from zero i h = absurd (not-suc-le-zero h)
edits_at words from (suc count) zero h =
    let e : from ≡ from + 0 = omega arith in
    ap (edit_in words) e
edits_at words from (suc count) (suc i) h =
    let e : suc from + i ≡ from + suc i = omega arith in
    edits_at words (suc from) count i (le_of_suc-le-suc h) ∙ ap (edit_in words) e

pub edits_drop : (words : List ℕ) (gone from count : ℕ) → drop gone (edits_from words from (gone + count)) ≡ edits_from words (from + gone) count
unfolding edits_from
edits_drop words zero from count =
    let e : from ≡ from + 0 = omega arith in
    ap (edits_from words from) (zero-add count) ∙ ap (λ (i : ℕ). edits_from words i count) e
edits_drop words (suc gone) from count =
    let e : suc from + gone ≡ from + suc gone = omega arith in
    ap (λ (n : ℕ). drop (suc gone) (edits_from words from n)) (suc-add gone count) ∙ edits_drop words gone (suc from) count
    ∙ ap (λ (i : ℕ). edits_from words i count) e

-- ---- the words for a list of edits: one number for each, and zeros behind them

module _ (word : Edit → ℕ) where
  numbers_length : (es : List Edit) → length es ≤ max_pending → length (padded 0 max_pending (map word es)) ≡ max_pending
  numbers_length es h = pad_length max_pending 0 (map word es) (rw length-map h)

  numbers_at : word Nothing ≡ 0 → (es : List Edit) (i : ℕ) → get_or (padded 0 max_pending (map word es)) i 0 ≡ word (get_or es i Nothing)
  numbers_at z es i = pad_get_or max_pending 0 (map word es) i ∙ ap (get_or (map word es) i) (sym z) ∙ get_or-map word es i Nothing

  numbers_append : (es : List Edit) (e : Edit) (v : ℕ) → length es < max_pending → v ≡ word e
      → set (padded 0 max_pending (map word es)) (length es) v ≡ padded 0 max_pending (map word (es ++ (e ∷ [])))
  numbers_append es e v h q =
      ap (set (padded 0 max_pending (map word es)) (length es)) q
      ∙ ap (λ (k : ℕ). set (padded 0 max_pending (map word es)) k (word e)) (sym (length-map es word))
      ∙ pad_snoc max_pending 0 (map word es) (word e) (rw length-map h)
      ∙ ap (padded 0 max_pending) (sym (map-append word es (e ∷ [])))

  map_drop : (n : ℕ) (es : List Edit) → drop n (map word es) ≡ map word (drop n es)
  map_drop zero es = refl
  map_drop (suc n) [] = refl
  map_drop (suc n) (e ∷ es) = map_drop n es

abbrev place : Edit → ℕ
place e = place_of (form_of e)

pub slots_length : (es : List Edit) → length es ≤ max_pending → length (slots_of es) ≡ size
unfolding slots_of
slots_length es h = rw (length-append, numbers_length place es h, numbers_length item_of es h)

-- ---- back and forth

placed_at : (es : List Edit) (i : ℕ) → all_placed es ≡ true → placed (get_or es i Nothing) ≡ true
unfolding all_placed within
placed_at [] i h = refl
placed_at (e ∷ es) zero h = and_left (placed e) (all_placed es) h
placed_at (e ∷ es) (suc i) h = placed_at es i (and_right (placed e) (all_placed es) h)

priority_at : (right : ℕ → Bool) (es : List Edit) (i : ℕ) → priorities right es ≡ true → priority right (get_or es i Nothing) ≡ true
unfolding priorities
priority_at right [] i h = refl
priority_at right (e ∷ es) zero h = and_left (priority right e) (priorities right es) h
priority_at right (e ∷ es) (suc i) h = priority_at right es i (and_right (priority right e) (priorities right es) h)

module _ (es : List Edit) (few : length es ≤ max_pending) (i : ℕ) where
  pub slots_place : i < max_pending → get_or (slots_of es) i 0 ≡ place_of (form_of (get_or es i Nothing))
  unfolding slots_of
  slots_place h = get_or-append (places_of es) (items_of es) 0 i (omega (arith, numbers_length place es few)) ∙ numbers_at place refl es i

  pub slots_item : get_or (slots_of es) (max_pending + i) 0 ≡ item_of (get_or es i Nothing)
  unfolding slots_of
  slots_item =
      ap (λ (n : ℕ). get_or (places_of es ++ items_of es) (n + i) 0) (sym (numbers_length place es few))
      ∙ get_or-append-add (places_of es) (items_of es) i 0 ∙ numbers_at item_of refl es i

-- edits with positions of 1 to 512 and priorities of 1 to 255 read back as they were written
pub slots_read_back : (right : ℕ → Bool) (es : List Edit) → length es ≤ max_pending → all_placed es ≡ true → priorities right es ≡ true
    → ((r : ℕ) → right r ≡ true → (1 ≤ r) × (r ≤ 255)) → edits_from (slots_of es) 0 (length es) ≡ es
slots_read_back right es h p q b =
    let long = edits_length (slots_of es) 0 (length es) in
    ext_get_or Nothing (edits_from (slots_of es) 0 (length es)) es long
    (λ i k.
    let inside : i < length es = omega arith in
    edits_at (slots_of es) 0 (length es) i inside ∙ ap (edit_in (slots_of es)) (zero-add i)
    ∙ ap₂ (λ (n x : ℕ). edit (form_at n) x) (slots_place es h i (omega arith)) (slots_item es h i)
    ∙ slot_read_back max_items (omega arith) right b (get_or es i Nothing) (placed_at es i p) (priority_at right es i q))

-- ---- one more edit, which brings an item only if it is an insert

set_append_add : (xs ys : List ℕ) (n v : ℕ) → set (xs ++ ys) (length xs + n) v ≡ xs ++ set ys n v
set_append_add [] ys n v = ap (λ (k : ℕ). set ys k v) (zero-add n)
set_append_add (x ∷ xs) ys n v = ap (λ (k : ℕ). set (x ∷ xs ++ ys) k v) (suc-add (length xs) n) ∙ ap (λ (l : List ℕ). x ∷ l) (set_append_add xs ys n v)

pub slots_append : (es : List Edit) (f : Form) (x : ℕ) → length es < max_pending → x ≡ item_of (edit f x)
    → set (set (slots_of es) (length es) (place_of f)) (max_pending + length es) x ≡ slots_of (es ++ (edit f x ∷ []))
unfolding slots_of
slots_append es f x h e =
    let n : ℕ = length es in
    let long : length (places_of es) ≡ max_pending = numbers_length place es (omega arith) in
    let first : set (places_of es) n (place_of f) ≡ places_of (es ++ (edit f x ∷ [])) =
    numbers_append place es (edit f x) (place_of f) h (ap place_of (sym (laws.form_of_lem f x))) in
    let second : set (items_of es) n x ≡ items_of (es ++ (edit f x ∷ [])) = numbers_append item_of es (edit f x) x h e in
    ap (λ (l : List ℕ). set l (max_pending + n) x) (set-append_left (places_of es) (items_of es) n (place_of f) (omega arith))
    ∙ ap (λ (k : ℕ). set (set (places_of es) n (place_of f) ++ items_of es) (k + n) x) (sym (length-set (places_of es) n (place_of f) ∙ long))
    ∙ set_append_add (set (places_of es) n (place_of f)) (items_of es) n x
    ∙ ap₂ (λ (a b : List ℕ). a ++ b) first second

-- ---- the first gone of gone + count edits go, and the others have other forms

places_forms : (es : List Edit) → map place_of (map form_of es) ≡ map place es
places_forms [] = refl
places_forms (e ∷ es) = ap (λ (l : List ℕ). place e ∷ l) (places_forms es)

-- the words of the edits that stay
words_left : (word : Edit → ℕ) (es : List Edit) (gone count : ℕ) (behind : List ℕ) → length es ≡ gone + count
    → take count (drop gone (map word es ++ behind)) ≡ map word (drop gone es)
words_left word es gone count behind n =
    let all : length (map word es) ≡ gone + count = length-map es word ∙ n in
    let rest : length (drop gone (map word es)) ≡ count = omega (arith, length-drop gone (map word es)) in
    ap (take count) (drop-append-le gone (map word es) behind (omega arith)) ∙ take_at (drop gone (map word es)) behind count rest
    ∙ map_drop word gone es

items_left : (es : List Edit) (gone count : ℕ) → length es ≡ gone + count → gone + count ≤ max_pending
    → take count (drop (max_pending + gone) (slots_of es)) ≡ map item_of (drop gone es)
unfolding slots_of
items_left es gone count n h =
    let long : length (places_of es) ≡ max_pending = numbers_length place es (omega arith) in
    ap (λ (k : ℕ). take count (drop (k + gone) (places_of es ++ items_of es))) (sym long)
    ∙ ap (take count) (drop-append-add (places_of es) (items_of es) gone)
    ∙ words_left item_of es gone count (replicate (max_pending - length (map item_of es)) 0) n

-- the places of the edits that stay, where their forms stay too
pub places_left : (es : List Edit) (gone count : ℕ) → length es ≡ gone + count
    → padded 0 max_pending (take count (drop gone (slots_of es))) ≡ filled (map form_of (drop gone es))
unfolding slots_of
places_left es gone count n =
    let zeros : List ℕ = replicate (max_pending - length (map place es)) 0 in
    ap (λ (l : List ℕ). padded 0 max_pending (take count (drop gone l))) (append_assoc (map place es) zeros (items_of es))
    ∙ ap (padded 0 max_pending) (words_left place es gone count (zeros ++ items_of es) n ∙ sym (places_forms (drop gone es)))

pub slots_replace : (es others : List Edit) (gone count : ℕ) (later : List ℕ) → length es ≡ gone + count → gone + count ≤ max_pending
    → later ≡ filled (map form_of others) → map item_of others ≡ map item_of (drop gone es)
    → later ++ padded 0 max_pending (take count (drop (max_pending + gone) (slots_of es))) ≡ slots_of others
unfolding slots_of
slots_replace es others gone count later n h l i =
    ap₂ (λ (a b : List ℕ). a ++ padded 0 max_pending b) (l ∙ ap (padded 0 max_pending) (places_forms others)) (items_left es gone count n h ∙ sym i)
