-- What the loops over a line's slots compute, and question 2 of the line from it.
use Prim.Native.Nat.{ℕ, zero, suc, ◌+◌, ◌-◌, ◌*◌, ◌/◌, ◌≤◌, ◌<◌}
use native.Mathlib.Nat.{zero-add}
use native.Mathlib.Omega.{arith}
use mathlib.Core.Path.{◌≡◌, refl, ap, ap₂, ◌∙◌, sym}
use mathlib.Core.Bool.{Bool, true, false, ◌&&◌, cond, and-true, and-false, and_assoc}
use mathlib.Core.List.{List, [], ◌∷◌}
use lib.Dec.{leb, ltb, eqb}
use lib.ListN.{length, get_or, take, drop}
use lib.Seq.{get_or-take, get_or-drop}
use borrow.Author.Tests.{lt-leb, le-leb, lt-ltb, le-ltb, eq-eqb, leb-true}
use Rattle.limits.specs.Limits.{max_pending, max_edits, max_inserts}
use Rattle.ot.specs.Edit.{Edit}
use Rattle.list.specs.Items.{all_zero}
use Rattle.model.specs.Cross.{placed, all_placed, priority, priorities}
use Rattle.model.specs.Questions.{every}
use Rattle.pending.specs.Slots.{size, edit_in, edits_from, all_from}
use Rattle.pending.proofs.Slots.{edits_length}
use Rattle.line.specs.declared.Line.{Line}
use Rattle.line.specs.Line.{pending_in}
use Rattle.line.specs.Sound.{tidy_at, empty_at, sound_line}
use Rattle.line.specs.Slots.{right_slot, kept_slot, kept_at, right_at, zero_at, sound_slots, counts_sound}
use Rattle.line.proofs.All.{all_split, all_each, each_all, all_same, all_both, all_shifted, is_zero, all_zeros, all_parted}
use Rattle.line.proofs.Right.{right_same, empty_right}

-- the slots in use, by eights
abbrev pub eights : ℕ → ℕ
eights count = (count + 7) / 8 * 8

pub eights_hold : (count : ℕ) → count ≤ max_pending → (count ≤ eights count) × (eights count ≤ max_pending)
eights_hold count h = (omega arith, omega arith)

-- ---- the slots, lent as places and items

module _ (good : ℕ → Bool) (ps xs : List ℕ) (count : ℕ) where
  abbrev slot_is : ℕ → Bool → Bool
  slot_is i used = kept_slot good used (get_or ps i 0) (get_or xs i 0)

  pub slots_many : max_pending < count → false ≡ sound_slots good count ps xs
  unfolding sound_slots
  slots_many h = rw (lt-leb count max_pending h)

  -- an empty slot is a right one: so a test of more slots says nothing more where the others are zero
  few_right : (slots : ℕ) → count ≤ slots → slots ≤ max_pending → all_from (zero_at ps xs) count (max_pending - count) ≡ true
      → all_from (right_at good ps xs) count (slots - count) ≡ true
  few_right slots few most z =
      each_all (right_at good ps xs) count (slots - count)
      (λ i h. empty_right good (get_or ps (count + i) 0) (get_or xs (count + i) 0) (all_each (zero_at ps xs) count (max_pending - count) z i (omega arith)))

  absorbed : (r x z : Bool) → (z ≡ true → x ≡ true) → ((r && x) && z) ≡ (r && z)
  absorbed r x false f = and-false (r && x) ∙ sym (and-false r)
  absorbed r x true f = and-true (r && x) ∙ ap (λ (b : Bool). r && b) (f refl)

  -- the loop over the places and items that were cut off, and the words past the first count
  pub slots_parted : (slots : ℕ) (right places items : Bool) → count ≤ slots → slots ≤ max_pending → length ps ≡ max_pending → length xs ≡ max_pending
      → right ≡ all_from (right_at good (take slots ps) (take slots xs)) 0 slots → places ≡ all_zero (drop count ps) → items ≡ all_zero (drop count xs)
      → ((right && places) && items) ≡ sound_slots good count ps xs
  unfolding sound_slots
  slots_parted slots right places items few most lp lx er ep ex =
      let rest : ℕ = max_pending - count in
      let first : Bool = all_from (right_at good ps xs) 0 count in
      let more : Bool = all_from (right_at good ps xs) count (slots - count) in
      let zeros : Bool = all_from (zero_at ps xs) count rest in
      let all : slots ≡ count + (slots - count) = omega arith in
      let looked : right ≡ (first && more) =
      er
      ∙ all_same (right_at good (take slots ps) (take slots xs)) (right_at good ps xs) 0 slots
      (λ i h. ap₂ (right_slot good) (get_or-take slots ps (0 + i) 0 (omega arith)) (get_or-take slots xs (0 + i) 0 (omega arith)))
      ∙ ap (all_from (right_at good ps xs) 0) all ∙ all_split (right_at good ps xs) 0 count (slots - count)
      ∙ ap (λ (k : ℕ). first && all_from (right_at good ps xs) k (slots - count)) (zero-add count) in
      let empty : (places && items) ≡ zeros =
      ap₂ (λ (a b : Bool). a && b) (ep ∙ all_zeros ps count rest (omega arith)) (ex ∙ all_zeros xs count rest (omega arith))
      ∙ sym (all_both (is_zero ps) (is_zero xs) count rest) in
      and_assoc right places items ∙ ap₂ (λ (a b : Bool). a && b) looked empty
      ∙ absorbed first more zeros (few_right slots few most)
      ∙ sym (all_parted (kept_at good count ps xs) (right_at good ps xs) (zero_at ps xs) count max_pending (omega arith)
      (λ i h. ap (slot_is i) (lt-ltb i count h)) (λ i h k. ap (slot_is i) (le-ltb i count h)))
      ∙ ap (λ (b : Bool). b && all_from (kept_at good count ps xs) 0 max_pending) (sym (le-leb count max_pending (omega arith)))

-- two tests of the priorities that there are
pub slots_same : (f g : ℕ → Bool) → ((r : ℕ) → 1 ≤ r → f r ≡ g r) → (count : ℕ) (ps xs : List ℕ) → sound_slots f count ps xs ≡ sound_slots g count ps xs
unfolding sound_slots
slots_same f g same count ps xs =
    ap (λ (b : Bool). leb count max_pending && b)
    (all_same (kept_at f count ps xs) (kept_at g count ps xs) 0 max_pending
    (λ i h.
    ap (λ (b : Bool). cond (ltb (0 + i) count) b (zero_at ps xs (0 + i))) (right_same f g same (get_or ps (0 + i) 0) (get_or xs (0 + i) 0))))

-- ---- the words of a line

-- what is lent of them
abbrev pub places_in : List ℕ → List ℕ
places_in words = take max_pending words

abbrev pub items_in : List ℕ → List ℕ
items_in words = take max_pending (drop max_pending words)

module _ (words : List ℕ) (i : ℕ) (h : i < max_pending) where
  place_lent : get_or (places_in words) i 0 ≡ get_or words i 0
  place_lent = get_or-take max_pending words i 0 h

  item_lent : get_or (items_in words) i 0 ≡ get_or words (max_pending + i) 0
  item_lent = get_or-take max_pending (drop max_pending words) i 0 h ∙ get_or-drop max_pending words i 0

  zero_lent : zero_at (places_in words) (items_in words) i ≡ empty_at words i
  zero_lent = ap₂ (λ (p x : ℕ). eqb p 0 && eqb x 0) place_lent item_lent

-- words that are all zero, slot by slot
pub zero_words : (words : List ℕ) → length words ≡ size → all_zero (drop 0 words) ≡ all_from (empty_at words) 0 max_pending
zero_words words long =
    all_zeros words 0 (max_pending + max_pending) (sym long) ∙ all_split (is_zero words) 0 max_pending max_pending
    ∙ ap (λ (b : Bool). all_from (is_zero words) 0 max_pending && b) (sym (all_shifted (is_zero words) max_pending 0 max_pending))
    ∙ sym (all_both (is_zero words) (λ i. is_zero words (max_pending + i)) 0 max_pending)

-- of a line with nothing pending the slots are those words
pub slots_none : (good : ℕ → Bool) (words : List ℕ) → length words ≡ size
    → all_zero (drop 0 words) ≡ sound_slots good 0 (places_in words) (items_in words)
unfolding sound_slots
slots_none good words long =
    zero_words words long
    ∙ all_same (empty_at words) (kept_at good 0 (places_in words) (items_in words)) 0 max_pending
    (λ i h. sym (ap (slot_is good (places_in words) (items_in words) 0 (0 + i)) (le-ltb (0 + i) 0 (omega arith)) ∙ zero_lent words (0 + i) (omega arith)))

swap : (a b c p q r : Bool) → ((a && (b && c)) && (p && (q && r))) ≡ ((a && p) && ((b && q) && (c && r)))
swap false b c p q r = refl
swap true false c false q r = refl
swap true false c true q r = refl
swap true true false false q r = refl
swap true true false true false r = refl
swap true true false true true r = refl
swap true true true false q r = refl
swap true true true true q r = refl

module _ (right : ℕ → Bool) (words : List ℕ) where
  -- slot i is in use
  abbrev right_in : ℕ → Bool
  right_in i = right_slot right (get_or words i 0) (get_or words (max_pending + i) 0)

  right_all : (from count : ℕ) → all_from right_in from count
      ≡ (all_placed (edits_from words from count) && (priorities right (edits_from words from count) && all_from (tidy_at words) from count))
  unfolding all_from edits_from all_placed priorities
  right_all from zero = refl
  right_all from (suc count) =
      let es : List Edit = edits_from words (suc from) count in
      ap (λ (b : Bool). right_in from && b) (right_all (suc from) count)
      ∙ swap (placed (edit_in words from)) (priority right (edit_in words from)) (tidy_at words from) (all_placed es) (priorities right es) (all_from (tidy_at words) (suc from) count)

  kept_words : (count : ℕ) → count ≤ max_pending → all_from (kept_at right count (places_in words) (items_in words)) 0 max_pending
      ≡ (all_from right_in 0 count && all_from (empty_at words) count (max_pending - count))
  kept_words count few =
      all_parted (kept_at right count (places_in words) (items_in words)) right_in (empty_at words) count max_pending few
      (λ i h.
      ap (slot_is right (places_in words) (items_in words) count i) (lt-ltb i count h)
      ∙ ap₂ (right_slot right) (place_lent words i (omega arith)) (item_lent words i (omega arith)))
      (λ i h k. ap (slot_is right (places_in words) (items_in words) count i) (le-ltb i count h) ∙ zero_lent words i k)

-- ---- question 2 of the line

pub four : (a b c d : Bool) → (((a && b) && c) && d) ≡ every (a ∷ b ∷ c ∷ d ∷ [])
four a b c d = and_assoc (a && b) c d ∙ and_assoc a b (c && d) ∙ ap (λ (t : Bool). a && (b && (c && t))) (sym (and-true d))

-- The code tests the counts and then the slots: limit on edits (e), acked (a), both limits on inserts (i), then the count (c) and each slot (k).
regroup : (e a i c k l p q d m : Bool) → l ≡ true → (c ≡ true → k ≡ ((p && (q && d)) && m))
    → ((e && (a && i)) && (c && k)) ≡ ((e && (a && (c && (l && (p && (q && i)))))) && (d && m))
regroup false a i c k l p q d m y s = refl
regroup true false i c k l p q d m y s = refl
regroup true true i false k l p q d m y s = and-false i
regroup true true i true k l p q d m y s =
    ap (λ (b : Bool). i && b) (s refl) ∙ go p q ∙ ap (λ (b : Bool). (b && (p && (q && i))) && (d && m)) (sym y)
  where
    go : (p' q' : Bool) → (i && ((p' && (q' && d)) && m)) ≡ ((p' && (q' && i)) && (d && m))
    go false q' = and-false i
    go true false = and-false i
    go true true = refl

module _ (edits : ℕ) (right : ℕ → Bool) (v : Line) (words : List ℕ) where
  abbrev count : ℕ
  count = v.made - v.acked

  -- what the code tests is the definition
  pub line_is : (counts_sound edits v && sound_slots right count (places_in words) (items_in words)) ≡ sound_line edits right v words
  unfolding sound_slots sound_line
  line_is =
      let es : List Edit = pending_in v words in
      let unused : Bool = all_from (empty_at words) count (max_pending - count) in
      regroup (leb edits max_edits) (leb v.acked v.made) (leb v.inserts max_inserts && (leb v.inserts edits && true)) (leb count max_pending)
      (all_from (kept_at right count (places_in words) (items_in words)) 0 max_pending) (eqb (length es) count) (all_placed es) (priorities right es)
      (all_from (tidy_at words) 0 count) unused (eq-eqb (length es) count (edits_length words 0 count))
      (λ t. kept_words right words count (leb-true count max_pending t) ∙ ap (λ (b : Bool). b && unused) (right_all right words 0 count))
