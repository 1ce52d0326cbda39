-- Words that pass question 2 are those of the edits that they hold.
use Prim.Native.Nat.{ℕ, ◌+◌, ◌-◌, ◌≤◌, ◌<◌}
use native.Mathlib.Nat.{zero-add}
use native.Mathlib.Omega.{arith}
use mathlib.Core.Path.{◌≡◌, refl, ap, ap₂, ◌∙◌, sym}
use mathlib.Core.Bool.{Bool, true, false, ◌&&◌}
use mathlib.Core.List.{List, [], ◌∷◌}
use lib.Dec.{ltb, eqb}
use lib.ListN.{length, get_or, drop, get_or-eq_default}
use lib.Seq.{ext_get_or}
use borrow.Author.Tests.{eqb-true, leb-true, ltb-true, ltb-false}
use Rattle.limits.specs.Limits.{max_pending}
use Rattle.list.specs.Items.{all_zero}
use Rattle.ot.specs.Edit.{Edit, Nothing, form_of, item_of}
use Rattle.ot.proofs.Laws.{laws}
use Rattle.model.specs.Cross.{all_placed}
use Rattle.model.specs.Questions.{every}
use Rattle.model.specs.Line as model
use Rattle.model.proofs.Tests.{and_left, and_right, hold}
use Rattle.pending.specs.Slots.{size, place_of, form_in, edit_in, edits_from, slots_of, all_from}
use Rattle.pending.proofs.Slots.{edits_length, edits_at, slots_length, slots_place, slots_item}
use Rattle.line.specs.declared.Line.{Line}
use Rattle.line.specs.Line.{line_of, Kept}
use Rattle.line.specs.Sound.{tidy_at, empty_at, tidy, sound_line, empty_line}
use Rattle.line.specs.Slots.{sound_slots, counts_sound}
use Rattle.line.proofs.All.{all_each}
use Rattle.line.proofs.Tests.{slots_same, places_in, items_in, zero_words, four, line_is}

abbrev place_in : Edit → ℕ
place_in e = place_of (form_of e)

-- ---- the edits that words hold

module _ (words : List ℕ) (count : ℕ) (tidied : tidy count words ≡ true) where
  abbrev es : List Edit
  es = edits_from words 0 count

  -- slot i has the words of edit i, and those of nothing past the last one
  used : (i : ℕ) → i < count → (get_or words i 0 ≡ place_in (get_or es i Nothing)) × (get_or words (max_pending + i) 0 ≡ item_of (get_or es i Nothing))
  used i h =
      let at : get_or es i Nothing ≡ edit_in words i = edits_at words 0 count i h ∙ ap (edit_in words) (zero-add i) in
      let t : tidy_at words i ≡ true =
      ap (tidy_at words) (sym (zero-add i))
      ∙ all_each (tidy_at words) 0 count (and_left (all_from (tidy_at words) 0 count) (all_from (empty_at words) count (max_pending - count)) tidied) i h in
      let p : Bool = eqb (get_or words i 0) (place_of (form_in words i)) in
      let x : Bool = eqb (get_or words (max_pending + i) 0) (item_of (edit_in words i)) in (
        eqb-true (get_or words i 0) (place_of (form_in words i)) (and_left p x t)
            ∙ ap place_of (sym (laws.form_of_lem (form_in words i) (get_or words (max_pending + i) 0))) ∙ ap place_in (sym at),
        eqb-true (get_or words (max_pending + i) 0) (item_of (edit_in words i)) (and_right p x t) ∙ ap item_of (sym at),
      )

  unused : (i : ℕ) → count ≤ i → i < max_pending → (get_or words i 0 ≡ place_in (get_or es i Nothing)) × (get_or words (max_pending + i) 0 ≡ item_of (get_or es i Nothing))
  unused i h k =
      let past : get_or es i Nothing ≡ Nothing = get_or-eq_default es Nothing (omega (arith, edits_length words 0 count)) in
      let e : i ≡ count + (i - count) = omega arith in
      let t : empty_at words i ≡ true =
      ap (empty_at words) e
      ∙ all_each (empty_at words) count (max_pending - count) (and_right (all_from (tidy_at words) 0 count) (all_from (empty_at words) count (max_pending - count)) tidied) (i - count) (omega arith) in
      let p : Bool = eqb (get_or words i 0) 0 in
      let x : Bool = eqb (get_or words (max_pending + i) 0) 0 in (
        eqb-true (get_or words i 0) 0 (and_left p x t) ∙ ap place_in (sym past),
        eqb-true (get_or words (max_pending + i) 0) 0 (and_right p x t) ∙ ap item_of (sym past),
      )

  slot : (i : ℕ) → i < max_pending → (b : Bool) → ltb i count ≡ b
      → (get_or words i 0 ≡ place_in (get_or es i Nothing)) × (get_or words (max_pending + i) 0 ≡ item_of (get_or es i Nothing))
  slot i h true t = used i (ltb-true i count t)
  slot i h false t = unused i (ltb-false i count t) h

  pub tidy_whole : length words ≡ size → count ≤ max_pending → words ≡ slots_of es
  tidy_whole long h =
      let few : length es ≤ max_pending = omega (arith, edits_length words 0 count) in
      ext_get_or 0 words (slots_of es) (long ∙ sym (slots_length es few)) (λ i k. go few i (omega arith) (ltb i max_pending) refl)
    where
      go : length es ≤ max_pending → (i : ℕ) → i < size → (b : Bool) → ltb i max_pending ≡ b → get_or words i 0 ≡ get_or (slots_of es) i 0
      go few i k true t =
          let h : i < max_pending = ltb-true i max_pending t in
          (slot i h (ltb i count) refl).0 ∙ sym (slots_place es few i h)
      go few i k false t =
          let past : max_pending ≤ i = ltb-false i max_pending t in
          let e : i ≡ max_pending + (i - max_pending) = omega arith in
          ap (λ (j : ℕ). get_or words j 0) e ∙ (slot (i - max_pending) (omega arith) (ltb (i - max_pending) count) refl).1
          ∙ sym (slots_item es few (i - max_pending)) ∙ ap (λ (j : ℕ). get_or (slots_of es) j 0) (sym e)

-- ---- a line that passed

pub sound_kept : (edits : ℕ) (right : ℕ → Bool) (v : Line) (words : List ℕ) → length words ≡ size → sound_line edits right v words ≡ true → Kept v words
unfolding sound_line
sound_kept edits right v words long h =
    let tests : List Bool = model.line_tests edits right (line_of v words) in
    let f = hold tests (and_left (every tests) (tidy (v.made - v.acked) words) h) in
    let few : v.made - v.acked ≤ max_pending = leb-true (v.made - v.acked) max_pending f.1.1.0 in
    record {
      acked = leb-true v.acked v.made f.1.0;
      few = few;
      whole = tidy_whole words (v.made - v.acked) (and_right (every tests) (tidy (v.made - v.acked) words) h) long few;
      placed = f.1.1.1.1.0;
    }

pub empty_kept : (v : Line) (words : List ℕ) → length words ≡ size → empty_line v words ≡ true → Kept v words
unfolding empty_line edits_from all_from all_placed
empty_kept v words long h =
    let counts : List Bool = eqb v.made 0 ∷ eqb v.taken 0 ∷ eqb v.acked 0 ∷ eqb v.inserts 0 ∷ [] in
    let f = hold counts (and_left (every counts) (all_from (empty_at words) 0 max_pending) h) in
    let made : v.made ≡ 0 = eqb-true v.made 0 f.0 in
    let acked : v.acked ≡ 0 = eqb-true v.acked 0 f.1.1.0 in
    let none' : v.made - v.acked ≡ 0 = omega arith in
    record {
      acked = omega arith;
      few = omega arith;
      whole =
          tidy_whole words (v.made - v.acked)
          (ap (λ (k : ℕ). tidy k words) none' ∙ and_right (every counts) (all_from (empty_at words) 0 max_pending) h) long (omega arith);
      placed = ap (λ (k : ℕ). all_placed (edits_from words 0 k)) none';
    }

-- ---- what the two public tests answer

-- the counts and the slots of a line in use; count is its pending edits, and good tells of the priorities that there are
pub sound_answers : (edits : ℕ) (good right : ℕ → Bool) (v : Line) (words : List ℕ) (count : ℕ) (c s : Bool) → length words ≡ size
    → ((r : ℕ) → 1 ≤ r → good r ≡ right r) → count ≡ v.made - v.acked → c ≡ counts_sound edits v
    → s ≡ sound_slots good count (places_in words) (items_in words)
    → ((c && s) ≡ sound_line edits right v words) × ((c && s) ≡ true → Kept v words)
sound_answers edits good right v words count c s long same n ec es' =
    let slots : s ≡ sound_slots right count (places_in words) (items_in words) = es' ∙ slots_same good right same count (places_in words) (items_in words) in
    let asked : (c && s) ≡ sound_line edits right v words =
    ap₂ (λ (a b : Bool). a && b) ec (slots ∙ ap (λ (k : ℕ). sound_slots right k (places_in words) (items_in words)) n) ∙ line_is edits right v words in
    (asked, λ t. sound_kept edits right v words long (sym asked ∙ t))

-- the counts and the slots of a line that is not in use
pub empty_answers : (v : Line) (words : List ℕ) (s : Bool) → length words ≡ size
    → s ≡ all_zero (drop 0 words)
    → (((((eqb v.made 0 && eqb v.taken 0) && eqb v.acked 0) && eqb v.inserts 0) && s) ≡ empty_line v words)
    × ((((((eqb v.made 0 && eqb v.taken 0) && eqb v.acked 0) && eqb v.inserts 0) && s) ≡ true) → Kept v words)
unfolding empty_line
empty_answers v words s long e =
    let asked = ap₂ (λ (a b : Bool). a && b) (four (eqb v.made 0) (eqb v.taken 0) (eqb v.acked 0) (eqb v.inserts 0)) (e ∙ zero_words words long) in
    (asked, λ t. empty_kept v words long (sym asked ∙ t))
