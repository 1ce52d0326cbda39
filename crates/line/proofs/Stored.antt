-- A line of the model in counts and words: it reads back as it was stored, and passes question 2 where the model's line does.
use Prim.Native.Nat.{ℕ, ◌+◌, ◌-◌, ◌≤◌, ◌<◌}
use native.Mathlib.Nat.{zero-add}
use native.Mathlib.Omega.{arith}
use mathlib.Core.Path.{◌≡◌, refl, ap, ◌∙◌, sym}
use mathlib.Core.Bool.{Bool, true, false, not, ◌&&◌}
use mathlib.Core.List.{List, [], ◌∷◌}
use lib.Dec.{leb, eqb}
use lib.ListN.{length, get_or, replicate, get_or-eq_default}
use borrow.Author.Tests.{eqb-true, eq-eqb, leb-true}
use Rattle.limits.specs.Limits.{max_pending}
use Rattle.ot.specs.Edit.{Edit, Nothing, form_of, item_of}
use Rattle.ot.proofs.Laws.{laws}
use Rattle.model.specs.Questions.{every}
use Rattle.model.specs.Line as model
use Rattle.model.proofs.Tests.{both, and_left, between_true, hold}
use Rattle.pending.specs.Slots.{size, place_of, form_in, edit_in, edits_from, slots_of, all_from}
pub use Rattle.pending.proofs.Slot.{Ranks}
use Rattle.pending.proofs.Slots.{edits_at, slots_place, slots_item, slots_read_back}
use Rattle.line.specs.declared.Line.{Line}
use Rattle.line.specs.Line.{line_of, counts_of}
use Rattle.line.specs.Sound.{right_priority, tidy_at, empty_at, tidy, sound_line, empty_line}
use Rattle.line.proofs.All.{each_all}
use Rattle.line.proofs.SoundWords.{empty_kept}

-- ---- the priorities that question 4 lets through fit a slot

pub own_ranks : (n rank : ℕ) → 1 ≤ rank → rank ≤ 255 → Ranks (right_priority n rank true)
own_ranks n rank low high r h =
    let e : rank ≡ r = eqb-true rank r h in
    (omega arith, omega arith)

pub other_ranks_lem : (n rank : ℕ) → n ≤ 255 → Ranks (right_priority n rank false)
other_ranks_lem n rank high r h =
    let b = between_true 1 n r (and_left (leb 1 r && leb r n) (not (eqb r rank)) h) in
    (b.0, omega (arith, b))

-- ---- the words of edits that read back

module _ (es : List Edit) (few : length es ≤ max_pending) (back : edits_from (slots_of es) 0 (length es) ≡ es) where
  read : (i : ℕ) → i < length es → get_or es i Nothing ≡ edit_in (slots_of es) i
  read i h =
      ap (λ (l : List Edit). get_or l i Nothing) (sym back) ∙ edits_at (slots_of es) 0 (length es) i h ∙ ap (edit_in (slots_of es)) (zero-add i)

  slot_tidy : (i : ℕ) → i < length es → tidy_at (slots_of es) i ≡ true
  slot_tidy i h =
      let words : List ℕ = slots_of es in
      let place : get_or words i 0 ≡ place_of (form_in words i) =
      slots_place es few i (omega arith) ∙ ap (λ (e : Edit). place_of (form_of e)) (read i h)
      ∙ ap place_of (laws.form_of_lem (form_in words i) (get_or words (max_pending + i) 0)) in
      let item : get_or words (max_pending + i) 0 ≡ item_of (edit_in words i) = slots_item es few i ∙ ap item_of (read i h) in
      both (eqb (get_or words i 0) (place_of (form_in words i))) (eqb (get_or words (max_pending + i) 0) (item_of (edit_in words i)))
      (eq-eqb (get_or words i 0) (place_of (form_in words i)) place)
      (eq-eqb (get_or words (max_pending + i) 0) (item_of (edit_in words i)) item)

  slot_empty : (i : ℕ) → length es ≤ i → i < max_pending → empty_at (slots_of es) i ≡ true
  slot_empty i h k =
      let words : List ℕ = slots_of es in
      let past : get_or es i Nothing ≡ Nothing = get_or-eq_default es Nothing h in
      both (eqb (get_or words i 0) 0) (eqb (get_or words (max_pending + i) 0) 0)
      (eq-eqb (get_or words i 0) 0 (slots_place es few i k ∙ ap (λ (e : Edit). place_of (form_of e)) past))
      (eq-eqb (get_or words (max_pending + i) 0) 0 (slots_item es few i ∙ ap item_of past))

  slots_tidy : tidy (length es) (slots_of es) ≡ true
  slots_tidy =
      both (all_from (tidy_at (slots_of es)) 0 (length es)) (all_from (empty_at (slots_of es)) (length es) (max_pending - length es))
      (each_all (tidy_at (slots_of es)) 0 (length es) (λ i h. ap (tidy_at (slots_of es)) (zero-add i) ∙ slot_tidy i h))
      (each_all (empty_at (slots_of es)) (length es) (max_pending - length es) (λ i h. slot_empty (length es + i) (omega arith) (omega arith)))

-- ---- a line of the model that passes question 2

module _ (edits : ℕ) (right : ℕ → Bool) (m : model.Line) (ranks : Ranks right) (sound : every (model.line_tests edits right m) ≡ true) where
  abbrev words : List ℕ
  words = slots_of m.pending

  count_is : length m.pending ≡ m.made - m.acked
  count_is = eqb-true (length m.pending) (m.made - m.acked) (hold (model.line_tests edits right m) sound).1.1.1.0

  few_pending : length m.pending ≤ max_pending
  few_pending = omega (arith, count_is, leb-true (m.made - m.acked) max_pending (hold (model.line_tests edits right m) sound).1.1.0)

  read_back : edits_from words 0 (length m.pending) ≡ m.pending
  read_back =
      let f = (hold (model.line_tests edits right m) sound).1.1.1.1 in
      slots_read_back right m.pending few_pending f.0 f.1.0 ranks

  pub stored_line : line_of (counts_of m) words ≡ m
  stored_line =
      ap (λ (es : List Edit). record { made = m.made; taken = m.taken; acked = m.acked; inserts = m.inserts; pending = es })
      (ap (edits_from words 0) (sym count_is) ∙ read_back)

  pub stored_sound : sound_line edits right (counts_of m) words ≡ true
  unfolding sound_line
  stored_sound =
      both (every (model.line_tests edits right (line_of (counts_of m) words))) (tidy (m.made - m.acked) words)
      (ap (λ (l : model.Line). every (model.line_tests edits right l)) stored_line ∙ sound)
      (ap (λ (k : ℕ). tidy k words) (sym count_is) ∙ slots_tidy m.pending few_pending read_back)

-- ---- a line that is not in use

pub no_words : slots_of [] ≡ replicate size 0
unfolding slots_of
no_words = refl

pub stored_empty : empty_line (counts_of model.no_line) (slots_of []) ≡ true
unfolding empty_line slots_of all_from
stored_empty = refl

pub stored_no_line : line_of (counts_of model.no_line) (slots_of []) ≡ model.no_line
unfolding edits_from
stored_no_line = refl

-- ---- counts and words that passed question 2

pub sound_tests_lem : (edits : ℕ) (right : ℕ → Bool) (v : Line) (words : List ℕ) → sound_line edits right v words ≡ true
    → every (model.line_tests edits right (line_of v words)) ≡ true
unfolding sound_line
sound_tests_lem edits right v words h =
    and_left (every (model.line_tests edits right (line_of v words))) (tidy (v.made - v.acked) words) h

pub empty_counts : (v : Line) (words : List ℕ) → empty_line v words ≡ true → v ≡ counts_of model.no_line
unfolding empty_line
empty_counts v words h =
    let tests : List Bool = eqb v.made 0 ∷ eqb v.taken 0 ∷ eqb v.acked 0 ∷ eqb v.inserts 0 ∷ [] in
    let f = hold tests (and_left (every tests) (all_from (empty_at words) 0 max_pending) h) in
    ap (λ (k : ℕ). counts k v.taken v.acked v.inserts) (eqb-true v.made 0 f.0)
    ∙ ap (λ (k : ℕ). counts 0 k v.acked v.inserts) (eqb-true v.taken 0 f.1.0)
    ∙ ap (λ (k : ℕ). counts 0 0 k v.inserts) (eqb-true v.acked 0 f.1.1.0)
    ∙ ap (counts 0 0 0) (eqb-true v.inserts 0 f.1.1.1.0)
  where
    counts : ℕ → ℕ → ℕ → ℕ → Line
    counts made taken acked inserts = record { made = made; taken = taken; acked = acked; inserts = inserts }

pub empty_line_lem : (v : Line) (words : List ℕ) → empty_line v words ≡ true → line_of v words ≡ model.no_line
unfolding edits_from
empty_line_lem v words h = ap (λ (u : Line). line_of u words) (empty_counts v words h)

pub empty_words : (v : Line) (words : List ℕ) → length words ≡ size → empty_line v words ≡ true → words ≡ slots_of []
empty_words v words long h = (empty_kept v words long h).whole ∙ ap (λ (l : model.Line). slots_of l.pending) (empty_line_lem v words h)
