-- The loop that takes an arriving form past the pending ones: its invariant, one turn, and the end.
use Prim.Native.Nat.{ℕ, zero, suc, ◌+◌, ◌-◌, ◌≤◌, ◌<◌}
use native.Mathlib.Nat.{le_of_suc-le-suc, not-suc-le-zero}
use native.Mathlib.Numerals.{add-one}
use native.Mathlib.Omega.{arith}
use mathlib.Core.Path.{◌≡◌, refl, ap, ◌∙◌, sym}
use mathlib.Core.Bool.{Bool, true, ◌&&◌, and-true, and_assoc}
use mathlib.Core.List.{List, [], ◌∷◌, map}
use lib.ListN.{length, get_or, take, drop, set, replicate, length-take, length-map, get_or-map}
use lib.Seq.{take_all, get_or-take, get_or-drop}
use Rattle.limits.specs.Limits.{max_pending, max_items}
use Rattle.ot.specs.declared.Form.{Form}
use Rattle.ot.specs.declared.Form.TheVariants.{Nothing, Delete, Insert}
use Rattle.ot.specs.Form.{position_of, moved}
use Rattle.ot.specs.Edit.{edit}
use Rattle.ot.specs.Laws.{within}
use Rattle.ot.proofs.Laws.{laws}
use Rattle.ot.proofs.Fits.{and_left, and_right, between_true}
use Rattle.list.proofs.Sweep.{swept}
use Rattle.list.proofs.Pad.{fill_turn, fill_end}
use Rattle.model.specs.Cross.{placed}
use Rattle.pending.specs.declared.Crossed.{Crossed}
use Rattle.pending.specs.Slots.{place_of, form_in}
use Rattle.pending.specs.Crossing.{forms_from, past_forms, over_forms, placed_forms, steps, crossed, Ready, filled}
use Rattle.pending.proofs.Forms.{steps_length}

-- ---- one step more of each recursion

past_more : (f : Form) (fs : List Form) (i : ℕ) → i < length fs → past_forms f (take (suc i) fs) ≡ moved (past_forms f (take i fs)) (get_or fs i Nothing)
unfolding past_forms
past_more f [] i h = absurd (not-suc-le-zero h)
past_more f (p ∷ fs) zero h = refl
past_more f (p ∷ fs) (suc i) h = past_more (moved f p) fs i (le_of_suc-le-suc h)

over_at : (f : Form) (fs : List Form) (i : ℕ) → i < length fs → get_or (over_forms f fs) i Nothing ≡ moved (get_or fs i Nothing) (past_forms f (take i fs))
unfolding past_forms over_forms
over_at f [] i h = absurd (not-suc-le-zero h)
over_at f (p ∷ fs) zero h = refl
over_at f (p ∷ fs) (suc i) h = over_at (moved f p) fs i (le_of_suc-le-suc h)

over_length : (f : Form) (fs : List Form) → length (over_forms f fs) ≡ length fs
unfolding over_forms
over_length f [] = refl
over_length f (p ∷ fs) = ap suc (over_length (moved f p) fs)

abbrev fine : Form → Bool
fine f = placed (edit f 0)

placed_more : (fs : List Form) (i : ℕ) → i < length fs → placed_forms (take (suc i) fs) ≡ (placed_forms (take i fs) && fine (get_or fs i Nothing))
unfolding placed_forms
placed_more [] i h = absurd (not-suc-le-zero h)
placed_more (f ∷ fs) zero h = and-true (fine f)
placed_more (f ∷ fs) (suc i) h =
    ap (λ (b : Bool). fine f && b) (placed_more fs i (le_of_suc-le-suc h))
    ∙ sym (and_assoc (fine f) (placed_forms (take i fs)) (fine (get_or fs i Nothing)))

-- ---- positions stay far below what 16 bits hold

placed_position : (f : Form) → fine f ≡ true → position_of f ≤ max_items
unfolding within
placed_position Nothing h = omega arith
placed_position (Delete p) h = (between_true 1 p max_items h).1
placed_position (Insert p r) h = (between_true 1 p max_items h).1

placed_at : (fs : List Form) (i : ℕ) → placed_forms fs ≡ true → position_of (get_or fs i Nothing) ≤ max_items
unfolding placed_forms
placed_at [] i h = omega arith
placed_at (f ∷ fs) zero h = placed_position f (and_left (fine f) (placed_forms fs) h)
placed_at (f ∷ fs) (suc i) h = placed_at fs i (and_right (fine f) (placed_forms fs) h)

past_position : (f : Form) (fs : List Form) → position_of (past_forms f fs) ≤ position_of f + length fs
unfolding past_forms
past_position f [] = omega arith
past_position f (p ∷ fs) = omega (arith, past_position (moved f p) fs, laws.moves f p)

-- ---- the forms that the loop reads

pub forms_length : (words : List ℕ) (from count : ℕ) → length (forms_from words from count) ≡ count
unfolding forms_from
forms_length words from zero = refl
forms_length words from (suc count) = ap suc (forms_length words (suc from) count)

pub forms_at : (words : List ℕ) (from count i : ℕ) → i < count → get_or (forms_from words from count) i Nothing ≡ form_in words (from + i)
unfolding forms_from
forms_at words from zero i h = absurd (not-suc-le-zero h)
forms_at words from (suc count) zero h =
    let e : from ≡ from + 0 = omega arith in
    ap (form_in words) e
forms_at words from (suc count) (suc i) h =
    let e : suc from + i ≡ from + suc i = omega arith in
    forms_at words (suc from) count i (le_of_suc-le-suc h) ∙ ap (form_in words) e

-- ---- the loop

-- a word of the slots that the loop goes through
pub slot_read : (words : List ℕ) (from count i : ℕ) → i < count → get_or (take (from + count - from) (drop from words)) i 0 ≡ get_or words (from + i) 0
slot_read words from count i h = get_or-take (from + count - from) (drop from words) i 0 (omega arith) ∙ get_or-drop from words i 0

-- the lent array after i turns
abbrev sofar : Form → List Form → ℕ → List ℕ
sofar f fs i = swept (filled (over_forms f fs)) (replicate max_pending 0) i

module _ (words : List ℕ) (from count : ℕ) (f : Form) where
  abbrev forms : List Form
  forms = forms_from words from count

  -- After i turns: the first i places are those of the later forms, and the arriving form stands past the first i.
  pub record Crossing (i : ℕ) (later : List ℕ) (current : Form) (good : Bool) : Type 0 where
    pub turns : i ≤ count
    pub places : later ≡ sofar f forms i
    pub form : current ≡ past_forms f (take i forms)
    pub fits : good ≡ placed_forms (take i (over_forms f forms))

  pub crossing_start : (later : List ℕ) → later ≡ replicate max_pending 0 → Crossing 0 later f true
  unfolding past_forms placed_forms
  crossing_start later z = record { turns = omega arith; places = z; form = refl; fits = refl }

module _ {words : List ℕ} {from count : ℕ} {f : Form} {i : ℕ} {later : List ℕ} {current : Form} {good : Bool}
    (ready : Ready from count words) (now : Crossing words from count f i later current good) where
  abbrev fs : List Form
  fs = forms_from words from count

  all : length fs ≡ count
  all = forms_length words from count

  over_all : length (over_forms f fs) ≡ count
  over_all = over_length f fs ∙ all

  -- both fit 16 bits, with room for one more
  pub pending_position : i < count → position_of (form_in words (from + i)) ≤ max_items
  pending_position h = rw (sym (forms_at words from count i h)) (placed_at fs i ready.placed)

  pub current_position : position_of current ≤ position_of f + max_pending
  current_position = rw now.form (omega (arith, past_position f (take i fs), length-take i fs, all, ready.few))

  short : length (map place_of (over_forms f fs)) ≤ max_pending
  short = rw length-map (omega (arith, over_all, ready.few))

  stored : (g : Form) (place : ℕ) → i < count → g ≡ get_or (over_forms f fs) i Nothing → place ≡ place_of g → set later i place ≡ sofar f fs (i + 1)
  stored g place h eg ep =
      fill_turn max_pending 0 (map place_of (over_forms f fs)) short i place later (omega (arith, ready.few)) now.places
      (ep ∙ ap place_of eg ∙ sym (get_or-map place_of (over_forms f fs) i Nothing))

  -- p is the pending form, g its later form, n the arriving form after it
  pub crossing_turn : (p g n : Form) (place : ℕ) (ok : Bool) → i < count → p ≡ form_in words (from + i) → g ≡ moved p current
      → place ≡ place_of g → ok ≡ placed (edit g 0) → n ≡ moved current p → Crossing words from count f (i + 1) (set later i place) n (good && ok)
  crossing_turn p g n place ok h ep eg epl eo en =
      let inside : i < length fs = omega (arith, all) in
      let p' : p ≡ get_or fs i Nothing = ep ∙ sym (forms_at words from count i h) in
      let g' : g ≡ get_or (over_forms f fs) i Nothing =
      eg ∙ ap (λ (q : Form). moved q current) p' ∙ ap (moved (get_or fs i Nothing)) now.form
      ∙ sym (over_at f fs i inside) in
      record {
        turns = omega arith;
        places = stored g place h g' epl;
        form =
            en ∙ ap (moved current) p' ∙ ap (λ (q : Form). moved q (get_or fs i Nothing)) now.form
            ∙ sym (past_more f fs i inside) ∙ ap (λ (k : ℕ). past_forms f (take k fs)) (sym (add-one i));
        fits =
            ap (λ (b : Bool). b && ok) now.fits ∙ ap (λ (b : Bool). placed_forms (take i (over_forms f fs)) && b) (eo ∙ ap fine g')
            ∙ sym (placed_more (over_forms f fs) i (omega (arith, over_all))) ∙ ap (λ (k : ℕ). placed_forms (take k (over_forms f fs))) (sym (add-one i));
      }

  pub crossing_answer : (passed : ℕ) → passed ≡ i → count ≤ i → ◌≡◌ {A = Crossed} (record { form = current; placed = good; passed = passed }) (crossed f fs)
  crossing_answer passed turns h =
      let c' : current ≡ past_forms f fs = now.form ∙ ap (past_forms f) (take_all i fs (omega (arith, all))) in
      let g' : good ≡ placed_forms (over_forms f fs) = now.fits ∙ ap placed_forms (take_all i (over_forms f fs) (omega (arith, over_all))) in
      let p' : passed ≡ steps f fs = omega (arith, turns, now.turns, all, steps_length f fs) in
      cc

  pub crossing_places : count ≤ i → later ≡ filled (over_forms f fs)
  crossing_places h = fill_end max_pending 0 (map place_of (over_forms f fs)) short i later (rw length-map (omega (arith, over_all))) now.places
