-- The test of one slot: what the code computes is the definition.
use Prim.Native.Nat.{ℕ, ◌+◌, ◌*◌, ◌/◌, ◌%◌, ◌≤◌, ◌<◌}
use native.Mathlib.Nat.{mod-lt, div-add-mod'}
use native.Mathlib.Omega.{arith}
use mathlib.Core.Path.{◌≡◌, refl, ap, ◌∙◌, sym}
use mathlib.Core.Bool.{Bool, true, false, ◌&&◌, ◌||◌, cond, and-true, and-false, and_assoc, and_comm, or-false}
use lib.Dec.{leb, ltb, eqb, lit<}
use borrow.Author.Tests.{leb-true, le-leb, lt-ltb, le-ltb, ltb-true, eqb-true, eq-eqb, ne_eqb, eqb-false}
use Rattle.limits.specs.Limits.{max_items}
use Rattle.ot.specs.declared.Form.{Form}
use Rattle.ot.specs.declared.Form.TheVariants as form
use Rattle.ot.specs.Edit.{edit, item_of}
use Rattle.ot.specs.Laws.{within}
use Rattle.model.specs.Cross.{placed, priority}
use Rattle.model.proofs.Tests.{both, and_left, and_right, between_true, true_between, bool_ext}
use Rattle.pending.specs.Slots.{place_of, form_at}
use Rattle.line.specs.Slots.{right_slot}

-- A place by its two parts.
module _ (place : ℕ) where
  abbrev position : ℕ
  position = place / 256 % 65536

  abbrev rank : ℕ
  rank = place % 256

  parts : (place / 256 * 256 + rank ≡ place) × ((place / 256 / 65536 * 65536 + position ≡ place / 256) × ((position < 65536) × (rank < 256)))
  parts =
      (div-add-mod' place 256, (div-add-mod' (place / 256) 65536, (mod-lt (place / 256) (lit< tt), mod-lt place (lit< tt))))

  abbrev under : Bool
  under = ltb place 131328

  -- position 0
  none_in_list : position ≡ 0 → (g : Bool) → (under && (g && leb 256 place)) ≡ false
  none_in_list z g = go (leb 256 place) refl
    where
      go : (b : Bool) → leb 256 place ≡ b → (under && (g && b)) ≡ false
      go true e = ap (λ (t : Bool). t && (g && true)) (le-ltb place 131328 (omega (arith, parts, leb-true 256 place e)))
      go false e = ap (λ (t : Bool). under && t) (and-false g) ∙ and-false under

  no_place_lem : position ≡ 0 → rank ≡ 0 → under ≡ eqb place 0
  no_place_lem z e =
      bool_ext under (eqb place 0) (λ t. eq-eqb place 0 (omega (arith, parts, ltb-true place 131328 t)))
      (λ t. lt-ltb place 131328 (omega (arith, eqb-true place 0 t)))

  -- another position
  past_first_lem : (position ≡ 0 → ⊥) → leb 256 place ≡ true
  past_first_lem n = le-leb 256 place (omega (arith, parts))

  in_list : (position ≡ 0 → ⊥) → under ≡ ((leb 1 position && leb position max_items) && eqb place (position * 256 + rank))
  in_list n =
      bool_ext under ((leb 1 position && leb position max_items) && eqb place (position * 256 + rank))
      (λ t.
      let high : place < 131328 = ltb-true place 131328 t in
      both (leb 1 position && leb position max_items) (eqb place (position * 256 + rank))
      (true_between 1 max_items position (omega (arith, parts)) (omega (arith, parts)))
      (eq-eqb place (position * 256 + rank) (omega (arith, parts))))
      (λ t.
      let b = between_true 1 max_items position (and_left (leb 1 position && leb position max_items) (eqb place (position * 256 + rank)) t) in
      let e : place ≡ position * 256 + rank =
      eqb-true place (position * 256 + rank) (and_right (leb 1 position && leb position max_items) (eqb place (position * 256 + rank)) t) in
      lt-ltb place 131328 (omega (arith, b, parts)))

-- ---- the test of a slot

-- a slot of place and item whose form is f
abbrev right_form : (ℕ → Bool) → ℕ → ℕ → Form → Bool
right_form good place item f =
    placed (edit f item) && (priority good (edit f item) && (eqb place (place_of f) && eqb item (item_of (edit f item))))

-- the form of a place, by the two tests that tell it
abbrev form_by : ℕ → Bool → Bool → Form
form_by place b c = cond b form.Nothing (cond c (form.Delete (position place)) (form.Insert (position place) (rank place)))

-- the code's test of a slot; g says of the priority, and 0 is none
right_by : (place item : ℕ) (good : ℕ → Bool) (g b c : Bool) → (c ≡ true → g ≡ false) → (c ≡ false → g ≡ good (rank place)) → eqb (position place) 0 ≡ b
    → eqb (rank place) 0 ≡ c → (under place && ((c && eqb item 0) || (g && leb 256 place))) ≡ right_form good place item (form_by place b c)
unfolding within
right_by place item good g true true ez eg eb ec =
    ap (λ (t : Bool). under place && (eqb item 0 || (t && leb 256 place))) (ez refl)
    ∙ ap (λ (t : Bool). under place && t) (or-false (eqb item 0))
    ∙ ap (λ (t : Bool). t && eqb item 0) (no_place_lem place (eqb-true (position place) 0 eb) (eqb-true (rank place) 0 ec))
right_by place item good g true false ez eg eb ec =
    none_in_list place (eqb-true (position place) 0 eb) g
    ∙ ap (λ (t : Bool). t && eqb item 0) (sym (ne_eqb place 0 (λ z. eqb-false (rank place) 0 ec (omega (arith, parts place)))))
right_by place item good g false true ez eg eb ec =
    let whole : position place * 256 + rank place ≡ position place * 256 = omega (arith, eqb-true (rank place) 0 ec) in
    ap (λ (t : Bool). under place && (eqb item 0 || (t && leb 256 place))) (ez refl)
    ∙ ap (λ (t : Bool). under place && t) (or-false (eqb item 0))
    ∙ ap (λ (t : Bool). t && eqb item 0) (in_list place (eqb-false (position place) 0 eb))
    ∙ and_assoc (leb 1 (position place) && leb (position place) max_items) (eqb place (position place * 256 + rank place)) (eqb item 0)
    ∙ ap (λ (n : ℕ). (leb 1 (position place) && leb (position place) max_items) && (eqb place n && eqb item 0)) whole
right_by place item good g false false ez eg eb ec =
    let used : position place ≡ 0 → ⊥ = eqb-false (position place) 0 eb in
    let a : Bool = leb 1 (position place) && leb (position place) max_items in
    let t : Bool = eqb place (position place * 256 + rank place) in
    ap (λ (u : Bool). under place && (g && u)) (past_first_lem place used)
    ∙ ap (λ (u : Bool). under place && u) (and-true g ∙ eg refl)
    ∙ ap (λ (u : Bool). u && good (rank place)) (in_list place used)
    ∙ and_assoc a t (good (rank place))
    ∙ ap (λ (u : Bool). a && u) (and_comm t (good (rank place)) ∙ ap (λ (u : Bool). good (rank place) && u) (sym (and-true t)))
    ∙ ap (λ (u : Bool). a && (good (rank place) && (t && u))) (sym (eq-eqb item item refl))

pub right_is : (place item : ℕ) (good : ℕ → Bool) → good 0 ≡ false
    → (ltb place 131328 && ((eqb (place % 256) 0 && eqb item 0) || (good (place % 256) && leb 256 place))) ≡ right_slot good place item
unfolding form_at
right_is place item good z =
    right_by place item good (good (rank place)) (eqb (position place) 0) (eqb (rank place) 0)
    (λ e. ap good (eqb-true (rank place) 0 e) ∙ z) (λ e. refl) refl refl

-- It looks at the priority of an insert alone.
pub right_same : (f g : ℕ → Bool) → ((r : ℕ) → 1 ≤ r → f r ≡ g r) → (place item : ℕ) → right_slot f place item ≡ right_slot g place item
unfolding form_at
right_same f g same place item = go (eqb (position place) 0) (eqb (rank place) 0) refl
  where
    go : (b c : Bool) → eqb (rank place) 0 ≡ c → right_form f place item (form_by place b c) ≡ right_form g place item (form_by place b c)
    go true c e = refl
    go false true e = refl
    go false false e =
        ap
        (λ (t : Bool).
        placed (edit (form.Insert (position place) (rank place)) item)
        && (t && (eqb place (position place * 256 + rank place) && eqb item item)))
        (same (rank place) (omega (arith, eqb-false (rank place) 0 e)))

-- ---- a slot that is not in use

-- an empty slot is a right one
pub empty_right : (good : ℕ → Bool) (place item : ℕ) → (eqb place 0 && eqb item 0) ≡ true → right_slot good place item ≡ true
unfolding form_at within
empty_right good place item h =
    ap (λ (p : ℕ). right_slot good p item) (eqb-true place 0 (and_left (eqb place 0) (eqb item 0) h))
    ∙ ap (right_slot good 0) (eqb-true item 0 (and_right (eqb place 0) (eqb item 0) h))
