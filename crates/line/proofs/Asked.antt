-- Questions 5 to 9 of a line, as the code asks them and as the model asks them of a list.
use Prim.Native.Nat.{ℕ, ◌+◌, ◌-◌, ◌≤◌, ◌<◌}
use native.Mathlib.Omega.{arith}
use mathlib.Core.Path.{◌≡◌, refl, ap, ap₂, ◌∙◌, sym}
use mathlib.Core.Bool.{Bool, true, false, ◌&&◌}
use mathlib.Core.List.{List, [], ◌∷◌, ◌++◌}
use lib.Dec.{leb, eqb}
use lib.ListN.{length}
use borrow.Author.Tests.{leb-true, le-leb, lt-leb, lt-ltb, le-ltb, eqb-false, eq-eqb, ne_eqb}
use Rattle.limits.specs.Limits.{max_items}
use Rattle.ot.specs.declared.Form.{Form}
use Rattle.ot.specs.Edit.{Edit, edit, fits}
use Rattle.list.specs.declared.Origin.{Origin}
use Rattle.list.specs.Places.{Place, applied_by}
use Rattle.wire.specs.declared.Header.{Header}
use Rattle.wire.specs.declared.Message.TheVariants as message
use Rattle.model.specs.Cross.{over, all_placed}
use Rattle.model.specs.Line as model
use Rattle.model.specs.Questions.{Question, ask, asks}
use Rattle.model.proofs.Tests.{Numbered, yes_all}
use Rattle.line.specs.declared.Line.{Line}
use Rattle.line.specs.Line.{line_of}
use Rattle.line.specs.Keeping.{then_asked}
use Rattle.line.proofs.Room.{fits_model}
use Rattle.line.proofs.Parts.{then_left, then_none, asks_append}
use Rattle.line.specs.declared.taking.Arrival.{Arrival}
use Rattle.line.specs.Taking.{carrying, arrival_of, seen_asked, arrival_asked, nine, refusal_of, Between}

-- ---- 5 to 8, as the code asks them

module _ (v : Line) (seen : ℕ) where
  pub seen_old : seen < v.acked → 7 ≡ asks (seen_asked v seen)
  seen_old h = sym (ap (λ (b : Bool). asks (ask 7 b ∷ ask 8 (leb seen v.made) ∷ [])) (lt-leb v.acked seen h))

  tested : (a b : Bool) → leb v.acked seen ≡ a → leb seen v.made ≡ b → asks (ask 7 a ∷ ask 8 b ∷ []) ≡ asks (seen_asked v seen)
  tested a b ea eb = sym (ap₂ (λ (s t : Bool). asks (ask 7 s ∷ ask 8 t ∷ [])) ea eb)

  pub seen_unmade : v.acked ≤ seen → v.made < seen → 8 ≡ asks (seen_asked v seen)
  seen_unmade h g = tested true false (le-leb v.acked seen h) (lt-leb seen v.made g)

  pub seen_right : v.acked ≤ seen → seen ≤ v.made → 0 ≡ asks (seen_asked v seen)
  seen_right h g = tested true true (le-leb v.acked seen h) (le-leb seen v.made g)

pub asked_repeat : (v : Line) (number seen : ℕ) (b : Bool) → b ≡ true → number ≤ v.taken → 5 ≡ asks (arrival_asked v number seen b)
asked_repeat v number seen b t h =
    sym (ap (λ (c : Bool). asks (arrival_asked v number seen c)) t ∙ ap (λ (c : Bool). asks (ask 5 c ∷ ask 6 (eqb number (v.taken + 1)) ∷ seen_asked v seen)) (le-ltb v.taken number h))

pub asked_gap : (v : Line) (number seen : ℕ) (b : Bool) → b ≡ true → v.taken < number → 1 < number - v.taken → 6 ≡ asks (arrival_asked v number seen b)
asked_gap v number seen b t h g =
    let n : number ≡ v.taken + 1 → ⊥ = λ e. omega (arith, e, g) in
    sym (ap (λ (c : Bool). asks (arrival_asked v number seen c)) t
    ∙ ap₂ (λ (c d : Bool). asks (ask 5 c ∷ ask 6 d ∷ seen_asked v seen)) (lt-ltb v.taken number h) (ne_eqb number (v.taken + 1) n))

pub asked_next : (v : Line) (number seen : ℕ) (b : Bool) → b ≡ true → v.taken < number → number - v.taken ≤ 1
    → asks (seen_asked v seen) ≡ asks (arrival_asked v number seen b)
asked_next v number seen b t h g =
    let e : number ≡ v.taken + 1 = omega (arith, h, g) in
    sym (ap (λ (c : Bool). asks (arrival_asked v number seen c)) t
    ∙ ap₂ (λ (c d : Bool). asks (ask 5 c ∷ ask 6 d ∷ seen_asked v seen)) (lt-ltb v.taken number h) (eq-eqb number (v.taken + 1) e))

pub asked_ack : (v : Line) (number seen : ℕ) (b : Bool) → b ≡ false → asks (seen_asked v seen) ≡ asks (arrival_asked v number seen b)
asked_ack v number seen b f = sym (ap (λ (c : Bool). asks (arrival_asked v number seen c)) f)

-- ---- what they say

-- questions 7 and 8 said yes
pub asked_seen : (v : Line) (number seen : ℕ) (b : Bool) → asks (arrival_asked v number seen b) ≡ 0 → Between v seen
asked_seen v number seen true z =
    let y = yes_all (arrival_asked v number seen true) (eqb-false 5 0 refl, (eqb-false 6 0 refl, (eqb-false 7 0 refl, (eqb-false 8 0 refl, tt)))) z in
    (leb-true v.acked seen y.1.1.0, leb-true seen v.made y.1.1.1.0)
asked_seen v number seen false z =
    let y = yes_all (seen_asked v seen) (eqb-false 7 0 refl, (eqb-false 8 0 refl, tt)) z in
    (leb-true v.acked seen y.0, leb-true seen v.made y.1.0)

-- an arrival that nothing refuses has passed them
pub refusal_seen : (v : Line) (m : model.Line) (len : ℕ) (a : Arrival) → refusal_of v m len a ≡ 0 → Between v a.seen
refusal_seen v m len a z = asked_seen v a.number a.seen a.carries (then_left (asks (arrival_asked v a.number a.seen a.carries)) _ z)

-- question 9 by the length of the list is the model's of the list
nine_model : (m : model.Line) (items : List Place) (o : Origin) (seen : ℕ) (e : Edit) → length items ≤ max_items
    → nine m (length items) seen e
    ≡ (fits (model.carried m seen e) (length items) && all_placed (over e (model.unacked m seen))
    && leb (length (applied_by o (model.carried m seen e) items)) max_items)
nine_model m items o seen e h =
    ap (λ (b : Bool). all_placed (over e (model.unacked m seen)) && b) (fits_model o (model.carried m seen e) items h)
    ∙ swap (all_placed (over e (model.unacked m seen))) (fits (model.carried m seen e) (length items)) (leb (length (applied_by o (model.carried m seen e) items)) max_items)
  where
    swap : (a b c : Bool) → (a && (b && c)) ≡ (b && a && c)
    swap true true c = refl
    swap true false c = refl
    swap false true c = refl
    swap false false c = refl

-- The model's questions of an edit: 5 to 9, then what else the end asks.
pub edit_asked_lem : (v : Line) (words : List ℕ) (items : List Place) (h : Header) (f : Form) (x : ℕ) (more : List Question) → length items ≤ max_items
    → asks (model.take_questions (line_of v words) items h (edit f x) more)
    ≡ then_asked (refusal_of v (line_of v words) (length items) (carrying h f x)) (asks more)
edit_asked_lem v words items h f x more few =
    ap (λ (b : Bool). asks (five b ++ more)) (sym (nine_model (line_of v words) items h.origin h.seen (edit f x) few))
    ∙ asks_append (five ninth) more numbered
    ∙ ap (λ (r : ℕ). then_asked r (asks more)) (asks_append (arrival_asked v h.number h.seen true) (ask 9 ninth ∷ []) first)
  where
    five : Bool → List Question
    five b = arrival_asked v h.number h.seen true ++ (ask 9 b ∷ [])

    ninth : Bool
    ninth = nine (line_of v words) (length items) h.seen (edit f x)

    first : Numbered (arrival_asked v h.number h.seen true)
    first = (eqb-false 5 0 refl, (eqb-false 6 0 refl, (eqb-false 7 0 refl, (eqb-false 8 0 refl, tt))))

    numbered : Numbered (five ninth)
    numbered = (eqb-false 5 0 refl, (eqb-false 6 0 refl, (eqb-false 7 0 refl, (eqb-false 8 0 refl, (eqb-false 9 0 refl, tt)))))

-- and of an acknowledgement: 7 and 8
pub ack_asked : (v : Line) (words : List ℕ) (len line direction seen : ℕ)
    → asks (model.seen_questions (line_of v words) seen) ≡ refusal_of v (line_of v words) len (arrival_of (message.Ack line direction seen))
ack_asked v words len line direction seen = sym (then_none (asks (seen_asked v seen)))
