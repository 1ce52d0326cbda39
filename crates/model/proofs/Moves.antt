-- How an edit moves past pending ones.
use mathlib.Core.Path.{◌≡◌, refl, ap, sym, ◌∙◌}
use mathlib.Core.Bool.{Bool, true, false, cond}
use mathlib.Core.List.{List, [], ◌∷◌}
use Prim.Native.Nat.{ℕ, ◌+◌, ◌-◌, ◌≤◌}
use native.Mathlib.Omega.{arith}
use lib.Dec.{ltb, leb}
use borrow.Author.Tests.{ltb-true, leb-false}
use Rattle.ot.specs.declared.Form.{Form}
use Rattle.ot.specs.declared.Form.TheVariants as form
use Rattle.ot.specs.declared.Move.{Move}
use Rattle.ot.specs.declared.Move.TheVariants.{Still, Down, Up, Gone}
use Rattle.ot.specs.Form.{position_of, moved, how, shifted}
use Rattle.ot.specs.Edit.{Edit, Nothing, form_of, item_of, edit, transformed}
use Rattle.ot.proofs.Laws.{laws}
use Rattle.model.specs.Cross.{past}
use Rattle.model.specs.Line.{position_at}
use Rattle.model.specs.Moves.{moves, ups, downs, is_gone, Moves}
use Rattle.model.proofs.Tests.{never}

-- What a move from a to b says beside the position: one that goes down stood behind another, and one that is gone is nothing.
abbrev Says : Form → Form → Move → Type 0
Says a b Still = Unit {0}
Says a b Down = 1 ≤ position_of a
Says a b Up = Unit {0}
Says a b Gone = b ≡ form.Nothing

says : (a b : Form) → Says a (moved a b) (how a b)
unfolding moved how
says form.Nothing b = tt
says (form.Delete p) form.Nothing = tt
says (form.Delete p) (form.Delete q) = go (ltb p q) (ltb q p) refl
  where
    go : (s t : Bool) → ltb q p ≡ t
        → Says (form.Delete p) (cond s (form.Delete p) (cond t (form.Delete (p - 1)) form.Nothing)) (cond s Still (cond t Down Gone))
    go true t h = tt
    go false true h = omega (arith, ltb-true q p h)
    go false false h = refl
says (form.Delete p) (form.Insert q s) = go (ltb p q)
  where
    go : (t : Bool) → Says (form.Delete p) (cond t (form.Delete p) (form.Delete (p + 1))) (cond t Still Up)
    go true = tt
    go false = tt
says (form.Insert p r) form.Nothing = tt
says (form.Insert p r) (form.Delete q) = go (leb p q) refl
  where
    go : (t : Bool) → leb p q ≡ t → Says (form.Insert p r) (cond t (form.Insert p r) (form.Insert (p - 1) r)) (cond t Still Down)
    go true h = tt
    go false h = omega (arith, leb-false p q h)
says (form.Insert p r) (form.Insert q s) = go (ltb p q) (ltb q p) (ltb s r)
  where
    go : (t u v : Bool)
        → Says (form.Insert p r) (cond t (form.Insert p r) (cond u (form.Insert (p + 1) r) (cond v (form.Insert (p + 1) r) (form.Insert p r))))
        (cond t Still (cond u Up (cond v Up Still)))
    go true u v = tt
    go false true v = tt
    go false false true = tt
    go false false false = tt

-- one move more: from the form a to b at position q, and on by the moves ms to r
more : (m : Move) (ms : List Move) (a b : Form) (q r : ℕ) → q ≡ shifted m (position_of a) → Says a b m → (is_gone ms ≡ false → q + ups ms ≡ r + downs ms)
    → is_gone (m ∷ ms) ≡ false → position_of a + ups (m ∷ ms) ≡ r + downs (m ∷ ms)
unfolding shifted ups downs is_gone
more Still ms a b q r e s rest h = omega (arith, e, rest h)
more Down ms a b q r e s rest h = omega (arith, e, s, rest h)
more Up ms a b q r e s rest h = omega (arith, e, rest h)
more Gone ms a b q r e s rest h = never (sym h)

add_up : (e : Edit) (ps : List Edit) → is_gone (moves e ps) ≡ false → position_at e + ups (moves e ps) ≡ position_at (past e ps) + downs (moves e ps)
unfolding moves ups downs past
add_up e [] h = refl
add_up e (p ∷ ps) h =
    more (how (form_of e) (form_of p)) (moves (transformed e p) ps) (form_of e) (moved (form_of e) (form_of p)) (position_at (transformed e p)) (position_at (past (transformed e p) ps))
    (ap position_of (laws.form_moves e p) ∙ laws.shifts (form_of e) (form_of p)) (says (form_of e) (form_of p)) (add_up (transformed e p) ps) h

-- nothing stays nothing
nothing_past : (ps : List Edit) → past Nothing ps ≡ Nothing
unfolding past transformed
nothing_past [] = refl
nothing_past (p ∷ ps) = nothing_past ps

formless : (e : Edit) → form_of e ≡ form.Nothing → e ≡ Nothing
formless e h = sym (laws.whole e) ∙ ap (λ (f : Form). edit f (item_of e)) h

gone : (e : Edit) (ps : List Edit) → is_gone (moves e ps) ≡ true → position_at (past e ps) ≡ 0
unfolding moves is_gone past
gone e [] h = never h
gone e (p ∷ ps) h = go (how (form_of e) (form_of p)) (says (form_of e) (form_of p)) (gone (transformed e p) ps) h
  where
    go : (m : Move) → Says (form_of e) (moved (form_of e) (form_of p)) m → (is_gone (moves (transformed e p) ps) ≡ true → position_at (past (transformed e p) ps) ≡ 0)
        → is_gone (m ∷ moves (transformed e p) ps) ≡ true → position_at (past (transformed e p) ps) ≡ 0
    go Still s rest h' = rest h'
    go Down s rest h' = rest h'
    go Up s rest h' = rest h'
    go Gone s rest h' =
        let now : transformed e p ≡ Nothing = formless (transformed e p) (laws.form_moves e p ∙ s) in
        ap position_at (ap (λ (d : Edit). past d ps) now ∙ nothing_past ps)

pub moves_add_up : Moves
moves_add_up = record { add_up = add_up; gone = gone }
