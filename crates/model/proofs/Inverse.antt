-- Laws of inverses (02: N7): an inverse takes its edit back, fits the list, and keeps fitting while it is carried past what the client takes.
use mathlib.Core.Path.{◌≡◌, refl, ap, ◌∙◌}
use mathlib.Core.Bool.{Bool, true, false, not, ◌&&◌, ◌||◌}
use mathlib.Core.List.{List}
use Prim.Native.Nat.{ℕ, ◌+◌, ◌-◌, ◌≤◌}
use native.Mathlib.Omega.{arith}
use lib.Dec.{eqb}
use lib.ListN.{length}
use borrow.Author.Tests.{eq-eqb, eqb-true}
use Rattle.ot.specs.Edit.{Edit, Nothing, Delete, Insert, applied_as, applied, size_after, fits, transformed}
use Rattle.ot.specs.Laws.{within}
use Rattle.ot.proofs.Exchange.{delete_inserted, insert_deleted}
use Rattle.ot.proofs.Laws.{laws}
use Rattle.ot.proofs.Square.{fits_after}
use Rattle.list.specs.declared.Origin.{Origin}
use Rattle.list.specs.Places.{Place, place_of, items_of, applied_by}
use Rattle.list.proofs.Places.{items_length, items_applied}
use Rattle.model.specs.Limits.{max_items}
use Rattle.model.specs.Cross.{priority}
use Rattle.model.specs.Inverse.{inverse_of, is_nothing, inverse_stands, sound_inverse}
use Rattle.model.proofs.Tests.{never, both, three, between_true, true_between}
use Rattle.model.proofs.Cross.{priority_transformed}

-- ---- taking back

-- the inverse of an edit of a list fits the list after it
pub inverse_fits : (rank : ℕ) (o : Origin) (e : Edit) (l : List Place) → fits e (length l) ≡ true → fits (inverse_of rank l e) (length (applied_by o e l)) ≡ true
unfolding fits size_after
inverse_fits rank o e l f = ap (fits (inverse_of rank l e)) (laws.size (place_of o) e l f) ∙ go e f
  where
    go : (e : Edit) → fits e (length l) ≡ true → fits (inverse_of rank l e) (size_after e (length l)) ≡ true
    go Nothing f = refl
    go (Delete p) f =
        let h = between_true 1 (length l) p f in
        true_between 1 (length l - 1 + 1) p h.0 (omega arith)
    go (Insert p x r) f = f

items_back : (rank : ℕ) (e : Edit) (l : List Place) → fits e (length l) ≡ true → applied (inverse_of rank l e) (applied e (items_of l)) ≡ items_of l
unfolding fits applied_as
items_back rank Nothing l f = refl
items_back rank (Delete p) l f =
    let h = between_true 1 (length l) p f in
    insert_deleted (p - 1) 0 (items_of l) (omega (arith, items_length l))
items_back rank (Insert p x r) l f =
    let h = between_true 1 (length l + 1) p f in
    delete_inserted (p - 1) x (items_of l) (omega (arith, items_length l))

-- and brings back the items and their order
pub takes_it_back : (rank : ℕ) (o o' : Origin) (e : Edit) (l : List Place) → fits e (length l) ≡ true
    → items_of (applied_by o' (inverse_of rank l e) (applied_by o e l)) ≡ items_of l
takes_it_back rank o o' e l f =
    items_applied o' (inverse_of rank l e) (applied_by o e l) ∙ ap (applied (inverse_of rank l e)) (items_applied o e l) ∙ items_back rank e l f

-- ---- a stored inverse

-- past an edit of the same list it fits the list after that
pub carried_fits : (o : Origin) (i e : Edit) (l : List Place) → fits i (length l) ≡ true → fits e (length l) ≡ true
    → fits (transformed i e) (length (applied_by o e l)) ≡ true
carried_fits o i e l f g = ap (fits (transformed i e)) (laws.size (place_of o) e l g) ∙ fits_after i e (length l) f g

-- one that fits a list of at most 512 items stands at 1 to 513
pub fits_stands : (e : Edit) (n : ℕ) → n ≤ max_items → fits e n ≡ true → inverse_stands e ≡ true
unfolding fits within
fits_stands Nothing n m f = refl
fits_stands (Delete p) n m f =
    let h = between_true 1 n p f in
    true_between 1 _ p h.0 (omega arith)
fits_stands (Insert p x r) n m f =
    let h = between_true 1 (n + 1) p f in
    true_between 1 _ p h.0 (omega arith)

-- question 2 of it, as facts
pub record InverseFacts (own made : ℕ) (e : Edit) : Type 0 where
  pub stands : inverse_stands e ≡ true
  pub rank : priority (eqb own) e ≡ true
  pub none : made ≡ 0 → e ≡ Nothing

is_nothing_lem : (e : Edit) → is_nothing e ≡ true → e ≡ Nothing
is_nothing_lem Nothing h = refl
is_nothing_lem (Delete p) h = never h
is_nothing_lem (Insert p x r) h = never h

pub inverse_facts : (rank made : ℕ) (e : Edit) → sound_inverse rank made e ≡ true → InverseFacts rank made e
inverse_facts rank made e s =
    let t = three (inverse_stands e) (priority (eqb rank) e) (not (eqb made 0) || is_nothing e) s in
    record { stands = t.0; rank = t.1; none = λ z. is_nothing_lem e (go (eqb made 0) (eq-eqb made 0 z) t.2) }
  where
    go : (b : Bool) → b ≡ true → not b || is_nothing e ≡ true → is_nothing e ≡ true
    go true z h = h
    go false z h = never z

pub facts_inverse : (rank made : ℕ) (e : Edit) → InverseFacts rank made e → sound_inverse rank made e ≡ true
facts_inverse rank made e f =
    both (inverse_stands e && priority (eqb rank) e) (not (eqb made 0) || is_nothing e)
    (both (inverse_stands e) (priority (eqb rank) e) f.stands f.rank) (go (eqb made 0) refl)
  where
    go : (b : Bool) → eqb made 0 ≡ b → not b || is_nothing e ≡ true
    go true z = ap is_nothing (f.none (eqb-true made 0 z))
    go false z = refl

-- the inverse of an edit that was made
pub made_inverse : (rank made : ℕ) (o : Origin) (e : Edit) (l : List Place) → 1 ≤ made → fits e (length l) ≡ true → length (applied_by o e l) ≤ max_items
    → InverseFacts rank made (inverse_of rank l e)
made_inverse rank made o e l m f n =
    record {
      stands = fits_stands (inverse_of rank l e) (length (applied_by o e l)) n (inverse_fits rank o e l f);
      rank = ranked e;
      none = λ z. absurd (omega arith);
    }
  where
    ranked : (e : Edit) → priority (eqb rank) (inverse_of rank l e) ≡ true
    ranked Nothing = refl
    ranked (Delete p) = eq-eqb rank rank refl
    ranked (Insert p x r) = refl

-- carried past an edit, it keeps its rank, and nothing stays nothing
pub carried_inverse : (rank made : ℕ) (i e : Edit) → inverse_stands (transformed i e) ≡ true → InverseFacts rank made i → InverseFacts rank made (transformed i e)
unfolding transformed
carried_inverse rank made i e h f =
    record {
      stands = h;
      rank = priority_transformed (eqb rank) i e ∙ f.rank;
      none = λ z. nothing i (f.none z);
    }
  where
    nothing : (i : Edit) → i ≡ Nothing → transformed i e ≡ Nothing
    nothing i z = ap (λ (a : Edit). transformed a e) z
