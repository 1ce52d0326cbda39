-- The edits of a sheet have the laws that the theory asks for.
use mathlib.Core.Path.{◌≡◌, refl, ap, sym, ◌∙◌}
use mathlib.Core.Logic.{◌≢◌}
use mathlib.Core.Bool.{Bool, true, false, ◌&&◌}
use mathlib.Core.List.{List, [], ◌∷◌, map}
use Prim.Native.Nat.{ℕ, zero, suc, ◌≤◌}
use native.Mathlib.Omega.{arith}
use lib.Dec.{T, leb, eqb}
use lib.ListN.{length, drop}
use borrow.Author.Tests.{eqb-true, ne_eqb, leb-true, le-leb}
use Rattle.ot.specs.Edit.{Edit, Nothing, Delete, Insert, applied_as, fits, transformed}
use Rattle.ot.specs.Laws.{distinct, Closes}
use Rattle.ot.proofs.Laws.{laws}
use Rattle.list.specs.declared.Origin.{Origin}
use Rattle.list.specs.Places.{Place, place_of}
use Rattle.jupiter.specs.Name.{Name, same}
use Rattle.jupiter.specs.Algebra as theory
use Rattle.jupiter.specs.Ends as ends
use Rattle.jupiter.proofs.Replay.{same_eq, same_refl}
use Rattle.model.specs.Cross.{past, over, priority}
use Rattle.model.specs.Ranks.{rank_of}
use Rattle.model.specs.Edits.{Named, name_of, Rule, edits_by, any_rank, by_rank, edits}
use Rattle.model.proofs.Tests.{both, and_left, and_right}
use Rattle.model.proofs.Ranks.{Ranking, any_rank_lem, any_apart}
use Rattle.model.proofs.Cross.{size_inserts, priority_transformed, inserts_transformed}

-- a test as a type, and as an equation
pub to_T : (b : Bool) → b ≡ true → T b
to_T true e = tt
to_T false e = absurd (let z : ◌≡◌ {A = ℕ} 0 1 = cc in omega arith)

pub from_T : (b : Bool) → T b → b ≡ true
from_T true t = refl
from_T false t = absurd t

apart : (l k : ℕ) (a b : Edit) → l ≢ k → priority (eqb l) a ≡ true → priority (eqb k) b ≡ true → distinct a b ≡ true
unfolding distinct
apart l k Nothing b h s t = refl
apart l k (Delete p) b h s t = refl
apart l k (Insert p x r) Nothing h s t = refl
apart l k (Insert p x r) (Delete q) h s t = refl
apart l k (Insert p x r) (Insert q y z) h s t =
    rw (ne_eqb r z (λ e. h (omega (arith, eqb-true l r s, eqb-true k z t))))

-- what it says of an edit that it may bear a name
pub record Bears (ranks : List ℕ) (x : Name) (e : Named) : Type 0 where
  pub line : 1 ≤ x.line
  pub name : name_of e.origin ≡ x
  pub rank : priority (eqb (any_rank ranks x.line)) e.edit ≡ true

pub bears : {ranks : List ℕ} (x : Name) (e : Named) → T (by_rank ranks x e) → Bears ranks x e
unfolding by_rank
bears {ranks} x e t =
    let prior : Bool = priority (eqb (any_rank ranks x.line)) e.edit in
    let named : Bool = same x (name_of e.origin) in
    let all : (leb 1 x.line && (named && prior)) ≡ true = from_T (leb 1 x.line && (named && prior)) t in
    let rest = and_right (leb 1 x.line) (named && prior) all in
    record {
      line = leb-true 1 x.line (and_left (leb 1 x.line) (named && prior) all);
      name = sym (same_eq x (name_of e.origin) (and_left named prior rest));
      rank = and_right named prior rest;
    }

pub may_bear : {ranks : List ℕ} (x : Name) (e : Named) → Bears ranks x e → T (by_rank ranks x e)
unfolding by_rank
may_bear {ranks} x e b =
    let prior : Bool = priority (eqb (any_rank ranks x.line)) e.edit in
    let named : Bool = same x (name_of e.origin) in
    to_T (leb 1 x.line && (named && prior))
    (both (leb 1 x.line) (named && prior) (le-leb 1 x.line b.line) (both named prior (ap (same x) b.name ∙ same_refl x) b.rank))

-- an insert with the line's rank is the line's
pub by_rank_lem : {n : ℕ} {ranks : List ℕ} → Ranking n ranks → (o : Origin) → 1 ≤ o.line → o.line ≤ n → (e : Edit) → priority (eqb (rank_of ranks o.line)) e ≡ true
    → T (by_rank ranks (name_of o) (record { origin = o; edit = e }))
by_rank_lem {ranks = ranks} f o lo hi e p =
    may_bear (name_of o) (record { origin = o; edit = e }) (record { line = lo; name = refl; rank = ap (λ (r : ℕ). priority (eqb r) e) (any_rank_lem f o.line lo hi) ∙ p })

pub edit_laws : {n : ℕ} {ranks : List ℕ} → Ranking n ranks → theory.Laws (edits ranks)
edit_laws {ranks = ranks} f =
    record {
      square = λ x y a b d h s t u v. (meets x y a b d h s t u v).same;
      square_fits = λ x y a b d h s t u v. to_T (fits (transformed a.edit b.edit) (length (applied_as (place_of b.origin) b.edit d))) (meets x y a b d h s t u v).left;
      keeps_name = λ x a b s.
          let old = bears x a s in
          may_bear x (record { origin = a.origin; edit = transformed a.edit b.edit })
          (record { line = old.line; name = old.name; rank = priority_transformed (eqb (any_rank ranks x.line)) a.edit b.edit ∙ old.rank });
      keeps_growth = λ a b. inserts_transformed a.edit b.edit;
      size_apply = λ e d. size_inserts (place_of e.origin) e.edit d;
    }
  where
    meets : (x y : Name) (a b : Named) (d : List Place) → x.line ≢ y.line → T (by_rank ranks x a) → T (by_rank ranks y b) → T (fits a.edit (length d)) → T (fits b.edit (length d))
        → Closes (place_of a.origin) (place_of b.origin) a.edit b.edit d
    meets x y a b d h s t u v =
        laws.square (place_of a.origin) (place_of b.origin) a.edit b.edit d (from_T (fits a.edit (length d)) u) (from_T (fits b.edit (length d)) v)
        (apart (any_rank ranks x.line) (any_rank ranks y.line) a.edit b.edit (any_apart f x.line y.line h) (bears x a s).rank (bears y b t).rank)

-- ---- the edits and the origins of a list

abbrev pub edits_of : List Named → List Edit
edits_of es = map (λ e. e.edit) es

abbrev pub makers_in : List Named → List Origin
makers_in es = map (λ e. e.origin) es

pub map_drop : {A B : Type 0} (f : A → B) (k : ℕ) (xs : List A) → drop k (map f xs) ≡ map f (drop k xs)
map_drop f zero xs = refl
map_drop f (suc k) [] = refl
map_drop f (suc k) (x ∷ xs) = map_drop f k xs

-- Crossing is the theory's: the edits cross, and each keeps its origin.
past_edit : (by : Rule) (e : Named) (es : List Named) → past e.edit (edits_of es) ≡ (ends.past (edits_by by) e es).edit
unfolding past ends.past
past_edit by e [] = refl
past_edit by e (p ∷ es) = past_edit by ((edits_by by).transform e p) es

over_edit : (by : Rule) (e : Named) (es : List Named) → over e.edit (edits_of es) ≡ edits_of (ends.over (edits_by by) e es)
unfolding over ends.over
over_edit by e [] = refl
over_edit by e (p ∷ es) = ap (◌∷◌ (transformed p.edit e.edit)) (over_edit by ((edits_by by).transform e p) es)

pub past_origin : (by : Rule) (e : Named) (es : List Named) → (ends.past (edits_by by) e es).origin ≡ e.origin
unfolding ends.past
past_origin by e [] = refl
past_origin by e (p ∷ es) = past_origin by ((edits_by by).transform e p) es

pub over_origins : (by : Rule) (e : Named) (es : List Named) → makers_in (ends.over (edits_by by) e es) ≡ makers_in es
unfolding ends.over
over_origins by e [] = refl
over_origins by e (p ∷ es) = ap (◌∷◌ p.origin) (over_origins by ((edits_by by).transform e p) es)

-- past the pending edits after the first k
pub past_same : (by : Rule) (e : Named) (k : ℕ) (es : List Named) → past e.edit (drop k (edits_of es)) ≡ (ends.past (edits_by by) e (drop k es)).edit
past_same by e k es = ap (past e.edit) (map_drop (λ e. e.edit) k es) ∙ past_edit by e (drop k es)

pub over_same : (by : Rule) (e : Named) (k : ℕ) (es : List Named) → over e.edit (drop k (edits_of es)) ≡ edits_of (ends.over (edits_by by) e (drop k es))
over_same by e k es = ap (over e.edit) (map_drop (λ e. e.edit) k es) ∙ over_edit by e (drop k es)
