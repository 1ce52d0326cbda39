-- Two origins never change places: on any two lists that are shown, those that stand on both stand in the same order.
use Prim.Native.Nat.{ℕ, ◌≤◌, ◌<◌}
use native.Mathlib.Nat.{le_refl}
use mathlib.Core.Path.{◌≡◌, refl, sym, ap, ◌∙◌, subst}
use mathlib.Core.Logic.{◌≢◌, ◌⊎◌, inl, inr}
use mathlib.Core.Bool.{Bool, true, false, true≢false}
use lib.Dec.{eqb}
use Rattle.jupiter.specs.Name.{Name, holds}
use Rattle.jupiter.specs.Algebra.{Algebra, Laws}
use Rattle.jupiter.specs.Made.{names, is_by}
use Rattle.jupiter.specs.Form.{list_at}
use Rattle.jupiter.specs.Point.{blank}
use Rattle.jupiter.specs.History.{History, order}
use Rattle.jupiter.specs.Ends.{Ends}
use Rattle.jupiter.specs.Run.{State, initial, run}
use Rattle.jupiter.specs.Claims.{Who, doc_of}
use Rattle.jupiter.specs.Origins.{Origins, Opening, shown}
use Rattle.jupiter.specs.Orders.{before, SameOrder, OneOrder}
use Rattle.jupiter.proofs.Lists as L
use Rattle.jupiter.proofs.Lists.{All}
use Rattle.jupiter.proofs.Grid.{eqb_eq, eqb_same, own_line, good_on}
use Rattle.jupiter.proofs.Meeting.{held_all}
use Rattle.jupiter.proofs.Step.{Later}
use Rattle.jupiter.proofs.Runs.{whole_ends, Reached, Onward, run_ok, reached_by}
use Rattle.jupiter.proofs.Standing.{Moment, GoodAt, list, In, first, ours, theirs, known_at}
use Rattle.jupiter.proofs.NoneTwice.{Stand, stand_of, moment}
use Rattle.jupiter.proofs.Orders.{least, back_then, same_grid}
use Rattle.jupiter.proofs.Prefix.{Front, fronts, Prefix, owns, oths, prefix_point, own_held, oth_held, front_held, prefix_good, Reaches, reaches}

module _ {𝓐 : Algebra} {𝓞 : Origins 𝓐} {d : 𝓐.Doc} {h : History 𝓐} (m : Moment 𝓞 d h) where
  -- ---- a prefix of the server's order, in the grid of any line
  module _ (p : Prefix h) (l : ℕ) where
    pub prefix_list : list m l (owns p l) (oths p l) ≡ 𝓞.origins (list_at d p.taken)
    prefix_list = ap (λ C. 𝓞.origins (list_at d C)) (prefix_point p l)

    -- a name that the prefix holds is in its point, and the other way round
    pub prefix_in : (o : Name) → holds (names p.taken) o ≡ true → In m l (owns p l) (oths p l) o
    prefix_in =
        held_all (In m l (owns p l) (oths p l)) p.taken
        (subst (All (λ e. In m l (owns p l) (oths p l) e.name)) (prefix_point p l)
        (L.firsts_every (is_by l) blank (λ e. In m l (owns p l) (oths p l) e.name) (order h l) (owns p l) (oths p l) (λ k lt n. ours k lt n refl) (λ k lt n. theirs k lt n refl)))

    pub in_prefix : (o : Name) → In m l (owns p l) (oths p l) o → (holds (𝓞.origins d) o ≡ true) ⊎ (holds (names p.taken) o ≡ true)
    in_prefix o (first e) = inl e
    in_prefix o (ours k lt n e) = inr (ap (holds (names p.taken)) e ∙ own_held p l k lt)
    in_prefix o (theirs k lt n e) = inr (ap (holds (names p.taken)) e ∙ oth_held p l k lt)

  -- ---- two grids, by way of the longer of two prefixes
  module _ (l i j : ℕ) (good : GoodAt m l i j) (k i' j' : ℕ) (good' : GoodAt m k i' j') (lk : l ≢ k) (r : Reaches m.inv l i j) (r' : Reaches m.inv k i' j')
      (front : Front r.prefix.taken r'.prefix.taken) where
    abbrev p' : Prefix h
    p' = r'.prefix

    -- a name of both points is a name of the prefix
    both_in : (o : Name) → In m l i j o → In m k i' j' o → In m k (owns p' k) (oths p' k) o
    both_in o x (first f) = first f
    both_in o x (theirs n lt hn f) = theirs n (subst (λ y. n < y) (sym r'.oths_are) lt) hn f
    both_in o (first e) (ours n lt hn f) = first e
    both_in o (ours n lt hn e) (ours n' lt' hn' f) = absurd (lk (sym (own_line l (order h l) n hn) ∙ ap (λ x. x.line) (sym e ∙ f) ∙ own_line k (order h k) n' hn'))
    both_in o (theirs n lt hn e) (ours n' lt' hn' f) =
        prefix_in p' k o (front_held r.prefix p' front o (ap (holds (names r.prefix.taken)) e ∙ oth_held r.prefix l n (subst (λ y. n < y) (sym r.oths_are) lt)))

    -- what is on both lists is on the prefix's list
    on_prefix : (o : Name) → holds (list m l i j) o ≡ true → holds (list m k i' j') o ≡ true → holds (list m k (owns p' k) (oths p' k)) o ≡ true
    on_prefix o t t' =
        back_then m k (owns p' k) (oths p' k) (prefix_good m.inv p' k) i' j' good' r'.owns_in (subst (λ y. oths p' k ≤ y) r'.oths_are (le_refl _))
        o (both_in o ((known_at m l i j good).known o t) ((known_at m k i' j' good').known o t')) t'

    two_grids : SameOrder (list m l i j) (list m k i' j')
    two_grids a b al bl ak bk =
        let is : list m k (owns p' k) (oths p' k) ≡ list m l (owns p' l) (oths p' l) = prefix_list p' k ∙ sym (prefix_list p' l) in
        let ap' = on_prefix a al ak in
        let bp' = on_prefix b bl bk in
        same_grid m l i j good _ _ (prefix_good m.inv p' l) (least _ _) (least _ _) a b al bl (subst (λ r. holds r a ≡ true) is ap') (subst (λ r. holds r b ≡ true) is bp')
        ∙ ap (before a b) (sym is) ∙ same_grid m k _ _ (prefix_good m.inv p' k) i' j' good' (least _ _) (least _ _) a b ap' bp' ak bk

  -- any two good points of any two lines
  pub any_grids : (l i j : ℕ) → GoodAt m l i j → (k i' j' : ℕ) → GoodAt m k i' j' → SameOrder (list m l i j) (list m k i' j')
  any_grids l i j good k i' j' good' = go (eqb l k) refl
    where
      far : l ≢ k → (r : Reaches m.inv l i j) (r' : Reaches m.inv k i' j')
          → Front r.prefix.taken r'.prefix.taken ⊎ Front r'.prefix.taken r.prefix.taken → SameOrder (list m l i j) (list m k i' j')
      far lk r r' (inl front) = two_grids l i j good k i' j' good' lk r r' front
      far lk r r' (inr front) = λ a b al bl ak bk. sym (two_grids k i' j' good' l i j good (λ e. lk (sym e)) r' r front a b ak bk al bl)

      go : (b : Bool) → eqb l k ≡ b → SameOrder (list m l i j) (list m k i' j')
      go true e =
          subst (λ k. GoodAt m k i' j' → SameOrder (list m l i j) (list m k i' j')) (eqb_eq l k e)
          (λ good'. same_grid m l i j good i' j' good' (least i i') (least j j')) good'
      go false e =
          let r = reaches m.inv l i j good in
          let r' = reaches m.inv k i' j' good' in
          far (λ q. true≢false (sym (eqb_same l) ∙ ap (eqb l) q ∙ e)) r r' (fronts r.prefix.taken r.prefix.rest r'.prefix.taken r'.prefix.rest (sym r.prefix.is ∙ r'.prefix.is))

  pub stands_order : (x y : 𝓐.Doc) → Stand d h x → Stand d h y → SameOrder (𝓞.origins x) (𝓞.origins y)
  stands_order x y p q =
      subst (λ z. SameOrder (𝓞.origins z) (𝓞.origins y)) (sym p.is)
      (subst (λ z. SameOrder (list m p.line p.i p.j) (𝓞.origins z)) (sym q.is) (any_grids p.line p.i p.j p.good q.line q.i q.j q.good))

-- a list stands where it stood at any later moment, too
stand_later : {𝓐 : Algebra} (d : 𝓐.Doc) (E : Ends 𝓐) (h : History 𝓐) (E' : Ends 𝓐) (h' : History 𝓐) → Later E h E' h' → (doc : 𝓐.Doc) → Stand d h doc → Stand d h' doc
stand_later d E h E' h' later doc p =
    let grows = later.grows p.line in
    record {
      line = p.line;
      i = p.i;
      j = p.j;
      good = good_on p.line (order h p.line) (order h' p.line) grows p.i p.j p.good;
      is = p.is ∙ ap (list_at d) (sym (grows.point_same p.i p.j p.good.own_le p.good.oth_le));
    }

-- any two lists that are shown, at a moment that was reached and at a later one
module _ {𝓐 : Algebra} (d : 𝓐.Doc) (laws : Laws 𝓐) (𝓞 : Origins 𝓐) (opening : Opening 𝓞 d) where
  pub one_order_of : (s s' : State 𝓐) → Reached d s → Onward d s s' → (x y : Who) → SameOrder (shown 𝓞 x s) (shown 𝓞 y s')
  one_order_of s s' r on x y =
      stands_order (moment d 𝓞 laws opening s' on.reached) (doc_of x s) (doc_of y s')
      (stand_later d (whole_ends s) s.history (whole_ends s') s'.history on.later (doc_of x s) (stand_of d s r x)) (stand_of d s' on.reached y)

pub one_order : (𝓐 : Algebra) → Laws 𝓐 → (𝓞 : Origins 𝓐) → OneOrder 𝓐 𝓞
one_order 𝓐 laws 𝓞 d opening cs cs' =
    let s = run (initial d) cs in
    let r = reached_by d laws cs in
    one_order_of d laws 𝓞 opening s (run s cs') r (run_ok d laws cs' s r)
