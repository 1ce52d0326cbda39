-- The origins on the lists of a line's grid: each is of the opening list or the name of an edit of the point, and none stands twice.
use Prim.Native.Nat.{ℕ, suc, ◌≤◌, ◌<◌, zero-le}
use native.Mathlib.Nat.{not-suc-le-zero, le_refl, le_trans}
use native.Mathlib.Omega.{arith}
use mathlib.Core.Path.{◌≡◌, sym, ap, ◌∙◌, subst}
use mathlib.Core.Logic.{◌⊎◌, inl, inr}
use mathlib.Core.Bool.{true}
use mathlib.Core.List.{List, []}
use lib.ListN.{length}
use Rattle.jupiter.specs.Name.{Name, same, holds}
use Rattle.jupiter.specs.Algebra.{Algebra, Laws}
use Rattle.jupiter.specs.Made.{Made, is_by, mine, others}
use Rattle.jupiter.specs.Form.{grown, list_at}
use Rattle.jupiter.specs.Point.{point, blank, own, oth, own_form, oth_form}
use Rattle.jupiter.specs.History.{History, order}
use Rattle.jupiter.specs.Ends.{Ends}
use Rattle.jupiter.specs.Origins.{Once, Effect, Turns, Origins, Opening}
use Rattle.jupiter.proofs.Lists as L
use Rattle.jupiter.proofs.Forms.{form_by_lem}
use Rattle.jupiter.proofs.Grid.{seen_of, lag_of, own_line, oth_line, Good, doc_at, Grid}
use Rattle.jupiter.proofs.Replay.{is_false, same_refl}
use Rattle.jupiter.proofs.Walk.{walk}
use Rattle.jupiter.proofs.World.{Inv}
use Rattle.jupiter.proofs.Names.{Stepped, once_after, held_before}

-- A moment of a run that opened with the list d: h is what the calls have left, and `inv` what is known of it.
pub record Moment {𝓐 : Algebra} (𝓞 : Origins 𝓐) (d : 𝓐.Doc) (h : History 𝓐) : Type 0 where
  pub laws : Laws 𝓐
  pub opening : Opening 𝓞 d
  pub ends : Ends 𝓐
  pub inv : Inv d ends h

module _ {𝓐 : Algebra} {𝓞 : Origins 𝓐} {d : 𝓐.Doc} {h : History 𝓐} (m : Moment 𝓞 d h) (l : ℕ) where
  -- the edits that line l knows, in 01's order, and its grid
  abbrev pub w : List (Made 𝓐)
  w = order h l

  abbrev pub grid : Grid d l w
  grid = (m.inv.lines l).line.grid

  abbrev pub GoodAt : ℕ → ℕ → Type 0
  GoodAt i j = Good l w i j

  -- the origins on the list at a point, and what the two edits that are next there do to them
  abbrev pub list : ℕ → ℕ → List Name
  list i j = 𝓞.origins (doc_at d l w i j)

  abbrev pub own_does : ℕ → ℕ → Effect
  own_does i j = 𝓞.effect (own_form l w i j) (doc_at d l w i j)

  abbrev pub oth_does : ℕ → ℕ → Effect
  oth_does i j = 𝓞.effect (oth_form l w i j) (doc_at d l w i j)

  -- o is an origin of the opening list, or the name of an edit of the point
  pub data In (i j : ℕ) (o : Name) : Type 0 where
    first : holds (𝓞.origins d) o ≡ true → In i j o
    ours : (k : ℕ) → k < i → k < length (mine l w) → o ≡ (own l w k).name → In i j o
    theirs : (k : ℕ) → k < j → k < length (others l w) → o ≡ (oth l w k).name → In i j o

  pub in_more : (i j i' j' : ℕ) (o : Name) → i ≤ i' → j ≤ j' → In i j o → In i' j' o
  in_more i j i' j' o a b (first e) = first e
  in_more i j i' j' o a b (ours k lt n e) = ours k (le_trans lt a) n e
  in_more i j i' j' o a b (theirs k lt n e) = theirs k (le_trans lt b) n e

  -- ---- names differ
  pub own_differ : (i k : ℕ) → i < length (mine l w) → k < length (mine l w) → (own l w i).name ≡ (own l w k).name → i ≡ k
  own_differ i k hi hk e =
      let n : suc i ≡ suc k = sym (grid.contexts.own_number i hi) ∙ ap (λ x. x.number) e ∙ grid.contexts.own_number k hk in
      omega arith

  pub oth_differ : (j k : ℕ) → j < length (others l w) → k < length (others l w) → (oth l w j).name ≡ (oth l w k).name → j ≡ k
  oth_differ j k hj hk e = grid.contexts.oth_inj j k hj hk (ap (same (oth l w j).name) (sym e) ∙ same_refl (oth l w j).name)

  pub own_oth_differ : (i j : ℕ) → i < length (mine l w) → j < length (others l w) → (own l w i).name ≡ (oth l w j).name → ⊥
  own_oth_differ i j hi hj e = oth_line l w j hj (sym (own_line l w i hi) ∙ ap (λ x. x.line) e)

  -- the name of the edit that is next is new; origins of the opening list are of line 0, names of edits are not
  pub new_own : (i j : ℕ) → i < length (mine l w) → In i j (own l w i).name → ⊥
  new_own i j hi (first e) = let from = 𝓞.from_one _ _ (grid.contexts.own_by i hi) in let zeros = m.opening.zeros _ e in absurd (omega arith)
  new_own i j hi (ours k lt n e) = let z = own_differ i k hi n e in absurd (omega arith)
  new_own i j hi (theirs k lt n e) = own_oth_differ i k hi n e

  pub new_oth : (i j : ℕ) → j < length (others l w) → In i j (oth l w j).name → ⊥
  new_oth i j hj (first e) = let from = 𝓞.from_one _ _ (grid.contexts.oth_by j hj) in let zeros = m.opening.zeros _ e in absurd (omega arith)
  new_oth i j hj (ours k lt n e) = own_oth_differ k j n hj (sym e)
  new_oth i j hj (theirs k lt n e) = let z = oth_differ j k hj n e in absurd (omega arith)

  -- ---- single steps
  pub own_turns : (i j : ℕ) → GoodAt i j → i < length (mine l w) → seen_of (own l w i) ≤ j → Turns (own l w i).name (own_does i j) (list i j) (list (suc i) j)
  own_turns i j good hi seen =
      let edge = grid.own_edge i j good hi seen in
      let bears = form_by_lem m.laws _ (own l w i) (point l w i j) (grid.contexts.own_by i hi) in
      subst (λ y. Turns (own l w i).name (own_does i j) (list i j) (𝓞.origins y)) (sym edge.gives) (𝓞.turns _ (own_form l w i j) (doc_at d l w i j) bears edge.fits)

  pub oth_turns : (i j : ℕ) → GoodAt i j → j < length (others l w) → lag_of l w j ≤ i → Turns (oth l w j).name (oth_does i j) (list i j) (list i (suc j))
  oth_turns i j good hj lag =
      let edge = grid.oth_edge i j good hj lag in
      let bears = form_by_lem m.laws _ (oth l w j) (point l w i j) (grid.contexts.oth_by j hj) in
      subst (λ y. Turns (oth l w j).name (oth_does i j) (list i j) (𝓞.origins y)) (sym edge.gives) (𝓞.turns _ (oth_form l w i j) (doc_at d l w i j) bears edge.fits)

  pub record Known (i j : ℕ) : Type 0 where
    pub once : Once (list i j)
    pub known : (o : Name) → holds (list i j) o ≡ true → In i j o

  own_next : (i j : ℕ) → GoodAt i j → i < length (mine l w) → seen_of (own l w i) ≤ j → Known i j → Stepped (own l w i).name (own_does i j) (list i j) (list (suc i) j)
  own_next i j good hi seen k = record { turns = own_turns i j good hi seen; new = is_false _ (λ t. new_own i j hi (k.known _ t)); once = k.once }

  oth_next : (i j : ℕ) → GoodAt i j → j < length (others l w) → lag_of l w j ≤ i → Known i j → Stepped (oth l w j).name (oth_does i j) (list i j) (list i (suc j))
  oth_next i j good hj lag k = record { turns = oth_turns i j good hj lag; new = is_false _ (λ t. new_oth i j hj (k.known _ t)); once = k.once }

  -- ---- every good point, from the opening list on
  pub none_good : GoodAt 0 0
  none_good = record { own_le = zero-le; oth_le = zero-le; lags = λ k lt. absurd (not-suc-le-zero lt); seens = λ k lt. absurd (not-suc-le-zero lt) }

  pub none_point : point l w 0 0 ≡ []
  none_point = L.firsts_none (is_by l) blank w

  pub none_list : list 0 0 ≡ 𝓞.origins d
  unfolding list_at grown
  none_list = ap (λ C. 𝓞.origins (list_at d C)) none_point

  pub known_at : (i j : ℕ) → GoodAt i j → Known i j
  known_at i j good =
      walk l w grid.contexts Known
      (λ i j good hi seen k. let step = own_next i j good hi seen k in
      record { once = once_after _ _ _ _ step; known = λ o t. own_in i j hi o (held_before _ _ _ _ step o t) k })
      (λ i j good hj lag k. let step = oth_next i j good hj lag k in
      record { once = once_after _ _ _ _ step; known = λ o t. oth_in i j hj o (held_before _ _ _ _ step o t) k })
      i j good 0 0 none_good zero-le zero-le
      (record { once = subst Once (sym none_list) m.opening.once; known = λ o t. first (ap (λ r. holds r o) (sym none_list) ∙ t) })
    where
      own_in : (i j : ℕ) → i < length (mine l w) → (o : Name) → (holds (list i j) o ≡ true) ⊎ (o ≡ (own l w i).name) → Known i j → In (suc i) j o
      own_in i j hi o (inl t) k = in_more i j (suc i) j o (omega arith) (le_refl _) (k.known o t)
      own_in i j hi o (inr e) k = ours i (le_refl _) hi e

      oth_in : (i j : ℕ) → j < length (others l w) → (o : Name) → (holds (list i j) o ≡ true) ⊎ (o ≡ (oth l w j).name) → Known i j → In i (suc j) o
      oth_in i j hj o (inl t) k = in_more i j i (suc j) o (le_refl _) (omega arith) (k.known o t)
      oth_in i j hj o (inr e) k = theirs j (le_refl _) hj e

  pub own_step : (i j : ℕ) → GoodAt i j → i < length (mine l w) → seen_of (own l w i) ≤ j → Stepped (own l w i).name (own_does i j) (list i j) (list (suc i) j)
  own_step i j good hi seen = own_next i j good hi seen (known_at i j good)

  pub oth_step : (i j : ℕ) → GoodAt i j → j < length (others l w) → lag_of l w j ≤ i → Stepped (oth l w j).name (oth_does i j) (list i j) (list i (suc j))
  oth_step i j good hj lag = oth_next i j good hj lag (known_at i j good)
