-- How a line's grid grows: by a row when its client makes an edit, by a column when the server takes another line's edit.
use Prim.Native.Nat.{ℕ, zero, suc, ◌+◌, ◌-◌, ◌≤◌, ◌<◌, suc-le-suc}
use native.Mathlib.Nat.{le_of_suc-le-suc, le_refl, le_trans}
use native.Mathlib.Omega.{arith}
use mathlib.Core.Path.{◌≡◌, refl, sym, ap, ◌∙◌, subst}
use mathlib.Core.Logic.{◌⊎◌, inl, inr}
use mathlib.Core.Bool.{true, false, true≢false}
use mathlib.Core.List.{List, [], ◌∷◌, ◌++◌, append_assoc, append-nil}
use lib.Dec.{T, ltb, eqb}
use lib.ListN.{length, get_or, length-append}
use lib.Seq.{get_or-append_seam}
use Rattle.jupiter.specs.Algebra.{Algebra, Laws}
use Rattle.jupiter.specs.Made.{Made, same, holds, reject, is_by, mine, others}
use Rattle.jupiter.specs.Form.{form, list_at}
use Rattle.jupiter.specs.Point.{point, blank, own, oth, own_form, oth_form}
use Rattle.jupiter.proofs.Lists as L
use Rattle.jupiter.proofs.Lists.{All}
use Rattle.jupiter.proofs.Forms.{Inside, form_made, form_by_lem, list_at_snoc}
use Rattle.jupiter.proofs.Grid.{eqb_same, ltb_true, ltb_false, below_suc, Edge, far_sides, seen_of, lag_of, Grows, mine_own, others_own, grows_own, mine_oth, others_oth, others_before, grows_oth, own_cell, oth_cell, Contexts, own_line, oth_line, oth_out, Good, good_back, doc_at, OwnEdge, OthEdge, Grid}

-- a property of the numbers from s on that each hands to the next
pub climb : (P : ℕ → Type 0) (s e : ℕ) → P s → ((j : ℕ) → s ≤ j → j < e → P j → P (suc j)) → (j : ℕ) → s ≤ j → j ≤ e → P j
climb P s e base next j a b = subst P (omega arith) (go (j - s) (omega arith))
  where
    go : (n : ℕ) → s + n ≤ e → P (s + n)
    go zero h = subst P (omega arith) base
    go (suc n) h = subst P (omega arith) (next (s + n) (omega arith) (omega arith) (go n (omega arith)))

module _ {𝓐 : Algebra} where
  -- what is known of the edit that client l makes, when it has taken t of the others
  pub record NewOwn (l : ℕ) (w : List (Made 𝓐)) (t : ℕ) (o : Made 𝓐) : Type 0 where
    pub name : o.name ≡ record { line = l; number = suc (length (mine l w)) }
    pub knows_own : (k : ℕ) → k < length (mine l w) → holds o.context (own l w k).name ≡ true
    pub knows_mine : (x : ℕ) → holds o.context (record { line = l; number = x }) ≡ true → x ≤ length (mine l w)
    pub knows_oth : (j : ℕ) → j < length (others l w) → holds o.context (oth l w j).name ≡ ltb j t
    pub seen : seen_of o ≡ t
    pub seen_le : t ≤ length (others l w)
    pub seen_up : (k : ℕ) → k < length (mine l w) → seen_of (own l w k) ≤ t
    pub bears : T (𝓐.by o.name o.edit)

  module _ (l : ℕ) (w : List (Made 𝓐)) (t : ℕ) (o : Made 𝓐) (new : NewOwn l w t o) where
    pub row_by : is_by l o ≡ true
    row_by = ap (λ x. eqb l x.line) new.name ∙ eqb_same l

    row : List (Made 𝓐)
    row = w ++ (o ∷ [])

    pub row_made : length (mine l (w ++ (o ∷ []))) ≡ suc (length (mine l w))
    row_made = ap length (mine_own l w o row_by) ∙ length-append (mine l w) (o ∷ []) ∙ omega arith

    pub row_others : length (others l (w ++ (o ∷ []))) ≡ length (others l w)
    row_others = ap length (others_own l w o row_by)

    pub row_grows : Grows l w (w ++ (o ∷ []))
    row_grows = grows_own l w o row_by

    pub row_new : own l (w ++ (o ∷ [])) (length (mine l w)) ≡ o
    row_new = ap (λ r. get_or r (length (mine l w)) blank) (mine_own l w o row_by) ∙ get_or-append_seam (mine l w) o [] blank

    -- at its own context it has the form as made
    pub new_form : form o (point l w (length (mine l w)) t) ≡ o.edit
    new_form =
        form_made o _
        (L.firsts_every (is_by l) blank (Inside o.context) w (length (mine l w)) t (λ k a b. new.knows_own k b)
        (λ k a b. new.knows_oth k b ∙ ltb_true k t a))

    pub row_form : own_form l (w ++ (o ∷ [])) (length (mine l w)) t ≡ o.edit
    row_form =
        ap (λ x. form x (point l (w ++ (o ∷ [])) (length (mine l w)) t)) row_new
        ∙ ap (form o) (row_grows.point_same (length (mine l w)) t (le_refl _) new.seen_le) ∙ new_form

    pub row_own_cases : (P : ℕ → Made 𝓐 → Type 0) → ((i : ℕ) → i < length (mine l w) → P i (own l w i)) → P (length (mine l w)) o
        → (i : ℕ) → i < length (mine l (w ++ (o ∷ []))) → P i (own l (w ++ (o ∷ [])) i)
    row_own_cases P old last i h = go (below_suc i (length (mine l w)) (subst (λ n. i < n) row_made h))
      where
        go : (i < length (mine l w)) ⊎ (i ≡ length (mine l w)) → P i (own l (w ++ (o ∷ [])) i)
        go (inl lt) = subst (P i) (sym (row_grows.own_same i lt)) (old i lt)
        go (inr e) = subst (λ x. P x (own l (w ++ (o ∷ [])) x)) (sym e) (subst (P (length (mine l w))) (sym row_new) last)

    pub row_oth_cases : (P : ℕ → Made 𝓐 → Type 0) → ((j : ℕ) → j < length (others l w) → P j (oth l w j))
        → (j : ℕ) → j < length (others l (w ++ (o ∷ []))) → P j (oth l (w ++ (o ∷ [])) j)
    row_oth_cases P old j h =
        let h' : j < length (others l w) = subst (λ n. j < n) row_others h in
        subst (P j) (sym (row_grows.oth_same j h')) (old j h')

    back_oth : {j : ℕ} → j < length (others l (w ++ (o ∷ []))) → j < length (others l w)
    back_oth {j} h = subst (λ n. j < n) row_others h

    pub row_contexts : Contexts l w → Contexts l (w ++ (o ∷ []))
    row_contexts c =
        record {
          own_number = row_own_cases (λ i e. e.name.number ≡ suc i) c.own_number (ap (λ x. x.number) new.name);
          oth_inj = λ j k hj hk.
              row_oth_cases (λ j e. same e.name (oth l (w ++ (o ∷ [])) k).name ≡ true → j ≡ k)
              (λ j hj. row_oth_cases (λ k e. same (oth l w j).name e.name ≡ true → j ≡ k) (λ k hk. c.oth_inj j k hj hk) k hk) j hj;
          ctx_own = λ i k hi. row_own_cases (λ i e. k < i → holds e.context (own l (w ++ (o ∷ [])) k).name ≡ true)
              (λ i hi lt. rw (row_grows.own_same k (omega arith)) (c.ctx_own i k hi lt))
              (λ lt. rw (row_grows.own_same k lt) (new.knows_own k lt)) i hi;
          ctx_mine = λ i x hi. row_own_cases (λ i e. holds e.context (record { line = l; number = x }) ≡ true → x ≤ i) (λ i hi. c.ctx_mine i x hi) (new.knows_mine x) i hi;
          ctx_oth = λ i j hi hj. row_own_cases (λ i e. holds e.context (oth l (w ++ (o ∷ [])) j).name ≡ ltb j (seen_of e))
              (λ i hi. rw (row_grows.oth_same j (back_oth hj)) (c.ctx_oth i j hi (back_oth hj)))
              (rw (row_grows.oth_same j (back_oth hj), new.seen) (new.knows_oth j (back_oth hj))) i hi;
          oth_ctx = λ j x hj. row_oth_cases (λ j e. holds e.context (record { line = l; number = x }) ≡ true → x ≤ lag_of l (w ++ (o ∷ [])) j)
              (λ j hj e. rw (row_grows.lag_same j hj) (c.oth_ctx j x hj e)) j hj;
          seen_le = row_own_cases (λ i e. seen_of e ≤ length (others l (w ++ (o ∷ [])))) (λ i hi. rw row_others (c.seen_le i hi)) (rw (row_others, new.seen) new.seen_le);
          causal = λ i j hi hj. row_own_cases (λ i e. j < seen_of e → lag_of l (w ++ (o ∷ [])) j ≤ i)
              (λ i hi lt. rw (row_grows.lag_same j (back_oth hj)) (c.causal i j hi (back_oth hj) lt))
              (λ lt. rw (row_grows.lag_same j (back_oth hj)) (L.lag_le (is_by l) blank w j)) i hi;
          seen_up = λ i k hi. row_own_cases (λ i e. k < i → seen_of (own l (w ++ (o ∷ [])) k) ≤ seen_of e)
              (λ i hi lt. rw (row_grows.own_same k (omega arith)) (c.seen_up i k hi lt))
              (λ lt. rw (row_grows.own_same k lt, new.seen) (new.seen_up k lt)) i hi;
          own_by = row_own_cases (λ i e. T (𝓐.by e.name e.edit)) c.own_by new.bears;
          oth_by = row_oth_cases (λ j e. T (𝓐.by e.name e.edit)) c.oth_by;
        }

  -- what is known of an edit of another line that the server takes, behind xs
  pub record NewOth (l : ℕ) (xs ys : List (Made 𝓐)) (g : Made 𝓐) : Type 0 where
    pub other : is_by l g ≡ false
    pub behind : All (λ y. is_by l y ≡ true) ys
    pub fresh : (j : ℕ) → j < length (others l (xs ++ ys)) → same (oth l (xs ++ ys) j).name g.name ≡ false
    pub fresh' : (j : ℕ) → j < length (others l (xs ++ ys)) → same g.name (oth l (xs ++ ys) j).name ≡ false
    pub unknown : (i : ℕ) → i < length (mine l (xs ++ ys)) → holds (own l (xs ++ ys) i).context g.name ≡ false
    pub knows : (x : ℕ) → holds g.context (record { line = l; number = x }) ≡ true → x ≤ length (mine l xs)
    pub bears : T (𝓐.by g.name g.edit)

  module _ (l : ℕ) (xs ys : List (Made 𝓐)) (g : Made 𝓐) (new : NewOth l xs ys g) where
    pub col_grows : Grows l (xs ++ ys) (xs ++ g ∷ ys)
    col_grows = grows_oth l xs g ys new.other new.behind

    pub col_made : length (mine l (xs ++ g ∷ ys)) ≡ length (mine l (xs ++ ys))
    col_made = ap length (mine_oth l xs g ys new.other new.behind)

    pub col_before : length (others l (xs ++ ys)) ≡ length (others l xs)
    col_before = ap length (others_before l xs g ys new.other new.behind)

    pub col_others : length (others l (xs ++ g ∷ ys)) ≡ suc (length (others l (xs ++ ys)))
    col_others =
        let e : length (others l (xs ++ g ∷ ys)) ≡ length (others l xs) + 1 = ap length (others_oth l xs g ys new.other new.behind) ∙ length-append (others l xs) (g ∷ []) in
        omega (arith, col_before)

    pub col_new : oth l (xs ++ g ∷ ys) (length (others l (xs ++ ys))) ≡ g
    col_new =
        ap (oth l (xs ++ g ∷ ys)) col_before ∙ ap (λ r. get_or r (length (others l xs)) blank) (others_oth l xs g ys new.other new.behind)
        ∙ get_or-append_seam (others l xs) g [] blank

    pub col_lag : lag_of l (xs ++ g ∷ ys) (length (others l (xs ++ ys))) ≡ length (mine l xs)
    col_lag = ap (lag_of l (xs ++ g ∷ ys)) col_before ∙ L.lag_at (is_by l) blank xs g ys new.other

    pub col_own_cases : (P : ℕ → Made 𝓐 → Type 0) → ((i : ℕ) → i < length (mine l (xs ++ ys)) → P i (own l (xs ++ ys) i))
        → (i : ℕ) → i < length (mine l (xs ++ g ∷ ys)) → P i (own l (xs ++ g ∷ ys) i)
    col_own_cases P old i h =
        let h' : i < length (mine l (xs ++ ys)) = subst (λ n. i < n) col_made h in
        subst (P i) (sym (col_grows.own_same i h')) (old i h')

    pub col_oth_cases : (P : ℕ → Made 𝓐 → Type 0) → ((j : ℕ) → j < length (others l (xs ++ ys)) → P j (oth l (xs ++ ys) j)) → P (length (others l (xs ++ ys))) g
        → (j : ℕ) → j < length (others l (xs ++ g ∷ ys)) → P j (oth l (xs ++ g ∷ ys) j)
    col_oth_cases P old last j h = go (below_suc j (length (others l (xs ++ ys))) (subst (λ n. j < n) col_others h))
      where
        go : (j < length (others l (xs ++ ys))) ⊎ (j ≡ length (others l (xs ++ ys))) → P j (oth l (xs ++ g ∷ ys) j)
        go (inl lt) = subst (P j) (sym (col_grows.oth_same j lt)) (old j lt)
        go (inr e) = subst (λ x. P x (oth l (xs ++ g ∷ ys) x)) (sym e) (subst (P (length (others l (xs ++ ys)))) (sym col_new) last)

    back_own : {i : ℕ} → i < length (mine l (xs ++ g ∷ ys)) → i < length (mine l (xs ++ ys))
    back_own {i} h = subst (λ n. i < n) col_made h

    pub col_contexts : Contexts l (xs ++ ys) → Contexts l (xs ++ g ∷ ys)
    col_contexts c =
        record {
          own_number = col_own_cases (λ i e. e.name.number ≡ suc i) c.own_number;
          oth_inj = λ j k hj hk.
              col_oth_cases (λ j e. same e.name (oth l (xs ++ g ∷ ys) k).name ≡ true → j ≡ k)
              (λ j hj. col_oth_cases (λ k e. same (oth l (xs ++ ys) j).name e.name ≡ true → j ≡ k) (λ k hk. c.oth_inj j k hj hk)
              (λ e. absurd (true≢false (sym e ∙ new.fresh j hj))) k hk)
              (col_oth_cases (λ k e. same g.name e.name ≡ true → length (others l (xs ++ ys)) ≡ k)
              (λ k hk e. absurd (true≢false (sym e ∙ new.fresh' k hk))) (λ e. refl) k hk) j hj;
          ctx_own = λ i k hi. col_own_cases (λ i e. k < i → holds e.context (own l (xs ++ g ∷ ys) k).name ≡ true)
              (λ i hi lt. rw (col_grows.own_same k (omega arith)) (c.ctx_own i k hi lt)) i hi;
          ctx_mine = λ i x hi. col_own_cases (λ i e. holds e.context (record { line = l; number = x }) ≡ true → x ≤ i) (λ i hi. c.ctx_mine i x hi) i hi;
          ctx_oth = λ i j hi hj. col_own_cases (λ i e. holds e.context (oth l (xs ++ g ∷ ys) j).name ≡ ltb j (seen_of e))
              (λ i hi. col_oth_cases (λ j e. holds (own l (xs ++ ys) i).context e.name ≡ ltb j (seen_of (own l (xs ++ ys) i)))
              (λ j hj. c.ctx_oth i j hi hj) (new.unknown i hi ∙ sym (ltb_false _ _ (c.seen_le i hi))) j hj) i hi;
          oth_ctx = λ j x hj. col_oth_cases (λ j e. holds e.context (record { line = l; number = x }) ≡ true → x ≤ lag_of l (xs ++ g ∷ ys) j)
              (λ j hj e. rw (col_grows.lag_same j hj) (c.oth_ctx j x hj e)) (λ e. rw col_lag (new.knows x e)) j hj;
          seen_le = col_own_cases (λ i e. seen_of e ≤ length (others l (xs ++ g ∷ ys)))
              (λ i hi. le_trans (c.seen_le i hi) col_grows.more_oth);
          causal = λ i j hi hj. col_own_cases (λ i e. j < seen_of e → lag_of l (xs ++ g ∷ ys) j ≤ i)
              (λ i hi lt. let hj' : j < length (others l (xs ++ ys)) = le_trans lt (c.seen_le i hi) in
              rw (col_grows.lag_same j hj') (c.causal i j hi hj' lt)) i hi;
          seen_up = λ i k hi. col_own_cases (λ i e. k < i → seen_of (own l (xs ++ g ∷ ys) k) ≤ seen_of e)
              (λ i hi lt. rw (col_grows.own_same k (omega arith)) (c.seen_up i k hi lt)) i hi;
          own_by = col_own_cases (λ i e. T (𝓐.by e.name e.edit)) c.own_by;
          oth_by = col_oth_cases (λ j e. T (𝓐.by e.name e.edit)) c.oth_by new.bears;
        }

-- ---- the edges

module _ {𝓐 : Algebra} (laws : Laws 𝓐) (d : 𝓐.Doc) where
  own_edge_on : (l : ℕ) (w w' : List (Made 𝓐)) → Grows l w w' → (i j : ℕ) → i < length (mine l w) → j ≤ length (others l w) → OwnEdge d l w i j → OwnEdge d l w' i j
  own_edge_on l w w' g i j a b e =
      subst (λ C. Edge 𝓐 (form (own l w' i) (point l w' i j)) (list_at d (point l w' i j)) (list_at d C)) (sym (g.point_same (suc i) j a b))
      (subst (λ C. Edge 𝓐 (form (own l w' i) C) (list_at d C) (doc_at d l w (suc i) j)) (sym (g.point_same i j (omega arith) b))
      (subst (λ x. Edge 𝓐 (form x (point l w i j)) (doc_at d l w i j) (doc_at d l w (suc i) j)) (sym (g.own_same i a)) e))

  oth_edge_on : (l : ℕ) (w w' : List (Made 𝓐)) → Grows l w w' → (i j : ℕ) → i ≤ length (mine l w) → j < length (others l w) → OthEdge d l w i j → OthEdge d l w' i j
  oth_edge_on l w w' g i j a b e =
      subst (λ C. Edge 𝓐 (form (oth l w' j) (point l w' i j)) (list_at d (point l w' i j)) (list_at d C)) (sym (g.point_same i (suc j) a b))
      (subst (λ C. Edge 𝓐 (form (oth l w' j) C) (list_at d C) (doc_at d l w i (suc j))) (sym (g.point_same i j a (omega arith)))
      (subst (λ x. Edge 𝓐 (form x (point l w i j)) (doc_at d l w i j) (doc_at d l w i (suc j))) (sym (g.oth_same j b)) e))

  -- the list at a point whose last edit is line l's
  last_own : (l : ℕ) (w : List (Made 𝓐)) (i j : ℕ) → i < length (mine l w) → ((k : ℕ) → k < j → lag_of l w k ≤ i)
      → doc_at d l w (suc i) j ≡ 𝓐.apply (own_form l w i j) (doc_at d l w i j)
  last_own l w i j h lags = ap (list_at d) (L.firsts_snoc (is_by l) blank w i j h lags) ∙ list_at_snoc d (point l w i j) (own l w i)

  -- one cell: o is not known to g, nor g to o, and o is the last of the four sets
  cell : (l : ℕ) (w : List (Made 𝓐)) → Contexts l w → (i j : ℕ) → i < length (mine l w) → j < length (others l w) → seen_of (own l w i) ≤ j
      → ((k : ℕ) → k < suc j → lag_of l w k ≤ i) → OwnEdge d l w i j → OthEdge d l w i j → OwnEdge d l w i (suc j) × OthEdge d l w (suc i) j
  cell l w c i j hi hj seen lags eo eg =
      far_sides 𝓐 laws (own l w i).name (oth l w j).name (λ e. oth_line l w j hj (sym (own_line l w i hi) ∙ e))
      (own_form l w i j) (oth_form l w i j) (own_form l w i (suc j)) (oth_form l w (suc i) j)
      (doc_at d l w i j) (doc_at d l w (suc i) j) (doc_at d l w i (suc j)) (doc_at d l w (suc i) (suc j))
      (form_by_lem laws _ (own l w i) (point l w i j) (c.own_by i hi)) (form_by_lem laws _ (oth l w j) (point l w i j) (c.oth_by j hj)) eo eg
      (own_cell l w i j hj (λ k lt _. c.ctx_own i k hi lt) (c.ctx_oth i j hi hj ∙ ltb_false _ _ seen))
      (oth_cell l w i j hi (λ k lt. lags k (omega arith)) (oth_out l w c i j hi hj (lags j (le_refl _)))) (last_own l w i (suc j) hi lags)

  -- a new row
  module _ (l : ℕ) (w : List (Made 𝓐)) (t : ℕ) (o : Made 𝓐) (new : NewOwn l w t o) (grid : Grid d l w) (good : Good l w (length (mine l w)) t)
      (ok : T (𝓐.fits o.edit (doc_at d l w (length (mine l w)) t))) where
    abbrev m : ℕ
    m = length (mine l w)

    abbrev n : ℕ
    n = length (others l w)

    abbrev w' : List (Made 𝓐)
    w' = w ++ (o ∷ [])

    row_lag : (k : ℕ) → k < n → lag_of l w' k ≤ m
    row_lag k h = subst (λ x. x ≤ m) (sym ((row_grows l w t o new).lag_same k h)) (L.lag_le (is_by l) blank w k)

    row_last : m < length (mine l w')
    row_last = omega (arith, row_made l w t o new)

    row_seen : seen_of (own l w' m) ≡ t
    row_seen = ap seen_of (row_new l w t o new) ∙ new.seen

    row_base : OwnEdge d l w' m t
    row_base =
        let same_point = (row_grows l w t o new).point_same m t (le_refl m) new.seen_le in
        record {
          fits = subst (λ C. T (𝓐.fits (own_form l w' m t) (list_at d C))) (sym same_point)
              (subst (λ x. T (𝓐.fits x (doc_at d l w m t))) (sym (row_form l w t o new)) ok);
          gives = last_own l w' m t row_last (λ k lt. row_lag k (le_trans lt new.seen_le));
        }

    row_good : (j : ℕ) → t ≤ j → j ≤ n → Good l w m j
    row_good j a b = record { own_le = le_refl m; oth_le = b; lags = λ k lt. L.lag_le (is_by l) blank w k; seens = λ k lt. le_trans (good.seens k lt) a }

    row_cell : (j : ℕ) → t ≤ j → j < n → OwnEdge d l w' m j → OwnEdge d l w' m (suc j) × OthEdge d l w' (suc m) j
    row_cell j a b e =
        cell l w' (row_contexts l w t o new grid.contexts) m j row_last (subst (λ x. j < x) (sym (row_others l w t o new)) b)
        (subst (λ x. x ≤ j) (sym row_seen) a) (λ k lt. row_lag k (le_trans lt b)) e
        (oth_edge_on l w w' (row_grows l w t o new) m j (le_refl m) b (grid.oth_edge m j (row_good j a (omega arith)) b (L.lag_le (is_by l) blank w j)))

    row_edge : (j : ℕ) → t ≤ j → j ≤ n → OwnEdge d l w' m j
    row_edge = climb (λ j. OwnEdge d l w' m j) t n row_base (λ j a b e. (row_cell j a b e).0)

    pub row_grid : Grid d l (w ++ (o ∷ []))
    row_grid =
        record {
          contexts = row_contexts l w t o new grid.contexts;
          own_edge = λ i j g h s. go i j g s (below_suc i m (subst (λ x. i < x) (row_made l w t o new) h));
          oth_edge = λ i j g h la. go' i j g (subst (λ x. j < x) (row_others l w t o new) h) la
              (below_suc i (suc m) (suc-le-suc (subst (λ x. i ≤ x) (row_made l w t o new) g.own_le)));
        }
      where
        go : (i j : ℕ) → Good l w' i j → seen_of (own l w' i) ≤ j → (i < m) ⊎ (i ≡ m) → OwnEdge d l w' i j
        go i j g s (inl lt) =
            let jn : j ≤ n = subst (λ x. j ≤ x) (row_others l w t o new) g.oth_le in
            own_edge_on l w w' (row_grows l w t o new) i j lt jn
            (grid.own_edge i j (good_back l w w' (row_grows l w t o new) i j (omega arith) jn g) lt
            (subst (λ x. seen_of x ≤ j) ((row_grows l w t o new).own_same i lt) s))
        go i j g s (inr e) =
            let jn : j ≤ n = subst (λ x. j ≤ x) (row_others l w t o new) g.oth_le in
            let tj : t ≤ j = subst (λ x. x ≤ j) (ap (λ x. seen_of (own l w' x)) e ∙ row_seen) s in
            subst (λ x. OwnEdge d l w' x j) (sym e) (row_edge j tj jn)

        go' : (i j : ℕ) → Good l w' i j → j < n → lag_of l w' j ≤ i → (i < suc m) ⊎ (i ≡ suc m) → OthEdge d l w' i j
        go' i j g jn la (inl lt) =
            oth_edge_on l w w' (row_grows l w t o new) i j (le_of_suc-le-suc lt) jn
            (grid.oth_edge i j (good_back l w w' (row_grows l w t o new) i j (le_of_suc-le-suc lt) (omega arith) g) jn
            (subst (λ x. x ≤ i) ((row_grows l w t o new).lag_same j jn) la))
        go' i j g jn la (inr e) =
            let tj : t ≤ j = subst (λ x. x ≤ j) row_seen (g.seens m (omega arith)) in
            subst (λ x. OthEdge d l w' x j) (sym e) (row_cell j tj jn (row_edge j tj (omega arith))).1

  -- a new column
  module _ (l : ℕ) (xs ys : List (Made 𝓐)) (g : Made 𝓐) (new : NewOth l xs ys g) (grid : Grid d l (xs ++ ys))
      (ok : T (𝓐.fits (form g xs) (list_at d xs))) where
    abbrev cm : ℕ
    cm = length (mine l (xs ++ ys))

    abbrev cn : ℕ
    cn = length (others l (xs ++ ys))

    abbrev ca : ℕ
    ca = length (mine l xs)

    abbrev cw : List (Made 𝓐)
    cw = xs ++ ys

    abbrev cw' : List (Made 𝓐)
    cw' = xs ++ g ∷ ys

    col_lag_old : (k : ℕ) → k < cn → lag_of l cw k ≤ ca
    col_lag_old k h =
        let h' : k < length (others l xs) = subst (λ x. k < x) (col_before l xs ys g new) h in
        subst (λ x. x ≤ ca) (sym (L.lag_append (is_by l) blank xs ys k h')) (L.lag_le (is_by l) blank xs k)

    pub col_lags : (k : ℕ) → k < suc cn → lag_of l cw' k ≤ ca
    col_lags k h = go (below_suc k cn h)
      where
        go : (k < cn) ⊎ (k ≡ cn) → lag_of l cw' k ≤ ca
        go (inl lt) = subst (λ x. x ≤ ca) (sym ((col_grows l xs ys g new).lag_same k lt)) (col_lag_old k lt)
        go (inr e) = subst (λ x. lag_of l cw' x ≤ ca) (sym e) (subst (λ x. x ≤ ca) (sym (col_lag l xs ys g new)) (le_refl ca))

    ca_le : ca ≤ cm
    ca_le = omega (arith, ap length (L.select_append (is_by l) blank xs ys) ∙ length-append (mine l xs) (mine l ys))

    col_last : cn < length (others l cw')
    col_last = omega (arith, col_others l xs ys g new)

    -- the server's own point
    col_point : point l cw ca cn ≡ xs
    col_point = ap (point l cw ca) (col_before l xs ys g new) ∙ L.firsts_prefix (is_by l) blank xs ys

    pub col_next : point l cw' ca (suc cn) ≡ xs ++ (g ∷ [])
    unfolding reject
    col_next =
        let a : ca ≡ length (mine l (xs ++ (g ∷ []))) = ap length (sym (L.select_out (is_by l) blank xs g [] new.other ∙ ap (mine l) (append-nil xs))) in
        let b : suc cn ≡ length (others l (xs ++ (g ∷ []))) =
        omega (arith, col_before l xs ys g new, ap length (L.reject_in (is_by l) blank xs g [] new.other) ∙ length-append (others l xs) (g ∷ others l [])) in
        ap (λ x. point l cw' x (suc cn)) a ∙ ap (point l cw' (length (mine l (xs ++ (g ∷ []))))) b
        ∙ ap (λ x. point l x (length (mine l (xs ++ (g ∷ [])))) (length (others l (xs ++ (g ∷ []))))) (sym (append_assoc xs (g ∷ []) ys))
        ∙ L.firsts_prefix (is_by l) blank (xs ++ (g ∷ [])) ys

    pub col_form : oth_form l cw' ca cn ≡ form g xs
    col_form =
        ap (λ x. form x (point l cw' ca cn)) (col_new l xs ys g new)
        ∙ ap (form g) ((col_grows l xs ys g new).point_same ca cn ca_le (le_refl cn) ∙ col_point)

    col_base : OthEdge d l cw' ca cn
    col_base =
        let here : point l cw' ca cn ≡ xs = (col_grows l xs ys g new).point_same ca cn ca_le (le_refl cn) ∙ col_point in
        record {
          fits = subst (λ C. T (𝓐.fits (oth_form l cw' ca cn) (list_at d C))) (sym here) (subst (λ x. T (𝓐.fits x (list_at d xs))) (sym col_form) ok);
          gives = ap (list_at d) col_next ∙ list_at_snoc d xs g ∙ ap (λ x. 𝓐.apply x (list_at d xs)) (sym col_form)
              ∙ ap (λ C. 𝓐.apply (oth_form l cw' ca cn) (list_at d C)) (sym here);
        }

    col_good : (i : ℕ) → ca ≤ i → i ≤ cm → Good l cw i cn
    col_good i a b =
        record {
          own_le = b;
          oth_le = le_refl cn;
          lags = λ k lt. le_trans (col_lag_old k lt) a;
          seens = λ k lt. grid.contexts.seen_le k (le_trans lt b);
        }

    col_cell : (i : ℕ) → ca ≤ i → i < cm → OthEdge d l cw' i cn → OwnEdge d l cw' i (suc cn) × OthEdge d l cw' (suc i) cn
    col_cell i a b e =
        let seen : seen_of (own l cw i) ≤ cn = grid.contexts.seen_le i b in
        cell l cw' (col_contexts l xs ys g new grid.contexts) i cn (subst (λ x. i < x) (sym (col_made l xs ys g new)) b) col_last
        (subst (λ x. seen_of x ≤ cn) (sym ((col_grows l xs ys g new).own_same i b)) seen) (λ k lt. le_trans (col_lags k lt) a)
        (own_edge_on l cw cw' (col_grows l xs ys g new) i cn b (le_refl cn) (grid.own_edge i cn (col_good i a (omega arith)) b seen)) e

    col_edge : (i : ℕ) → ca ≤ i → i ≤ cm → OthEdge d l cw' i cn
    col_edge = climb (λ i. OthEdge d l cw' i cn) ca cm col_base (λ i a b e. (col_cell i a b e).1)

    pub col_grid : Grid d l (xs ++ g ∷ ys)
    col_grid =
        record {
          contexts = col_contexts l xs ys g new grid.contexts;
          own_edge = λ i j good h s. go i j good (subst (λ x. i < x) (col_made l xs ys g new) h) s
              (below_suc j (suc cn) (suc-le-suc (subst (λ x. j ≤ x) (col_others l xs ys g new) good.oth_le)));
          oth_edge = λ i j good h la. go' i j good (subst (λ x. i ≤ x) (col_made l xs ys g new) good.own_le) la
              (below_suc j cn (subst (λ x. j < x) (col_others l xs ys g new) h));
        }
      where
        go : (i j : ℕ) → Good l cw' i j → i < cm → seen_of (own l cw' i) ≤ j → (j < suc cn) ⊎ (j ≡ suc cn) → OwnEdge d l cw' i j
        go i j good im s (inl lt) =
            own_edge_on l cw cw' (col_grows l xs ys g new) i j im (le_of_suc-le-suc lt)
            (grid.own_edge i j (good_back l cw cw' (col_grows l xs ys g new) i j (omega arith) (le_of_suc-le-suc lt) good) im
            (subst (λ x. seen_of x ≤ j) ((col_grows l xs ys g new).own_same i im) s))
        go i j good im s (inr e) =
            let la : ca ≤ i = subst (λ x. x ≤ i) (col_lag l xs ys g new) (good.lags cn (omega arith)) in
            subst (λ x. OwnEdge d l cw' i x) (sym e) (col_cell i la im (col_edge i la (omega arith))).0

        go' : (i j : ℕ) → Good l cw' i j → i ≤ cm → lag_of l cw' j ≤ i → (j < cn) ⊎ (j ≡ cn) → OthEdge d l cw' i j
        go' i j good im la (inl lt) =
            oth_edge_on l cw cw' (col_grows l xs ys g new) i j im lt
            (grid.oth_edge i j (good_back l cw cw' (col_grows l xs ys g new) i j im (omega arith) good) lt
            (subst (λ x. x ≤ i) ((col_grows l xs ys g new).lag_same j lt) la))
        go' i j good im la (inr e) =
            let la' : ca ≤ i = subst (λ x. x ≤ i) (ap (lag_of l cw') e ∙ col_lag l xs ys g new) la in
            subst (λ x. OthEdge d l cw' i x) (sym e) (col_edge i la' im)
