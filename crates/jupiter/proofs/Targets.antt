-- What an edit does in each of its forms: what it did as made, or nothing, where another edit has taken off the same.
use Prim.Native.Nat.{ℕ, suc, ◌≤◌, ◌<◌}
use native.Mathlib.Nat.{le_refl, le_trans}
use native.Mathlib.Omega.{arith}
use mathlib.Core.Path.{◌≡◌, refl, sym, ap, ◌∙◌, subst}
use mathlib.Core.Logic.{◌≢◌, ◌⊎◌, inl, inr}
use mathlib.Core.Bool.{Bool, true, false, cond, true≢false}
use mathlib.Core.List.{List}
use lib.Dec.{T, ltb}
use lib.ListN.{length}
use Rattle.jupiter.specs.Name.{Name, same, holds}
use Rattle.jupiter.specs.Algebra.{Algebra}
use Rattle.jupiter.specs.Made.{Made, select, names, is_by, mine, others}
use Rattle.jupiter.specs.Form.{form, list_at}
use Rattle.jupiter.specs.Point.{point, blank, own, oth, own_form, oth_form}
use Rattle.jupiter.specs.History.{History, order}
use Rattle.jupiter.specs.Origins.{OneMore, Effect, puts, cuts, leaves, Turns, remains, Origins}
use Rattle.jupiter.specs.Standing.{known_to, did}
use Rattle.jupiter.proofs.Lists as L
use Rattle.jupiter.proofs.Lists.{All}
use Rattle.jupiter.proofs.Forms.{form_made, form_by_lem, Inside}
use Rattle.jupiter.proofs.Grid.{ltb_true, ltb_false, seen_of, lag_of, Contexts, own_line, oth_line, own_name, own_cell, oth_cell, oth_out, doc_at}
use Rattle.jupiter.proofs.Extend.{climb}
use Rattle.jupiter.proofs.Replay.{is_false, same_eq}
use Rattle.jupiter.proofs.Walk.{order_of_lem}
use Rattle.jupiter.proofs.Names.{held_new, once_less, Stepped, held_before}
use Rattle.jupiter.proofs.Standing.{Moment, grid, GoodAt, list, own_does, oth_does, In, first, in_more, new_own, new_oth, own_turns, known_at, own_step, oth_step}
use Rattle.jupiter.proofs.Prefix.{Taken, up_to, maker, owns, oths, prefix_point, prefix_good, taken_is, taken_made, taken_seen, OthTaken, oth_taken}
use Rattle.jupiter.proofs.OneOrder.{prefix_in, in_prefix}

-- p is what the edit did as made, q what it does to a list with the origins xs
pub data Was (xs : List Name) (p q : Effect) : Type 0 where
  as_made : q ≡ p → Was xs p q
  done : (o : Name) → p ≡ cuts o → q ≡ leaves → holds xs o ≡ false → Was xs p q

-- it is transformed against an edit of name x, which is not what it took off
was_past : (x : Name) (f : Effect) (xs ys : List Name) → Stepped x f xs ys → (p q : Effect) → ((o : Name) → p ≡ cuts o → o ≢ x) → Was xs p q → Was ys p (remains q f)
unfolding remains
was_past x f xs ys step p q ne (done o e r n) = done o e (ap (λ z. remains z f) r) (is_false _ (λ t. go (held_before x f xs ys step o t)))
  where
    go : (holds xs o ≡ true) ⊎ (o ≡ x) → ⊥
    go (inl t) = true≢false (sym t ∙ n)
    go (inr q) = ne o e q
was_past x f xs ys step p q ne (as_made r) = subst (λ z. Was ys p (remains z f)) (sym r) (go p f step)
  where
    go : (p f : Effect) → Stepped x f xs ys → Was ys p (remains p f)
    go puts f step = as_made refl
    go leaves f step = as_made refl
    go (cuts o) puts step = as_made refl
    go (cuts o) leaves step = as_made refl
    go (cuts o) (cuts y) step = both (same o y) refl
      where
        both : (b : Bool) → same o y ≡ b → Was ys (cuts o) (cond b leaves (cuts o))
        both true e = done o refl refl (ap (holds ys) (same_eq o y e) ∙ (once_less y ys xs step.turns step.once).0)
        both false e = as_made refl

-- what an edit takes off stands there
pub cut_held : (x : Name) (f : Effect) (xs ys : List Name) → Turns x f xs ys → (o : Name) → f ≡ cuts o → holds xs o ≡ true
cut_held x f xs ys t o e = let less : OneMore o ys xs = subst (λ z. Turns x z xs ys) e t in held_new o ys xs less

module _ {𝓐 : Algebra} {𝓞 : Origins 𝓐} {d : 𝓐.Doc} {h : History 𝓐} (m : Moment 𝓞 d h) where
  module _ (l : ℕ) where
    abbrev w : List (Made 𝓐)
    w = order h l

    abbrev contexts : Contexts l w
    contexts = (grid m l).contexts

    -- ---- a cell of the grid: each of its edits past the other
    module _ (i j : ℕ) (good : GoodAt m l i j) (hi : i < length (mine l w)) (hj : j < length (others l w)) (seen : seen_of (own l w i) ≤ j) (lag : lag_of l w j ≤ i) where
      lines_differ : (own l w i).name.line ≢ (oth l w j).name.line
      lines_differ e = oth_line l w j hj (sym (own_line l w i hi) ∙ e)

      own_bears : T (𝓐.by (own l w i).name (own_form l w i j))
      own_bears = form_by_lem m.laws _ (own l w i) (point l w i j) (contexts.own_by i hi)

      oth_bears : T (𝓐.by (oth l w j).name (oth_form l w i j))
      oth_bears = form_by_lem m.laws _ (oth l w j) (point l w i j) (contexts.oth_by j hj)

      own_past : own_does m l i (suc j) ≡ remains (own_does m l i j) (oth_does m l i j)
      own_past =
          let own_edge = (grid m l).own_edge i j good hi seen in
          let oth_edge = (grid m l).oth_edge i j good hj lag in
          ap (λ e. 𝓞.effect e (doc_at d l w i (suc j))) (own_cell l w i j hj (λ k lt _. contexts.ctx_own i k hi lt) (contexts.ctx_oth i j hi hj ∙ ltb_false _ _ seen))
          ∙ ap (𝓞.effect (𝓐.transform (own_form l w i j) (oth_form l w i j))) oth_edge.gives
          ∙ 𝓞.transforms (own l w i).name (oth l w j).name (own_form l w i j) (oth_form l w i j) (doc_at d l w i j)
          lines_differ own_bears oth_bears own_edge.fits oth_edge.fits (known_at m l i j good).once

      oth_past : oth_does m l (suc i) j ≡ remains (oth_does m l i j) (own_does m l i j)
      oth_past =
          let own_edge = (grid m l).own_edge i j good hi seen in
          let oth_edge = (grid m l).oth_edge i j good hj lag in
          ap (λ e. 𝓞.effect e (doc_at d l w (suc i) j)) (oth_cell l w i j hi good.lags (oth_out l w contexts i j hi hj lag))
          ∙ ap (𝓞.effect (𝓐.transform (oth_form l w i j) (own_form l w i j))) own_edge.gives
          ∙ 𝓞.transforms (oth l w j).name (own l w i).name (oth_form l w i j) (own_form l w i j) (doc_at d l w i j)
          (λ e. lines_differ (sym e)) oth_bears own_bears oth_edge.fits own_edge.fits (known_at m l i j good).once

    -- between two good points of a row, and of a column
    row_good : (i j₀ j j₁ : ℕ) → GoodAt m l i j₀ → GoodAt m l i j₁ → j₀ ≤ j → j ≤ j₁ → GoodAt m l i j
    row_good i j₀ j j₁ g₀ g₁ a b =
        record { own_le = g₁.own_le; oth_le = le_trans b g₁.oth_le; lags = λ k lt. g₁.lags k (le_trans lt b); seens = λ k lt. le_trans (g₀.seens k lt) a }

    column_good : (i₀ i i₁ j : ℕ) → GoodAt m l i₀ j → GoodAt m l i₁ j → i₀ ≤ i → i ≤ i₁ → GoodAt m l i j
    column_good i₀ i i₁ j g₀ g₁ a b =
        record { own_le = le_trans b g₁.own_le; oth_le = g₁.oth_le; lags = λ k lt. le_trans (g₀.lags k lt) a; seens = λ k lt. g₁.seens k (le_trans lt b) }

    -- ---- an own edit, from where it was made: its context is a good point
    module _ (i : ℕ) (hi : i < length (mine l w)) where
      abbrev seen_then : ℕ
      seen_then = seen_of (own l w i)

      pub home_good : GoodAt m l i seen_then
      home_good =
          record {
            own_le = omega arith;
            oth_le = contexts.seen_le i hi;
            lags = λ k lt. contexts.causal i k hi (le_trans lt (contexts.seen_le i hi)) lt;
            seens = λ k lt. contexts.seen_up i k hi lt;
          }

      pub home_is : known_to 𝓞 d h (own l w i) ≡ point l w i seen_then
      home_is =
          ap (λ k. select knows (order h k)) (own_line l w i hi)
          ∙ L.select_firsts (is_by l) blank knows w i seen_then (λ k lt. go k lt (order_of_lem k i)) (λ k lt. contexts.ctx_oth i k hi lt)
        where
          knows : Made 𝓐 → Bool
          knows z = holds (own l w i).context z.name

          go : (k : ℕ) → k < length (mine l w) → (k < i) ⊎ (i ≤ k) → holds (own l w i).context (own l w k).name ≡ ltb k i
          go k lt (inl a) = contexts.ctx_own i k hi a ∙ sym (ltb_true k i a)
          go k lt (inr b) = is_false _ late ∙ sym (ltb_false k i b)
            where
              late : holds (own l w i).context (own l w k).name ≡ true → ⊥
              late t = let x : suc k ≤ i = contexts.ctx_mine i (suc k) hi (ap (holds (own l w i).context) (sym (own_name l w contexts k lt)) ∙ t) in absurd (omega arith)

      home_does : own_does m l i seen_then ≡ did 𝓞 d h (own l w i)
      home_does =
          ap (λ e. 𝓞.effect e (doc_at d l w i seen_then)) (form_made (own l w i) (point l w i seen_then) inside)
          ∙ ap (λ C. 𝓞.effect (own l w i).edit (list_at d C)) (sym home_is)
        where
          inside : All (Inside (own l w i).context) (point l w i seen_then)
          inside =
              L.firsts_every (is_by l) blank (Inside (own l w i).context) w i seen_then
              (λ k lt n. contexts.ctx_own i k hi lt) (λ k lt n. contexts.ctx_oth i k hi n ∙ ltb_true k seen_then lt)

      -- what it took off stood there, and is a name of its context
      pub home_held : (o : Name) → did 𝓞 d h (own l w i) ≡ cuts o → holds (list m l i seen_then) o ≡ true
      home_held o e = cut_held _ _ _ _ (own_turns m l i seen_then home_good hi (le_refl _)) o (home_does ∙ e)

      pub home_in : (o : Name) → did 𝓞 d h (own l w i) ≡ cuts o → In m l i seen_then o
      home_in o e = (known_at m l i seen_then home_good).known o (home_held o e)

      pub own_was : (j : ℕ) → GoodAt m l i j → seen_then ≤ j → Was (list m l i j) (did 𝓞 d h (own l w i)) (own_does m l i j)
      own_was j good seen =
          climb (λ j. Was (list m l i j) (did 𝓞 d h (own l w i)) (own_does m l i j)) seen_then j (as_made home_does)
          (λ k a b was.
          let here = row_good i seen_then k j home_good good a (omega arith) in
          let hk : k < length (others l w) = le_trans b good.oth_le in
          let lag = good.lags k b in
          subst (Was (list m l i (suc k)) (did 𝓞 d h (own l w i))) (sym (own_past i k here hi hk a lag))
          (was_past _ _ _ _ (oth_step m l i k here hk lag) _ _
          (λ o e q. new_oth m l i k hk (subst (In m l i k) q (in_more m l i seen_then i k o (le_refl _) a (home_in o e)))) was))
          j seen (le_refl _)

  -- ---- an edit as the server took it: its maker's own edit there
  module _ {e : Made 𝓐} (t : Taken h e) where
    pub taken_was : Was (𝓞.origins (list_at d t.before)) (did 𝓞 d h e) (𝓞.effect (form e t.before) (list_at d t.before))
    taken_was =
        subst (λ C. Was (𝓞.origins (list_at d C)) (did 𝓞 d h e) (𝓞.effect (form e C) (list_at d C))) (prefix_point (up_to t) (maker t))
        (subst (λ x. Was (list m (maker t) i j) (did 𝓞 d h x) (𝓞.effect (form x (point (maker t) (order h (maker t)) i j)) (doc_at d (maker t) (order h (maker t)) i j))) (taken_is t)
        (own_was (maker t) i (taken_made t) j (prefix_good m.inv (up_to t) (maker t)) (taken_seen m.inv t)))
      where
        i : ℕ
        i = owns (up_to t) (maker t)

        j : ℕ
        j = oths (up_to t) (maker t)

    -- what it took off is an origin of the opening list or a name of what the server had taken
    pub target_in : (o : Name) → did 𝓞 d h e ≡ cuts o → (holds (𝓞.origins d) o ≡ true) ⊎ (holds (names t.before) o ≡ true)
    target_in o q =
        in_prefix m (up_to t) (maker t) o
        (in_more m (maker t) _ _ _ _ o (le_refl _) (taken_seen m.inv t) (home_in (maker t) _ (taken_made t) o (ap (did 𝓞 d h) (taken_is t) ∙ q)))

  -- ---- an edit of another line, from where the server took it
  module _ (l j : ℕ) (hj : j < length (others l (order h l))) where
    abbrev e : Made 𝓐
    e = oth l (order h l) j

    abbrev lag_of_lem : ℕ
    lag_of_lem = lag_of l (order h l) j

    pub there : OthTaken m.inv l j
    there = oth_taken m.inv l j hj

    at_lag : (P : ℕ → ℕ → Type 0) → P (owns (up_to there.taken) l) (oths (up_to there.taken) l) → P lag_of_lem j
    at_lag P x = subst (λ i. P i j) there.owns_are (subst (P (owns (up_to there.taken) l)) there.oths_are x)

    pub lag_good : GoodAt m l lag_of_lem j
    lag_good = at_lag (GoodAt m l) (prefix_good m.inv (up_to there.taken) l)

    pub lag_point : point l (order h l) lag_of_lem j ≡ there.taken.before
    lag_point = at_lag (λ i j. point l (order h l) i j ≡ there.taken.before) (prefix_point (up_to there.taken) l)

    pub lag_in : (o : Name) → did 𝓞 d h e ≡ cuts o → In m l lag_of_lem j o
    lag_in o q = go (target_in there.taken o q)
      where
        go : (holds (𝓞.origins d) o ≡ true) ⊎ (holds (names there.taken.before) o ≡ true) → In m l lag_of_lem j o
        go (inl a) = first a
        go (inr b) = at_lag (λ i j. In m l i j o) (prefix_in m (up_to there.taken) l o b)

    pub oth_was : (i : ℕ) → GoodAt m l i j → lag_of_lem ≤ i → Was (list m l i j) (did 𝓞 d h e) (oth_does m l i j)
    oth_was i good lag =
        climb (λ i. Was (list m l i j) (did 𝓞 d h e) (oth_does m l i j)) lag_of_lem i
        (subst (λ C. Was (𝓞.origins (list_at d C)) (did 𝓞 d h e) (𝓞.effect (form e C) (list_at d C))) (sym lag_point) (taken_was there.taken))
        (λ k a b was.
        let here = column_good l lag_of_lem k i j lag_good good a (omega arith) in
        let hk : k < length (mine l (order h l)) = le_trans b good.own_le in
        let seen = good.seens k b in
        subst (Was (list m l (suc k) j) (did 𝓞 d h e)) (sym (oth_past l k j here hk hj seen a))
        (was_past _ _ _ _ (own_step m l k j here hk seen) _ _
        (λ o q r. new_own m l k j hk (subst (In m l k j) r (in_more m l lag_of_lem j k j o a (le_refl _) (lag_in o q)))) was))
        i lag (le_refl _)
