-- Prefixes of the server's order. Each is a good point of every line's grid, so that lists of two grids can be compared there; and what the server
-- takes next is the own edit that is next in its maker's grid.
use Prim.Native.Nat.{ℕ, zero, suc, ◌≤◌, ◌<◌, zero-le}
use native.Mathlib.Nat.{le_refl, le_trans}
use native.Mathlib.Omega.{arith}
use mathlib.Core.Path.{◌≡◌, refl, sym, ap, ◌∙◌, subst}
use mathlib.Core.Logic.{◌⊎◌, inl, inr}
use mathlib.Core.Bool.{true, false, ◌||◌}
use mathlib.Core.List.{List, [], ◌∷◌, ◌++◌, append_assoc, append-nil}
use lib.ListN.{length, get_or, length-append, get_or-append}
use lib.Seq.{get_or-append_seam}
use Rattle.jupiter.specs.Algebra.{Algebra}
use Rattle.jupiter.specs.Made.{Name, Made, holds, select, reject, names, is_by, mine, others}
use Rattle.jupiter.specs.Point.{point, blank, own, oth}
use Rattle.jupiter.specs.History.{History, order}
use Rattle.jupiter.specs.Ends.{Ends}
use Rattle.jupiter.proofs.Lists as L
use Rattle.jupiter.proofs.Grid.{eqb_same, seen_of, lag_of, Good}
use Rattle.jupiter.proofs.Replay.{holds_append, holds_in}
use Rattle.jupiter.proofs.Walk.{order_of_lem}
use Rattle.jupiter.proofs.Meeting.{holds_select, holds_reject}
use Rattle.jupiter.proofs.World.{others_served, Inv}

-- ---- of two fronts of one list, one is the front of the other
pub record Front {A : Type 0} (us vs : List A) : Type 0 where
  pub more : List A
  pub is : vs ≡ us ++ more

pub fronts : {A : Type 0} (us vs us' vs' : List A) → us ++ vs ≡ us' ++ vs' → Front us us' ⊎ Front us' us
fronts [] vs us' vs' e = inl (record { more = us'; is = refl })
fronts (u ∷ us) vs [] vs' e = inr (record { more = u ∷ us; is = refl })
fronts (u ∷ us) vs (u' ∷ us') vs' e =
    let head : u ≡ u' = cc in
    let tail : us ++ vs ≡ us' ++ vs' = cc in
    go head (fronts us vs us' vs' tail)
  where
    go : u ≡ u' → Front us us' ⊎ Front us' us → Front (u ∷ us) (u' ∷ us') ⊎ Front (u' ∷ us') (u ∷ us)
    go head (inl x) = inl (record { more = x.more; is = rw (head, x.is) refl })
    go head (inr x) = inr (record { more = x.more; is = rw (head, x.is) refl })

module _ {𝓐 : Algebra} where
  pub record Prefix (h : History 𝓐) : Type 0 where
    pub taken : List (Made 𝓐)
    pub rest : List (Made 𝓐)
    pub is : h.served ≡ taken ++ rest

  -- the server took e, behind these edits
  pub record Taken (h : History 𝓐) (e : Made 𝓐) : Type 0 where
    pub before : List (Made 𝓐)
    pub after : List (Made 𝓐)
    pub is : h.served ≡ before ++ e ∷ after

module _ {𝓐 : Algebra} {h : History 𝓐} where
  -- its point in line l's grid
  abbrev pub owns : Prefix h → ℕ → ℕ
  owns p l = length (mine l p.taken)

  abbrev pub oths : Prefix h → ℕ → ℕ
  oths p l = length (others l p.taken)

  module _ (p : Prefix h) (l : ℕ) where
    abbrev rest_of : List (Made 𝓐)
    rest_of = p.rest ++ h.untaken l

    pub order_is : order h l ≡ p.taken ++ rest_of
    order_is = ap (λ r. r ++ h.untaken l) p.is ∙ append_assoc p.taken p.rest (h.untaken l)

    mine_is : mine l (order h l) ≡ mine l p.taken ++ mine l rest_of
    mine_is = ap (mine l) order_is ∙ L.select_append (is_by l) blank p.taken rest_of

    others_are : others l (order h l) ≡ others l p.taken ++ others l rest_of
    others_are = ap (others l) order_is ∙ L.reject_append (is_by l) blank p.taken rest_of

    pub owns_le : owns p l ≤ length (mine l (order h l))
    owns_le = let n = ap length mine_is ∙ length-append (mine l p.taken) (mine l rest_of) in omega arith

    pub oths_le : oths p l ≤ length (others l (order h l))
    oths_le = let n = ap length others_are ∙ length-append (others l p.taken) (others l rest_of) in omega arith

    pub prefix_point : point l (order h l) (owns p l) (oths p l) ≡ p.taken
    prefix_point = ap (λ r. point l r (owns p l) (oths p l)) order_is ∙ L.firsts_prefix (is_by l) blank p.taken rest_of

    -- the edits of the point are held by the prefix
    pub own_held : (k : ℕ) → k < owns p l → holds (names p.taken) (own l (order h l) k).name ≡ true
    own_held k lt =
        let is : own l (order h l) k ≡ get_or (mine l p.taken) k blank = ap (λ r. get_or r k blank) mine_is ∙ get_or-append (mine l p.taken) (mine l rest_of) blank k lt in
        subst (λ x. holds (names p.taken) x.name ≡ true) (sym is) (holds_select (is_by l) p.taken _ (holds_in (mine l p.taken) k lt))

    pub oth_held : (k : ℕ) → k < oths p l → holds (names p.taken) (oth l (order h l) k).name ≡ true
    oth_held k lt =
        let is : oth l (order h l) k ≡ get_or (others l p.taken) k blank = ap (λ r. get_or r k blank) others_are ∙ get_or-append (others l p.taken) (others l rest_of) blank k lt in
        subst (λ x. holds (names p.taken) x.name ≡ true) (sym is) (holds_reject (is_by l) p.taken _ (holds_in (others l p.taken) k lt))

  pub front_held : (p p' : Prefix h) → Front p.taken p'.taken → (z : Name) → holds (names p.taken) z ≡ true → holds (names p'.taken) z ≡ true
  front_held p p' x z t = ap (λ r. holds (names r) z) x.is ∙ holds_append p.taken x.more z ∙ ap (λ b. b || holds (names x.more) z) t

  -- the prefixes without the edit and with it
  module _ {e : Made 𝓐} (t : Taken h e) where
    abbrev pub up_to : Prefix h
    up_to = record { taken = t.before; rest = e ∷ t.after; is = t.is }

    abbrev pub up_with : Prefix h
    up_with = record { taken = t.before ++ (e ∷ []); rest = t.after; is = t.is ∙ sym (append_assoc t.before (e ∷ []) t.after) }

    -- in its maker's grid
    abbrev pub maker : ℕ
    maker = e.name.line

    own_of : mine maker (order h maker) ≡ mine maker t.before ++ e ∷ mine maker (t.after ++ h.untaken maker)
    own_of = ap (mine maker) (order_is up_to maker) ∙ L.select_in (is_by maker) blank t.before e (t.after ++ h.untaken maker) (eqb_same maker)

    pub taken_is : own maker (order h maker) (owns up_to maker) ≡ e
    taken_is = ap (λ r. get_or r (owns up_to maker) blank) own_of ∙ get_or-append_seam (mine maker t.before) e (mine maker (t.after ++ h.untaken maker)) blank

    pub taken_made : owns up_to maker < length (mine maker (order h maker))
    taken_made = let n = ap length own_of ∙ length-append (mine maker t.before) (e ∷ mine maker (t.after ++ h.untaken maker)) in omega arith

    -- it is one more of its maker's line, and one more for every other line
    pub with_own : (owns up_with maker ≡ suc (owns up_to maker)) × (oths up_with maker ≡ oths up_to maker)
    unfolding select reject
    with_own = (
      ap length (L.select_in (is_by maker) blank t.before e [] (eqb_same maker)) ∙ (let n = length-append (mine maker t.before) (e ∷ []) in omega arith),
      ap length (L.reject_out (is_by maker) blank t.before e [] (eqb_same maker)) ∙ ap (λ r. length (others maker r)) (append-nil t.before),
    )

    pub with_oth : (l : ℕ) → is_by l e ≡ false → (owns up_with l ≡ owns up_to l) × (oths up_with l ≡ suc (oths up_to l))
    unfolding select reject
    with_oth l other = (
      ap length (L.select_out (is_by l) blank t.before e [] other) ∙ ap (λ r. length (mine l r)) (append-nil t.before),
      ap length (L.reject_in (is_by l) blank t.before e [] other) ∙ (let n = length-append (others l t.before) (e ∷ []) in omega arith),
    )

module _ {𝓐 : Algebra} {d : 𝓐.Doc} {E : Ends 𝓐} {h : History 𝓐} (inv : Inv d E h) where
  pub prefix_good : (p : Prefix h) (l : ℕ) → Good l (order h l) (owns p l) (oths p l)
  prefix_good p l =
      record {
        own_le = owns_le p l;
        oth_le = oths_le p l;
        lags = λ k lt. subst (λ r. lag_of l r k ≤ owns p l) (sym (order_is p l))
            (subst (λ n. n ≤ owns p l) (sym (L.lag_append (is_by l) blank p.taken (p.rest ++ h.untaken l) k lt)) (L.lag_le (is_by l) blank p.taken k));
        seens = λ k lt. low k lt (order_of_lem (oths p l) (seen_of (own l (order h l) k)));
      }
    where
      late : owns p l ≤ lag_of l (order h l) (oths p l)
      late = subst (λ r. owns p l ≤ lag_of l r (oths p l)) (sym (order_is p l)) (L.lag_from (is_by l) blank p.taken (p.rest ++ h.untaken l))

      -- what an own edit had seen was served before it
      low : (k : ℕ) → k < owns p l → (oths p l < seen_of (own l (order h l) k)) ⊎ (seen_of (own l (order h l) k) ≤ oths p l) → seen_of (own l (order h l) k) ≤ oths p l
      low k lt (inr le) = le
      low k lt (inl gt) =
          let made : k < length (mine l (order h l)) = le_trans lt (owns_le p l) in
          let c = (inv.lines l).line.grid.contexts in
          let x = c.causal k (oths p l) made (le_trans gt (c.seen_le k made)) gt in
          absurd (omega (arith, late))

  -- what the maker of an edit had seen, the server had taken before the edit
  pub taken_seen : {e : Made 𝓐} (t : Taken h e) → seen_of (own (maker t) (order h (maker t)) (owns (up_to t) (maker t))) ≤ oths (up_to t) (maker t)
  taken_seen t =
      let n = with_own t in
      let good = prefix_good (up_with t) (maker t) in
      subst (λ x. seen_of (own (maker t) (order h (maker t)) (owns (up_to t) (maker t))) ≤ x) n.1 (good.seens (owns (up_to t) (maker t)) (omega (arith, n.0)))

  -- ---- the others of a line
  pub others_is : (l : ℕ) → others l (order h l) ≡ others l h.served
  others_is l = others_served l h.served (h.untaken l) (inv.lines l).untaken_own

  -- the server took the j-th other at the point (lag, j)
  pub record OthTaken (l j : ℕ) : Type 0 where
    pub taken : Taken h (oth l (order h l) j)
    pub owns_are : owns (up_to taken) l ≡ lag_of l (order h l) j
    pub oths_are : oths (up_to taken) l ≡ j

  pub oth_taken : (l j : ℕ) → j < length (others l (order h l)) → OthTaken l j
  oth_taken l j hj =
      let served : j < length (others l h.served) = subst (λ r. j < length r) (others_is l) hj in
      let b = L.before_rejected (is_by l) blank (λ e. Unit {0}) h.served j served (λ k lt. tt) (λ k lt n. tt) in
      record {
        taken = record { before = b.front; after = b.back; is = b.whole ∙ ap (λ r. b.front ++ get_or r j blank ∷ b.back) (sym (others_is l)) };
        owns_are = b.lags ∙ sym (L.lag_append (is_by l) blank h.served (h.untaken l) j served);
        oths_are = b.count;
      }

  -- Every good point is a prefix with further own edits: the prefix has the point's others, and own edits of the point.
  pub record Reaches (l i j : ℕ) : Type 0 where
    pub prefix : Prefix h
    pub oths_are : oths prefix l ≡ j
    pub owns_in : owns prefix l ≤ i

  pub reaches : (l i j : ℕ) → Good l (order h l) i j → Reaches l i j
  unfolding select reject
  reaches l i zero good = record { prefix = record { taken = []; rest = h.served; is = refl }; oths_are = refl; owns_in = zero-le }
  reaches l i (suc j) good =
      let o = oth_taken l j good.oth_le in
      let n = with_oth o.taken l (L.reject_fails (is_by l) blank (order h l) j good.oth_le) in
      let lag = good.lags j (le_refl _) in
      record { prefix = up_with o.taken; oths_are = n.1 ∙ ap suc o.oths_are; owns_in = omega (arith, n.0, o.owns_are) }
