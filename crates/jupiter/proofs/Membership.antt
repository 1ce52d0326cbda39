-- Which origins stand on a list: those of the opening list and of the set's inserts, less the targets of the set's deletes.
use Prim.Native.Nat.{ℕ, suc, ◌+◌, ◌≤◌, ◌<◌, zero-le}
use native.Mathlib.Nat.{le_refl}
use native.Mathlib.Omega.{arith}
use mathlib.Core.Path.{◌≡◌, refl, sym, ap, ◌∙◌, subst}
use mathlib.Core.Logic.{◌≢◌, ◌⊎◌, inl, inr}
use mathlib.Core.Bool.{Bool, true, false, not, true≢false, ◌&&◌, ◌||◌}
use mathlib.Core.List.{List, [], append-nil}
use lib.ListN.{length}
use Rattle.jupiter.specs.Name.{Name, same, holds}
use Rattle.jupiter.specs.Algebra.{Algebra}
use Rattle.jupiter.specs.Made.{Made, is_by, mine, others}
use Rattle.jupiter.specs.Form.{list_at}
use Rattle.jupiter.specs.Point.{point, blank, own, oth}
use Rattle.jupiter.specs.History.{History, order}
use Rattle.jupiter.specs.Claims.{inserts}
use Rattle.jupiter.specs.Origins.{Once, OneMore, Effect, puts, cuts, leaves, Turns, added, Origins}
use Rattle.jupiter.specs.Standing.{is_puts, is_cuts, with_cut, any, known_to, did, put_by, targets, Stands}
use Rattle.jupiter.proofs.Lists as L
use Rattle.jupiter.proofs.Grid.{seen_of, lag_of}
use Rattle.jupiter.proofs.Replay.{or_true, is_false, same_eq, same_refl}
use Rattle.jupiter.proofs.Walk.{walk}
use Rattle.jupiter.proofs.Names.{apart, held_other, held_new, once_less, length_more}
use Rattle.jupiter.proofs.Standing.{Moment, grid, GoodAt, list, In, in_more, new_own, new_oth, own_turns, oth_turns, none_good, none_point, none_list, known_at}
use Rattle.jupiter.proofs.Prefix.{Taken, up_to, maker, owns, oths, prefix_point, prefix_good, taken_is, taken_made, taken_seen}
use Rattle.jupiter.proofs.Targets.{Was, as_made, done, home_good, home_held, home_in, own_was, there, lag_good, lag_point, lag_in, oth_was}
use Rattle.jupiter.proofs.Cuts.{or_swap, length_cut, target_more, targets_more, put_more, inserts_more}

and_false : (b : Bool) → b && false ≡ false
and_false true = refl
and_false false = refl

-- ---- one edit, of name x, that did p as made: it turns xs into ys
data Does (x : Name) (xs ys : List Name) (p : Effect) : Type 0 where
  put : p ≡ puts → OneMore x xs ys → Does x xs ys p
  cut : (o : Name) → p ≡ cuts o → OneMore o ys xs → Does x xs ys p
  late : (o : Name) → p ≡ cuts o → holds xs o ≡ false → ys ≡ xs → Does x xs ys p
  idle : p ≡ leaves → ys ≡ xs → Does x xs ys p

does : (x : Name) (xs ys : List Name) (p q : Effect) → Turns x q xs ys → Was xs p q → Does x xs ys p
does x xs ys p q t (done o e r n) = let same_list : ys ≡ xs = subst (λ z. Turns x z xs ys) r t in late o e n same_list
does x xs ys p q t (as_made r) = go p (subst (λ z. Turns x z xs ys) r t)
  where
    go : (p : Effect) → Turns x p xs ys → Does x xs ys p
    go puts t = put refl t
    go (cuts o) t = cut o refl t
    go leaves t = idle refl t

module _ (x : Name) (xs ys : List Name) (p : Effect) (once : Once xs) where
  -- what is new on the list is the name of an insert
  new_put : Does x xs ys p → (o : Name) → holds ys o ≡ true → (holds xs o ≡ true) ⊎ ((p ≡ puts) × (o ≡ x))
  new_put (put e more) o t = go (same o x) refl
    where
      go : (b : Bool) → same o x ≡ b → (holds xs o ≡ true) ⊎ ((p ≡ puts) × (o ≡ x))
      go true q = inr (e, same_eq o x q)
      go false q = inl (sym (held_other x xs ys more o q) ∙ t)
  new_put (cut y e less) o t = inl (held_other y ys xs less o (apart ys o y t (once_less y ys xs less once).0) ∙ t)
  new_put (late y e n is) o t = inl (ap (λ r. holds r o) (sym is) ∙ t)
  new_put (idle e is) o t = inl (ap (λ r. holds r o) (sym is) ∙ t)

  -- b: o is of the opening list; v: of an insert before; t: a target before
  member_step : Does x xs ys p → (o : Name) (b v t : Bool) → (t ≡ true → o ≢ x) → holds xs o ≡ (b || v) && not t
      → holds ys o ≡ (b || ((is_puts p && same o x) || v)) && not (is_cuts o p || t)
  unfolding is_puts is_cuts
  member_step (put e more) o b v t ne was = rw e (go (same o x) refl)
    where
      go : (c : Bool) → same o x ≡ c → holds ys o ≡ (b || (c || v)) && not t
      go true q =
          let no_target : t ≡ false = is_false t (λ y. ne y (same_eq o x q)) in
          ap (holds ys) (same_eq o x q) ∙ held_new x xs ys more ∙ sym (ap (λ c. c && not t) (or_true b) ∙ ap not no_target)
      go false q = held_other x xs ys more o q ∙ was
  member_step (cut y e less) o b v t ne was = rw e (go (same o y) refl)
    where
      go : (c : Bool) → same o y ≡ c → holds ys o ≡ (b || v) && not (c || t)
      go true q = ap (holds ys) (same_eq o y q) ∙ (once_less y ys xs less once).0 ∙ sym (and_false (b || v))
      go false q = sym (held_other y ys xs less o q) ∙ was
  member_step (late y e n is) o b v t ne was = rw e (go (same o y) refl)
    where
      go : (c : Bool) → same o y ≡ c → holds ys o ≡ (b || v) && not (c || t)
      go true q = ap (λ r. holds r o) is ∙ ap (holds xs) (same_eq o y q) ∙ n ∙ sym (and_false (b || v))
      go false q = ap (λ r. holds r o) is ∙ was
  member_step (idle e is) o b v t ne was = rw e (ap (λ r. holds r o) is ∙ was)

  -- T are the targets so far: none of them stands, and a target that does not stand is one of them
  count_step : Does x xs ys p → (T : List Name) → ((o : Name) → holds xs o ≡ true → holds T o ≡ false) → ((o : Name) → p ≡ cuts o → holds xs o ≡ false → holds T o ≡ true)
      → length ys + length (with_cut p T) ≡ length xs + length T + added p
  unfolding with_cut added
  count_step (put e more) T off on = rw e (let n = length_more x xs ys more in omega arith)
  count_step (cut y e less) T off on =
      let n = length_more y ys xs less in
      let c : length (with_cut (cuts y) T) ≡ suc (length T) = length_cut y T false (off y (held_new y ys xs less)) in
      rw e (omega arith)
  count_step (late y e n is) T off on =
      let a : length ys ≡ length xs = ap length is in
      let c : length (with_cut (cuts y) T) ≡ length T = length_cut y T true (on y e n) in
      rw e (omega arith)
  count_step (idle e is) T off on = rw e (let a : length ys ≡ length xs = ap length is in omega arith)

module _ {𝓐 : Algebra} {𝓞 : Origins 𝓐} {d : 𝓐.Doc} {h : History 𝓐} (m : Moment 𝓞 d h) where
  -- ---- what was put there: o is of the opening list or of an insert of the set
  abbrev pub Put : List (Made 𝓐) → Name → Type 0
  Put C o = holds (𝓞.origins d) o || put_by 𝓞 d h C o ≡ true

  put_stays : (z : Made 𝓐) (C C' : List (Made 𝓐)) → OneMore z C C' → (o : Name) → Put C o → Put C' o
  put_stays z C C' more o t =
      let new = is_puts (did 𝓞 d h z) && same o z.name in
      ap (λ b. holds (𝓞.origins d) o || b) (put_more 𝓞 d h z C C' more o) ∙ or_swap (holds (𝓞.origins d) o) new (put_by 𝓞 d h C o)
      ∙ ap (λ b. new || b) t ∙ or_true new

  put_new : (z : Made 𝓐) (C C' : List (Made 𝓐)) → OneMore z C C' → did 𝓞 d h z ≡ puts → Put C' z.name
  unfolding is_puts
  put_new z C C' more e =
      ap (λ b. holds (𝓞.origins d) z.name || b)
      (put_more 𝓞 d h z C C' more z.name
      ∙ ap (λ p. (is_puts p && same z.name z.name) || put_by 𝓞 d h C z.name) e ∙ ap (λ b. b || put_by 𝓞 d h C z.name) (same_refl z.name))
      ∙ or_true (holds (𝓞.origins d) z.name)

  module _ (l : ℕ) where
    abbrev w : List (Made 𝓐)
    w = order h l

    own_more : (i j : ℕ) → GoodAt m l i j → i < length (mine l w) → OneMore (own l w i) (point l w i j) (point l w (suc i) j)
    own_more i j good hi =
        record { front = point l w i j; back = []; less = sym (append-nil (point l w i j)); more = L.firsts_snoc (is_by l) blank w i j hi good.lags }

    oth_more : (i j : ℕ) → j < length (others l w) → OneMore (oth l w j) (point l w i j) (point l w i (suc j))
    oth_more i j hj =
        let b = L.firsts_between (is_by l) blank (λ x. Unit {0}) w i j hj (λ k lt n. tt) in
        record { front = b.before; back = b.after; less = b.less; more = b.more }

    own_does_lem : (i j : ℕ) → GoodAt m l i j → (hi : i < length (mine l w)) → seen_of (own l w i) ≤ j → Does (own l w i).name (list m l i j) (list m l (suc i) j) (did 𝓞 d h (own l w i))
    own_does_lem i j good hi seen = does _ _ _ _ _ (own_turns m l i j good hi seen) (own_was m l i hi j good seen)

    oth_does_lem : (i j : ℕ) → GoodAt m l i j → (hj : j < length (others l w)) → lag_of l w j ≤ i → Does (oth l w j).name (list m l i j) (list m l i (suc j)) (did 𝓞 d h (oth l w j))
    oth_does_lem i j good hj lag = does _ _ _ _ _ (oth_turns m l i j good hj lag) (oth_was m l j hj i good lag)

    put_later : (i₀ j₀ : ℕ) → GoodAt m l i₀ j₀ → (i j : ℕ) → GoodAt m l i j → i₀ ≤ i → j₀ ≤ j → (o : Name) → Put (point l w i₀ j₀) o → Put (point l w i j) o
    put_later i₀ j₀ good₀ i j good ii jj o =
        walk l w (grid m l).contexts (λ i j. Put (point l w i j) o)
        (λ i j good hi seen. put_stays (own l w i) _ _ (own_more i j good hi) o)
        (λ i j good hj lag. put_stays (oth l w j) _ _ (oth_more i j hj) o) i j good i₀ j₀ good₀ ii jj

    -- what stands was put there
    put_held : (i j : ℕ) → GoodAt m l i j → (o : Name) → holds (list m l i j) o ≡ true → Put (point l w i j) o
    put_held i j good o =
        walk l w (grid m l).contexts (λ i j. holds (list m l i j) o ≡ true → Put (point l w i j) o)
        (λ i j good hi seen was t. go (own l w i) _ _ _ (own_more i j good hi) was (new_put _ _ _ _ (known_at m l i j good).once (own_does_lem i j good hi seen) o t))
        (λ i j good hj lag was t. go (oth l w j) _ _ _ (oth_more i j hj) was (new_put _ _ _ _ (known_at m l i j good).once (oth_does_lem i j good hj lag) o t))
        i j good 0 0 (none_good m l) zero-le zero-le
        (λ t. ap (λ b. b || put_by 𝓞 d h (point l w 0 0) o) (ap (λ r. holds r o) (sym (none_list m l)) ∙ t))
      where
        go : (z : Made 𝓐) (C C' : List (Made 𝓐)) (xs : List Name) → OneMore z C C' → (holds xs o ≡ true → Put C o)
            → (holds xs o ≡ true) ⊎ ((did 𝓞 d h z ≡ puts) × (o ≡ z.name)) → Put C' o
        go z C C' xs more was (inl t) = put_stays z C C' more o (was t)
        go z C C' xs more was (inr e) = subst (Put C') (sym e.1) (put_new z C C' more e.0)

    -- so what a delete took off was put there
    pub own_put : (i : ℕ) (hi : i < length (mine l w)) (j : ℕ) → GoodAt m l i j → seen_of (own l w i) ≤ j → (o : Name) → did 𝓞 d h (own l w i) ≡ cuts o → Put (point l w i j) o
    own_put i hi j good seen o e =
        let home = home_good m l i hi in
        put_later i (seen_of (own l w i)) home i j good (le_refl _) seen o (put_held i (seen_of (own l w i)) home o (home_held m l i hi o e))

  pub taken_put : {e : Made 𝓐} (t : Taken h e) (o : Name) → did 𝓞 d h e ≡ cuts o → Put t.before o
  taken_put t o e =
      subst (λ C. Put C o) (prefix_point (up_to t) (maker t))
      (own_put (maker t) (owns (up_to t) (maker t)) (taken_made t) (oths (up_to t) (maker t)) (prefix_good m.inv (up_to t) (maker t)) (taken_seen m.inv t) o (ap (did 𝓞 d h) (taken_is t) ∙ e))

  pub oth_put : (l j : ℕ) (hj : j < length (others l (order h l))) (i : ℕ) → GoodAt m l i j → lag_of l (order h l) j ≤ i → (o : Name) → did 𝓞 d h (oth l (order h l) j) ≡ cuts o
      → Put (point l (order h l) i j) o
  oth_put l j hj i good lag o e =
      put_later l (lag_of l (order h l) j) j (lag_good m l j hj) i j good lag (le_refl _) o
      (subst (λ C. Put C o) (sym (lag_point m l j hj)) (taken_put (there m l j hj).taken o e))

  -- ---- one edit more, for any set and the list there
  module _ (C : List (Made 𝓐)) (xs : List Name) (st : Stands 𝓞 d h C xs) where
    -- a name that stands is no target, and what was put and does not stand is one
    pub no_target : (o : Name) → holds xs o ≡ true → holds (targets 𝓞 d h C) o ≡ false
    no_target o t = go (holds (𝓞.origins d) o || put_by 𝓞 d h C o) (holds (targets 𝓞 d h C) o) (sym (st.member o) ∙ t)
      where
        go : (b t : Bool) → b && not t ≡ true → t ≡ false
        go true true e = absurd (true≢false (sym e))
        go true false e = refl
        go false t e = absurd (true≢false (sym e))

    pub a_target : (o : Name) → Put C o → holds xs o ≡ false → holds (targets 𝓞 d h C) o ≡ true
    a_target o was n = go (holds (𝓞.origins d) o || put_by 𝓞 d h C o) (holds (targets 𝓞 d h C) o) was (sym (st.member o) ∙ n)
      where
        go : (b t : Bool) → b ≡ true → b && not t ≡ false → t ≡ true
        go true true q e = refl
        go true false q e = absurd (true≢false e)
        go false t q e = absurd (true≢false (sym q))

    stands_more : Once xs → (z : Made 𝓐) (C' : List (Made 𝓐)) (ys : List Name) → Does z.name xs ys (did 𝓞 d h z) → OneMore z C C'
        → ((o : Name) → holds (targets 𝓞 d h C) o ≡ true → o ≢ z.name) → ((o : Name) → did 𝓞 d h z ≡ cuts o → Put C o) → Stands 𝓞 d h C' ys
    stands_more once z C' ys act more ne was_put =
        record {
          member = λ o. member_step z.name xs ys (did 𝓞 d h z) once act o (holds (𝓞.origins d) o) (put_by 𝓞 d h C o) (holds (targets 𝓞 d h C) o) (ne o) (st.member o)
              ∙ sym (ap (λ v. (holds (𝓞.origins d) o || v) && not (holds (targets 𝓞 d h C') o)) (put_more 𝓞 d h z C C' more o)
              ∙ ap (λ t. (holds (𝓞.origins d) o || ((is_puts (did 𝓞 d h z) && same o z.name) || put_by 𝓞 d h C o)) && not t) (target_more 𝓞 d h z C C' more o));
          count = let step = count_step z.name xs ys (did 𝓞 d h z) once act (targets 𝓞 d h C) no_target (λ o e n. a_target o (was_put o e) n) in
              omega (arith, st.count, targets_more 𝓞 d h z C C' more, inserts_more 𝓞 d h z C C' more, 𝓞.grows_is z.edit (list_at d (known_to 𝓞 d h z)));
        }

  -- ---- every good point of a line's grid
  module _ (l : ℕ) where
    record Has (i j : ℕ) : Type 0 where
      stands : Stands 𝓞 d h (point l (order h l) i j) (list m l i j)
      -- the targets are names of the point
      target_in : (o : Name) → holds (targets 𝓞 d h (point l (order h l) i j)) o ≡ true → In m l i j o

    new_target : (z : Made 𝓐) (C C' : List (Made 𝓐)) → OneMore z C C' → (P : Name → Type 0) → ((o : Name) → holds (targets 𝓞 d h C) o ≡ true → P o)
        → ((o : Name) → did 𝓞 d h z ≡ cuts o → P o) → (o : Name) → holds (targets 𝓞 d h C') o ≡ true → P o
    unfolding is_cuts
    new_target z C C' more P old new o t = go (did 𝓞 d h z) refl (sym (target_more 𝓞 d h z C C' more o) ∙ t)
      where
        go : (p : Effect) → did 𝓞 d h z ≡ p → is_cuts o p || holds (targets 𝓞 d h C) o ≡ true → P o
        go puts e t = old o t
        go leaves e t = old o t
        go (cuts y) e t = or (same o y) refl t
          where
            or : (b : Bool) → same o y ≡ b → b || holds (targets 𝓞 d h C) o ≡ true → P o
            or true q t = new o (e ∙ ap cuts (sym (same_eq o y q)))
            or false q t = old o t

    own_has : (i j : ℕ) → GoodAt m l i j → i < length (mine l (order h l)) → seen_of (own l (order h l) i) ≤ j → Has i j → Has (suc i) j
    own_has i j good hi seen was =
        let more = own_more l i j good hi in
        record {
          stands = stands_more _ _ was.stands (known_at m l i j good).once (own l (order h l) i) _ _ (own_does_lem l i j good hi seen) more
              (λ o t e. new_own m l i j hi (subst (In m l i j) e (was.target_in o t))) (own_put l i hi j good seen);
          target_in = new_target _ _ _ more (In m l (suc i) j)
              (λ o t. in_more m l i j (suc i) j o (omega arith) (le_refl _) (was.target_in o t))
              (λ o e. in_more m l i (seen_of (own l (order h l) i)) (suc i) j o (omega arith) seen (home_in m l i hi o e));
        }

    oth_has : (i j : ℕ) → GoodAt m l i j → j < length (others l (order h l)) → lag_of l (order h l) j ≤ i → Has i j → Has i (suc j)
    oth_has i j good hj lag was =
        let more = oth_more l i j hj in
        record {
          stands = stands_more _ _ was.stands (known_at m l i j good).once (oth l (order h l) j) _ _ (oth_does_lem l i j good hj lag) more
              (λ o t e. new_oth m l i j hj (subst (In m l i j) e (was.target_in o t))) (oth_put l j hj i good lag);
          target_in = new_target _ _ _ more (In m l i (suc j))
              (λ o t. in_more m l i j i (suc j) o (le_refl _) (omega arith) (was.target_in o t))
              (λ o e. in_more m l (lag_of l (order h l) j) j i (suc j) o lag (omega arith) (lag_in m l j hj o e));
        }

    none_stands : Stands 𝓞 d h [] (𝓞.origins d)
    unfolding any targets holds inserts
    none_stands = record { member = λ o. both (holds (𝓞.origins d) o); count = refl }
      where
        both : (b : Bool) → b ≡ (b || false) && true
        both true = refl
        both false = refl

    pub stands_at : (i j : ℕ) → GoodAt m l i j → Stands 𝓞 d h (point l (order h l) i j) (list m l i j)
    unfolding targets holds
    stands_at i j good =
        (walk l (order h l) (grid m l).contexts Has own_has oth_has i j good 0 0 (none_good m l) zero-le zero-le
        (record {
          stands = subst (λ C. Stands 𝓞 d h C (list m l 0 0)) (sym (none_point m l)) (subst (Stands 𝓞 d h []) (sym (none_list m l)) none_stands);
          target_in = subst (λ C. (o : Name) → holds (targets 𝓞 d h C) o ≡ true → In m l 0 0 o) (sym (none_point m l)) (λ o t. absurd (true≢false (sym t)));
        })).stands
