-- What an edit does where it arrives: what it did as made, or nothing, where a delete of the taking end's set has taken off the same. And the theorem on
-- which origins stand on the lists that are shown.
use Prim.Native.Nat.{ℕ, ◌+◌, ◌≤◌, ◌<◌}
use native.Mathlib.Nat.{le_trans}
use native.Mathlib.Omega.{arith}
use mathlib.Core.Path.{◌≡◌, refl, sym, ap, ◌∙◌, subst}
use mathlib.Core.Bool.{true, cond}
use mathlib.Core.List.{List, ◌∷◌}
use lib.ListN.{length, get_or, drop, length-drop}
use lib.Seq.{get_or-drop}
use Rattle.jupiter.specs.Name.{Name, holds}
use Rattle.jupiter.specs.Algebra.{Algebra, Laws}
use Rattle.jupiter.specs.Made.{Made, is_by, mine, others}
use Rattle.jupiter.specs.Form.{form, list_at}
use Rattle.jupiter.specs.Point.{point, blank, own, oth}
use Rattle.jupiter.specs.History.{History, order, missing}
use Rattle.jupiter.specs.Run.{State, initial, run}
use Rattle.jupiter.specs.Claims.{Who, server, client, doc_of}
use Rattle.jupiter.specs.Origins.{Effect, puts, cuts, leaves, Origins, Opening, shown}
use Rattle.jupiter.specs.Standing.{did, still, set_in, Stands, Keeps, Membership, KeepsTarget}
use Rattle.jupiter.proofs.Lists as L
use Rattle.jupiter.proofs.Grid.{seen_of, lag_of}
use Rattle.jupiter.proofs.Line.{LineAt, set_is, client_good, server_good}
use Rattle.jupiter.proofs.World.{missing_is}
use Rattle.jupiter.proofs.Step.{Later}
use Rattle.jupiter.proofs.Meeting.{server_doc, untaken_is}
use Rattle.jupiter.proofs.Runs.{whole_ends, Reached, reached_by}
use Rattle.jupiter.proofs.Standing.{Moment, grid, GoodAt, list, own_does, oth_does, own_turns, oth_turns}
use Rattle.jupiter.proofs.NoneTwice.{moment}
use Rattle.jupiter.proofs.Prefix.{Taken, up_to, maker, owns, oths, prefix_point, prefix_good, taken_is, taken_made, taken_seen, others_is}
use Rattle.jupiter.proofs.Targets.{Was, as_made, done, cut_held, home_is, own_was, oth_was}
use Rattle.jupiter.proofs.Membership.{Put, own_put, oth_put, no_target, a_target, stands_at}

module _ {𝓐 : Algebra} {𝓞 : Origins 𝓐} {d : 𝓐.Doc} {h : History 𝓐} (m : Moment 𝓞 d h) where
  -- an edit that did p as made, and does q to the list xs of the set C
  is_still : (C : List (Made 𝓐)) (xs : List Name) → Stands 𝓞 d h C xs → (p q : Effect) → Was xs p q → ((o : Name) → q ≡ cuts o → holds xs o ≡ true)
      → ((o : Name) → p ≡ cuts o → Put m C o) → q ≡ still 𝓞 d h C p
  unfolding still
  is_still C xs st p q (done o e r n) held was_put = r ∙ sym (ap (still 𝓞 d h C) e ∙ ap (λ b. cond b leaves (cuts o)) (a_target m C xs st o (was_put o e) n))
  is_still C xs st p q (as_made r) held was_put = r ∙ go p (λ o e. held o (r ∙ e))
    where
      go : (p : Effect) → ((o : Name) → p ≡ cuts o → holds xs o ≡ true) → p ≡ still 𝓞 d h C p
      go puts f = refl
      go leaves f = refl
      go (cuts o) f = sym (ap (λ b. cond b leaves (cuts o)) (no_target m C xs st o (f o refl)))

  pub own_still : (l i j : ℕ) → GoodAt m l i j → (hi : i < length (mine l (order h l))) → seen_of (own l (order h l) i) ≤ j
      → own_does m l i j ≡ still 𝓞 d h (point l (order h l) i j) (did 𝓞 d h (own l (order h l) i))
  own_still l i j good hi seen =
      is_still _ _ (stands_at m l i j good) _ _ (own_was m l i hi j good seen) (cut_held _ _ _ _ (own_turns m l i j good hi seen)) (own_put m l i hi j good seen)

  pub oth_still : (l i j : ℕ) → GoodAt m l i j → (hj : j < length (others l (order h l))) → lag_of l (order h l) j ≤ i
      → oth_does m l i j ≡ still 𝓞 d h (point l (order h l) i j) (did 𝓞 d h (oth l (order h l) j))
  oth_still l i j good hj lag =
      is_still _ _ (stands_at m l i j good) _ _ (oth_was m l j hj i good lag) (cut_held _ _ _ _ (oth_turns m l i j good hj lag)) (oth_put m l j hj i good lag)

  -- an edit as the server took it
  pub taken_still : {e : Made 𝓐} (t : Taken h e) → 𝓞.effect (form e t.before) (list_at d t.before) ≡ still 𝓞 d h t.before (did 𝓞 d h e)
  taken_still {e} t =
      subst (λ C. 𝓞.effect (form e C) (list_at d C) ≡ still 𝓞 d h C (did 𝓞 d h e)) (prefix_point (up_to t) (maker t))
      (subst (λ x. 𝓞.effect (form x at) (list_at d at) ≡ still 𝓞 d h at (did 𝓞 d h x)) (taken_is t)
      (own_still (maker t) _ _ (prefix_good m.inv (up_to t) (maker t)) (taken_made t) (taken_seen m.inv t)))
    where
      at : List (Made 𝓐)
      at = point (maker t) (order h (maker t)) (owns (up_to t) (maker t)) (oths (up_to t) (maker t))

-- what an edit did as made stays what it did
pub did_later : {𝓐 : Algebra} {𝓞 : Origins 𝓐} {d : 𝓐.Doc} {h h' : History 𝓐} (m : Moment 𝓞 d h) (m' : Moment 𝓞 d h') → Later m.ends h m'.ends h'
    → (l i : ℕ) → i < length (mine l (order h l)) → did 𝓞 d h' (own l (order h l) i) ≡ did 𝓞 d h (own l (order h l) i)
did_later {𝓞 = 𝓞} {d = d} {h = h} {h' = h'} m m' later l i hi =
    let grows = later.grows l in
    let o = own l (order h l) i in
    let hi' : i < length (mine l (order h' l)) = le_trans hi grows.more_own in
    let is = grows.own_same i hi in
    ap (did 𝓞 d h') (sym is) ∙ ap (λ C. 𝓞.effect (own l (order h' l) i).edit (list_at d C)) (home_is m' l i hi')
    ∙ ap (λ z. 𝓞.effect z.edit (list_at d (point l (order h' l) i (seen_of z)))) is
    ∙ ap (λ C. 𝓞.effect o.edit (list_at d C)) (grows.point_same i (seen_of o) (omega arith) ((grid m l).contexts.seen_le i hi))
    ∙ ap (λ C. 𝓞.effect o.edit (list_at d C)) (sym (home_is m l i hi))

-- the first element of what is left
first_of : {A : Type 0} (blank : A) (n : ℕ) (xs : List A) (e : A) (es : List A) → drop n xs ≡ e ∷ es → (n < length xs) × (get_or xs n blank ≡ e)
first_of blank n xs e es q =
    let rest = length-drop n xs in
    let some = ap length q in
    let n+0 : n + 0 ≡ n = omega arith in
    (omega arith, ap (λ k. get_or xs k blank) (sym n+0) ∙ sym (get_or-drop n xs 0 blank) ∙ ap (λ r. get_or r 0 blank) q)

-- ---- every run
module _ {𝓐 : Algebra} (𝓞 : Origins 𝓐) (laws : Laws 𝓐) (d : 𝓐.Doc) (opening : Opening 𝓞 d) (s : State 𝓐) (r : Reached d s) where
  abbrev h : History 𝓐
  h = s.history

  abbrev m : Moment 𝓞 d h
  m = moment d 𝓞 laws opening s r

  module _ (l : ℕ) where
    abbrev w : List (Made 𝓐)
    w = order h l

    abbrev line : LineAt d l w h.served (h.applied l) ((whole_ends s).clients l) ((whole_ends s).lines l) (s.ends.docs l)
    line = (r.inv.lines l).line

    -- the client's point, and the server's
    abbrev made : ℕ
    made = length (mine l w)

    abbrev taken : ℕ
    taken = ((whole_ends s).clients l).taken

    c_good : GoodAt m l made taken
    c_good = client_good d l w h.served (h.applied l) ((whole_ends s).clients l) ((whole_ends s).lines l) (s.ends.docs l) line

    c_set : set_in (client l) s ≡ point l w made taken
    c_set = set_is d l w h.served (h.applied l) ((whole_ends s).clients l) ((whole_ends s).lines l) (s.ends.docs l) line

    abbrev served : ℕ
    served = ((whole_ends s).lines l).taken

    abbrev others_all : ℕ
    others_all = length (others l w)

    v_good : GoodAt m l served others_all
    v_good = server_good d l w h.served (h.applied l) ((whole_ends s).clients l) ((whole_ends s).lines l) (s.ends.docs l) line

    pub keeps_in : Keeps 𝓞 d s l
    keeps_in = record { down = down'; up = up' }
      where
        down' : (e : Made 𝓐) (es : List (Made 𝓐)) → missing h l ≡ e ∷ es
            → 𝓞.effect (form e (set_in (client l) s)) (doc_of (client l) s) ≡ still 𝓞 d h (set_in (client l) s) (did 𝓞 d h e)
        down' e es q =
            let next = first_of blank taken (others l w) e es (ap (drop taken) (others_is r.inv l) ∙ sym (missing_is d (whole_ends s) h r.inv l) ∙ q) in
            let at = point l w made taken in
            ap (𝓞.effect (form e (set_in (client l) s))) line.c_doc
            ∙ subst (λ C. 𝓞.effect (form e C) (list_at d at) ≡ still 𝓞 d h C (did 𝓞 d h e)) (sym c_set)
            (subst (λ z. 𝓞.effect (form z at) (list_at d at) ≡ still 𝓞 d h at (did 𝓞 d h z)) next.1
            (oth_still m l made taken c_good next.0 (L.lag_le (is_by l) blank w taken)))

        up' : (e : Made 𝓐) (es : List (Made 𝓐)) → h.untaken l ≡ e ∷ es → 𝓞.effect (form e h.served) s.ends.doc ≡ still 𝓞 d h h.served (did 𝓞 d h e)
        up' e es q =
            let next = first_of blank served (mine l w) e es (sym (untaken_is d (whole_ends s) h r.inv l) ∙ q) in
            let at = point l w served others_all in
            ap (𝓞.effect (form e h.served)) (server_doc d (whole_ends s) h r.inv l)
            ∙ subst (λ C. 𝓞.effect (form e C) (list_at d at) ≡ still 𝓞 d h C (did 𝓞 d h e)) line.served_at
            (subst (λ z. 𝓞.effect (form z at) (list_at d at) ≡ still 𝓞 d h at (did 𝓞 d h z)) next.1
            (own_still m l served others_all v_good next.0 (line.grid.contexts.seen_le served next.0)))

  pub stands_in : (x : Who) → Stands 𝓞 d h (set_in x s) (shown 𝓞 x s)
  stands_in server =
      subst (λ y. Stands 𝓞 d h h.served (𝓞.origins y)) (sym (server_doc d (whole_ends s) h r.inv 0))
      (subst (λ C. Stands 𝓞 d h C (list m 0 (served 0) (others_all 0))) (line 0).served_at (stands_at m 0 _ _ (v_good 0)))
  stands_in (client l) =
      subst (λ y. Stands 𝓞 d h (set_in (client l) s) (𝓞.origins y)) (sym (line l).c_doc)
      (subst (λ C. Stands 𝓞 d h C (list m l (made l) (taken l))) (sym (c_set l)) (stands_at m l _ _ (c_good l)))

pub membership : (𝓐 : Algebra) → Laws 𝓐 → (𝓞 : Origins 𝓐) → Membership 𝓐 𝓞
membership 𝓐 laws 𝓞 d opening cs x = stands_in 𝓞 laws d opening (run (initial d) cs) (reached_by d laws cs) x

pub keeps_target : (𝓐 : Algebra) → Laws 𝓐 → (𝓞 : Origins 𝓐) → KeepsTarget 𝓐 𝓞
keeps_target 𝓐 laws 𝓞 d opening cs l = keeps_in 𝓞 laws d opening (run (initial d) cs) (reached_by d laws cs) l
