-- Strong consistency: what an end shows is settled by the set of edits that it has applied.
use Prim.Native.Nat.{ℕ, suc, ◌+◌, ◌-◌, ◌≤◌, ◌<◌}
use native.Mathlib.Nat.{le_trans}
use native.Mathlib.Omega.{arith}
use mathlib.Core.Path.{◌≡◌, refl, sym, ap, ◌∙◌, subst}
use mathlib.Core.Bool.{Bool, true, false, cond, true≢false}
use mathlib.Core.List.{List, [], ◌∷◌, ◌++◌, append-nil}
use lib.Dec.{eqb}
use lib.ListN.{length, get_or, length-drop}
use lib.Seq.{get_or-drop}
use Rattle.jupiter.specs.Algebra.{Algebra, Laws}
use Rattle.jupiter.specs.Made.{Made, holds, select, names, mine}
use Rattle.jupiter.specs.Form.{list_at, in_order}
use Rattle.jupiter.specs.Point.{blank, own}
use Rattle.jupiter.specs.History.{History, order}
use Rattle.jupiter.specs.Ends.{Ends}
use Rattle.jupiter.specs.Run.{State, initial, run}
use Rattle.jupiter.specs.Claims.{Who, server, client, set_of, doc_of, SameSet, StrongConsistency}
use Rattle.jupiter.proofs.Lists as L
use Rattle.jupiter.proofs.Lists.{All, all_from}
use Rattle.jupiter.proofs.Grid.{eqb_eq, eqb_same, own_name}
use Rattle.jupiter.proofs.Line.{set_is}
use Rattle.jupiter.proofs.World.{named, Inv, taken}
use Rattle.jupiter.proofs.Step.{Later}
use Rattle.jupiter.proofs.Meeting.{untaken_is}
use Rattle.jupiter.proofs.Replay.{is_false, in_itself}
use Rattle.jupiter.proofs.Runs.{whole_ends, Reached, Onward, run_ok, reached_by}

select_none : {A : Type 0} (p : A → Bool) (xs : List A) → All (λ x. p x ≡ false) xs → select p xs ≡ []
unfolding select
select_none p [] h = refl
select_none p (x ∷ xs) h = rw h.0 (select_none p xs h.1)

module _ {𝓐 : Algebra} where
  -- the list of a set in order depends on the set alone
  same_order : (w A B : List (Made 𝓐)) → SameSet A B → in_order w A ≡ in_order w B
  unfolding in_order select
  same_order [] A B h = refl
  same_order (e ∷ w) A B h = rw (h e.name) (ap (λ r. cond (holds (names B) e.name) (e ∷ r) r) (same_order w A B h))

  -- 01's order, as far as an end is concerned
  abbrev order_of : Who → History 𝓐 → List (Made 𝓐)
  order_of server h = h.served
  order_of (client l) h = order h l

  abbrev applied_by : Who → History 𝓐 → List (Made 𝓐)
  applied_by server h = h.served
  applied_by (client l) h = h.applied l

module _ {𝓐 : Algebra} (d : 𝓐.Doc) where
  -- an end shows the list at its set
  pub shows : (s : State 𝓐) → Reached d s → (x : Who) → doc_of x s ≡ list_at d (in_order (order_of x s.history) (applied_by x s.history))
  shows s r server = r.inv.doc_is ∙ ap (list_at d) (sym (in_itself s.history.served))
  shows s r (client l) =
      let line = (r.inv.lines l).line in
      line.c_doc
      ∙ ap (list_at d) (sym (set_is d l (order s.history l) s.history.served (s.history.applied l) ((whole_ends s).clients l) ((whole_ends s).lines l) (s.ends.docs l) line))

  -- at any later moment, too
  pub shows_later : (s s' : State 𝓐) → Reached d s → Later (whole_ends s) s.history (whole_ends s') s'.history → (x : Who)
      → doc_of x s ≡ list_at d (in_order (order_of x s'.history) (applied_by x s.history))
  shows_later s s' r f server = shows s r server ∙ ap (list_at d) (sym f.served_same)
  shows_later s s' r f (client l) = shows s r (client l) ∙ ap (list_at d) (sym (f.set_same l))

  -- a set without untaken edits of line l is a set of what the server has taken
  served_only : (E : Ends 𝓐) (h : History 𝓐) → Inv d E h → (l : ℕ) (S : List (Made 𝓐)) → ((x : ℕ) → holds (names S) (named l x) ≡ true → x ≤ taken E l)
      → in_order (order h l) S ≡ in_order h.served S
  unfolding in_order
  served_only E h inv l S le =
      let w = order h l in
      let rest : All (λ e. holds (names S) e.name ≡ false) (h.untaken l) = all_from (λ e. holds (names S) e.name ≡ false) blank (h.untaken l) out in
      L.select_append (λ e. holds (names S) e.name) blank h.served (h.untaken l)
      ∙ ap (λ r. select (λ e. holds (names S) e.name) h.served ++ r) (select_none (λ e. holds (names S) e.name) (h.untaken l) rest)
      ∙ append-nil (select (λ e. holds (names S) e.name) h.served)
    where
      out : (i : ℕ) → i < length (h.untaken l) → holds (names S) (get_or (h.untaken l) i blank).name ≡ false
      out i lt =
          let a = (E.lines l).taken in
          let is : get_or (h.untaken l) i blank ≡ own l (order h l) (a + i) = ap (λ r. get_or r i blank) (untaken_is d E h inv l) ∙ get_or-drop a (mine l (order h l)) i blank in
          let n : length (h.untaken l) ≡ length (mine l (order h l)) - a = ap length (untaken_is d E h inv l) ∙ length-drop a (mine l (order h l)) in
          let in_mine : a + i < length (mine l (order h l)) = omega arith in
          let called : (get_or (h.untaken l) i blank).name ≡ named l (suc (a + i)) =
          ap (λ e. e.name) is ∙ own_name l (order h l) (inv.lines l).line.grid.contexts (a + i) in_mine in
          is_false _ (λ t. let y : suc (a + i) ≤ a = le (suc (a + i)) (ap (holds (names S)) (sym called) ∙ t) in absurd (omega arith))

  -- the names of line l that another end has applied are of edits that the server has taken
  applied_served : (E : Ends 𝓐) (h : History 𝓐) → Inv d E h → (l : ℕ) (y : Who) → (y ≡ client l → ⊥) → (x : ℕ) → holds (names (applied_by y h)) (named l x) ≡ true → x ≤ taken E l
  applied_served E h inv l server ne x t = inv.served_bound l x t
  applied_served E h inv l (client k) ne x t = (inv.lines k).applied_bound l x (λ q. ne (ap client (sym q))) t

  module _ (s s' : State 𝓐) (r : Reached d s) (on : Onward d s s') where
    abbrev h : History 𝓐
    h = s.history

    abbrev h' : History 𝓐
    h' = s'.history

    -- two different ends with one set: both lists are of what the server has taken
    agree : (x y : Who) → (x ≡ y → ⊥) → SameSet (applied_by x h) (applied_by y h') → in_order (order_of x h') (applied_by y h') ≡ in_order (order_of y h') (applied_by y h')
    agree x y ne same_set = left x ne ∙ sym (right y ne same_set)
      where
        left : (x : Who) → (x ≡ y → ⊥) → in_order (order_of x h') (applied_by y h') ≡ in_order h'.served (applied_by y h')
        left server ne = refl
        left (client l) ne =
            served_only (whole_ends s') h' on.reached.inv l (applied_by y h') (applied_served (whole_ends s') h' on.reached.inv l y (λ q. ne (sym q)))

        right : (y : Who) → (x ≡ y → ⊥) → SameSet (applied_by x h) (applied_by y h') → in_order (order_of y h') (applied_by y h') ≡ in_order h'.served (applied_by y h')
        right server ne same_set = refl
        right (client k) ne same_set =
            served_only (whole_ends s') h' on.reached.inv k (h'.applied k)
            (λ n t. le_trans (applied_served (whole_ends s) h r.inv k x ne n (same_set (named k n) ∙ t)) (on.later.v_later k))

    decide : (x y : Who) → Dec (x ≡ y)
    decide server server = yes refl
    decide server (client k) = no (λ e. subst code e tt)
      where
        code : Who → Type 0
        code server = Unit {0}
        code (client k) = ⊥
    decide (client l) server = no (λ e. subst code e tt)
      where
        code : Who → Type 0
        code server = ⊥
        code (client k) = Unit {0}
    decide (client l) (client k) = go (eqb l k) refl
      where
        line : Who → ℕ
        line server = 0
        line (client k) = k

        go : (b : Bool) → eqb l k ≡ b → Dec (client l ≡ client k)
        go true e = yes (ap client (eqb_eq l k e))
        go false e = no (λ q. true≢false (sym (eqb_same l) ∙ ap (eqb l) (ap line q) ∙ e))

    pub consistent : (x y : Who) → SameSet (applied_by x h) (applied_by y h') → doc_of x s ≡ doc_of y s'
    consistent x y same_set =
        shows_later s s' r on.later x ∙ ap (list_at d) (same_order (order_of x h') (applied_by x h) (applied_by y h') same_set ∙ go (decide x y))
        ∙ sym (shows s' on.reached y)
      where
        go : Dec (x ≡ y) → in_order (order_of x h') (applied_by y h') ≡ in_order (order_of y h') (applied_by y h')
        go (yes e) = ap (λ z. in_order (order_of z h') (applied_by y h')) e
        go (no ne) = agree x y ne same_set

pub strong_consistency : (𝓐 : Algebra) → Laws 𝓐 → StrongConsistency 𝓐
strong_consistency 𝓐 laws d cs cs' x y same_set =
    let r = reached_by d laws cs in
    let s = run (initial d) cs in
    let on = run_ok d laws cs' s r in
    consistent d s (run s cs') r on x y (at_sets x y same_set)
  where
    at_sets : (x y : Who) → SameSet (set_of x (run (initial d) cs)) (set_of y (run (run (initial d) cs) cs'))
        → SameSet (applied_by x (run (initial d) cs).history) (applied_by y (run (run (initial d) cs) cs').history)
    at_sets server server f = f
    at_sets server (client k) f = f
    at_sets (client l) server f = f
    at_sets (client l) (client k) f = f
