-- All ends together: what holds between any two calls, and the step that each accepted call is. A refused call is no step.
use Prim.Native.Nat.{ℕ, suc, ◌≤◌, ◌<◌}
use native.Mathlib.Nat.{le_refl, le_trans}
use native.Mathlib.Omega.{arith}
use mathlib.Core.Path.{◌≡◌, refl, sym, ap, ◌∙◌, subst}
use mathlib.Core.Logic.{◌≢◌, ◌⊎◌, inl, inr}
use mathlib.Core.Bool.{true, false, cond}
use mathlib.Core.List.{List, [], ◌∷◌, ◌++◌, append_assoc, append-nil}
use lib.Dec.{T, ltb, eqb}
use lib.ListN.{length, get_or, drop, length-append}
use lib.Seq.{get_or-append_seam, drop-cons}
use Rattle.jupiter.specs.Algebra.{Algebra, Laws}
use Rattle.jupiter.specs.Made.{Name, Made, holds, names, is_by, mine, others}
use Rattle.jupiter.specs.Form.{form, list_at, in_order, replay}
use Rattle.jupiter.specs.Point.{blank, own, oth}
use Rattle.jupiter.specs.History.{at, History, order, missing, new_name, new_edit, makes, after_edit, serves, after_up, applies, after_down}
use Rattle.jupiter.specs.Ends.{End, EditMessage, Ends, keeps, acks, takes, arrived, editing, taking_up, taking_down, acking_up, acking_down}
use Rattle.jupiter.proofs.Lists as L
use Rattle.jupiter.proofs.Lists.{All, all_append}
use Rattle.jupiter.proofs.Forms.{list_at_snoc}
use Rattle.jupiter.proofs.Grid.{eqb_same, eqb_differ, ltb_true, by_line_lem, not_line, Grows, grows_refl, own_name}
use Rattle.jupiter.proofs.Extend.{NewOwn, row_own_cases, row_oth_cases, NewOth, col_grows, col_own_cases, col_oth_cases}
use Rattle.jupiter.proofs.Closure.{Within, ClosedFrom, ClosedSet, Closed, closed_edit, within_snoc, closed_other, within_insert, context_of, closed_set_snoc, all_within, within_append}
use Rattle.jupiter.proofs.Line.{UpOk, DownOk, LineAt, made_new, made_grows, made_fresh, line_edit, line_ack_up, line_ack_down, up_made, up_form, up_edge, line_up, down_made, line_down, line_other}
use Rattle.jupiter.proofs.Replay.{is_false, holds_split, holds_last, same_differ, in_itself, in_order_insert, replay_insert, replay_snoc}

-- Names of another line k in a list have numbers up to `bound k`: what an end has applied of line k, the server has taken.
abbrev pub Bounded : ℕ → (ℕ → ℕ) → List Name → Type 0
Bounded l bound ns = (k x : ℕ) → k ≢ l → holds ns (record { line = k; number = x }) ≡ true → x ≤ bound k

abbrev pub named : ℕ → ℕ → Name
named l x = record { line = l; number = x }

weaken : (l : ℕ) (bound bound' : ℕ → ℕ) → ((k : ℕ) → bound k ≤ bound' k) → (ns : List Name) → Bounded l bound ns → Bounded l bound' ns
weaken l bound bound' le ns b k x h e = le_trans (b k x h e) (le k)

module _ {𝓐 : Algebra} where
  -- how many edits of line k the server has taken
  abbrev pub taken : Ends 𝓐 → ℕ → ℕ
  taken E k = (E.lines k).taken

  pub others_served : (l : ℕ) (xs ys : List (Made 𝓐)) → All (λ y. is_by l y ≡ true) ys → others l (xs ++ ys) ≡ others l xs
  others_served l xs ys h = L.reject_append (is_by l) blank xs ys ∙ ap (λ r. others l xs ++ r) (L.reject_all (is_by l) blank ys h) ∙ append-nil (others l xs)

  pub mine_served : (l : ℕ) (xs ys : List (Made 𝓐)) → All (λ y. is_by l y ≡ true) ys → mine l (xs ++ ys) ≡ mine l xs ++ ys
  mine_served l xs ys h = L.select_append (is_by l) blank xs ys ∙ ap (λ r. mine l xs ++ r) (L.select_all (is_by l) blank ys h)

module _ {𝓐 : Algebra} (d : 𝓐.Doc) where
  pub record LineInv (l : ℕ) (served untaken applied : List (Made 𝓐)) (bound : ℕ → ℕ) (c v : End 𝓐) (doc : 𝓐.Doc) : Type 0 where
    pub line : LineAt d l (served ++ untaken) served applied c v doc
    pub untaken_own : All (λ y. is_by l y ≡ true) untaken
    pub v_count : v.taken ≡ length (mine l served)
    pub applied_bound : Bounded l bound (names applied)
    pub context_bound : (i : ℕ) → i < length (mine l (served ++ untaken)) → Bounded l bound (own l (served ++ untaken) i).context
    pub oth_bound : (j : ℕ) → j < length (others l (served ++ untaken)) → (oth l (served ++ untaken) j).name.number ≤ bound (oth l (served ++ untaken) j).name.line

  pub record Inv (E : Ends 𝓐) (h : History 𝓐) : Type 0 where
    pub doc_is : E.doc ≡ list_at d h.served
    pub server_shown : replay h.served [] h.served d ≡ E.doc
    pub closed : Closed h
    pub served_bound : (k x : ℕ) → holds (names h.served) (named k x) ≡ true → x ≤ taken E k
    pub lines : (l : ℕ) → LineInv l h.served (h.untaken l) (h.applied l) (taken E) (E.clients l) (E.lines l) (E.docs l)

  -- ---- a client makes an edit
  module _ (laws : Laws 𝓐) (E : Ends 𝓐) (h : History 𝓐) (inv : Inv E h) (l : ℕ) (e : 𝓐.Edit) (bears : T (𝓐.by (new_name h l) e)) (ok : T (𝓐.fits e (E.docs l))) where
    abbrev us : List (Made 𝓐)
    us = h.untaken l

    abbrev w : List (Made 𝓐)
    w = h.served ++ us

    abbrev o : Made 𝓐
    o = new_edit h l e

    number : (new_name h l).number ≡ suc (length (mine l w))
    number = let n = ap length (mine_served l h.served us (inv.lines l).untaken_own) ∙ length-append (mine l h.served) us in omega arith

    abbrev was : LineAt d l w h.served (h.applied l) (E.clients l) (E.lines l) (E.docs l)
    was = (inv.lines l).line

    new : NewOwn l w (E.clients l).taken o
    new = made_new d l w h.served (h.applied l) (E.clients l) (E.lines l) (E.docs l) was laws e (new_name h l).number number bears ok

    assoc : w ++ (o ∷ []) ≡ h.served ++ (us ++ (o ∷ []))
    assoc = append_assoc h.served us (o ∷ [])

    edit_line : LineInv l h.served (us ++ (o ∷ [])) (h.applied l ++ (o ∷ [])) (taken E) (keeps e (E.clients l)) (E.lines l) (𝓐.apply e (E.docs l))
    edit_line =
        record {
          line = subst (λ r. LineAt d l r h.served (h.applied l ++ (o ∷ [])) (keeps e (E.clients l)) (E.lines l) (𝓐.apply e (E.docs l))) assoc
              (line_edit d l w h.served (h.applied l) (E.clients l) (E.lines l) (E.docs l) was laws e (new_name h l).number number bears ok);
          untaken_own = all_append (λ y. is_by l y ≡ true) us (o ∷ []) (inv.lines l).untaken_own (eqb_same l, tt);
          v_count = (inv.lines l).v_count;
          applied_bound = λ k x kl t. go k x kl (holds_split (h.applied l) o (named k x) t);
          context_bound = subst (λ r. (i : ℕ) → i < length (mine l r) → Bounded l (taken E) (own l r i).context) assoc
              (row_own_cases l w (E.clients l).taken o new (λ i y. Bounded l (taken E) y.context) (inv.lines l).context_bound (inv.lines l).applied_bound);
          oth_bound = subst (λ r. (j : ℕ) → j < length (others l r) → (oth l r j).name.number ≤ taken E (oth l r j).name.line) assoc
              (row_oth_cases l w (E.clients l).taken o new (λ j y. y.name.number ≤ taken E y.name.line) (inv.lines l).oth_bound);
        }
      where
        go : (k x : ℕ) → k ≢ l → (holds (names (h.applied l)) (named k x) ≡ true) ⊎ (named k x ≡ o.name) → x ≤ taken E k
        go k x kl (inl t) = (inv.lines l).applied_bound k x kl t
        go k x kl (inr q) = absurd (kl (ap (λ y. y.line) q))

    edit_closed : Closed (makes l o h)
    edit_closed =
        record {
          order_closed = by_line_lem l (λ k b. ClosedFrom [] (h.served ++ cond b (us ++ (o ∷ [])) (h.untaken k)))
              (subst (ClosedFrom []) assoc (closed_edit w (h.applied l) o refl (inv.closed.order_closed l) (inv.closed.applied_within l))) (λ k q. inv.closed.order_closed k);
          applied_within = by_line_lem l (λ k b. Within (names (cond b (h.applied l ++ (o ∷ [])) (h.applied k))) (h.served ++ cond b (us ++ (o ∷ [])) (h.untaken k)))
              (subst (Within (names (h.applied l ++ (o ∷ [])))) assoc (within_snoc (h.applied l) w o (inv.closed.applied_within l))) (λ k q. inv.closed.applied_within k);
          applied_closed = by_line_lem l (λ k b. ClosedSet (cond b (h.applied l ++ (o ∷ [])) (h.applied k)))
              (closed_set_snoc (h.applied l) o (inv.closed.applied_closed l) (λ n t. t)) (λ k q. inv.closed.applied_closed k);
        }

    pub inv_edit : Inv (editing l e E) (after_edit l e h)
    unfolding after_edit
    inv_edit =
        record {
          doc_is = inv.doc_is;
          server_shown = inv.server_shown;
          closed = edit_closed;
          served_bound = inv.served_bound;
          lines = by_line_lem l (λ k b. LineInv k h.served (cond b (us ++ (o ∷ [])) (h.untaken k)) (cond b (h.applied l ++ (o ∷ [])) (h.applied k)) (taken E)
              (cond b (keeps e (E.clients l)) (E.clients k)) (E.lines k) (cond b (𝓐.apply e (E.docs l)) (E.docs k))) edit_line (λ k q. inv.lines k);
        }

    pub edit_new : holds (names (h.applied l)) o.name ≡ false
    edit_new = made_fresh d l w h.served (h.applied l) (E.clients l) (E.lines l) (E.docs l) was laws e (new_name h l).number number bears ok

    pub grows_edit : (k : ℕ) → Grows k (order h k) (order (after_edit l e h) k)
    unfolding after_edit
    grows_edit =
        by_line_lem l (λ k b. Grows k (h.served ++ h.untaken k) (h.served ++ cond b (us ++ (o ∷ [])) (h.untaken k)))
        (subst (Grows l w) assoc (made_grows d l w h.served (h.applied l) (E.clients l) (E.lines l) (E.docs l) was laws e (new_name h l).number number bears ok))
        (λ k q. grows_refl k (h.served ++ h.untaken k))

  -- ---- acknowledgements
  module _ (E : Ends 𝓐) (h : History 𝓐) (inv : Inv E h) (l s : ℕ) where
    -- the line k with other ends, of which as many edits are taken, and with higher bounds
    again : (bound : ℕ → ℕ) → ((k : ℕ) → taken E k ≤ bound k) → (k : ℕ) (c v : End 𝓐) → v.taken ≡ (E.lines k).taken
        → LineAt d k (h.served ++ h.untaken k) h.served (h.applied k) c v (E.docs k) → LineInv k h.served (h.untaken k) (h.applied k) bound c v (E.docs k)
    again bound le k c v q line =
        record {
          line = line;
          untaken_own = (inv.lines k).untaken_own;
          v_count = q ∙ (inv.lines k).v_count;
          applied_bound = weaken k (taken E) bound le _ (inv.lines k).applied_bound;
          context_bound = λ i hi. weaken k (taken E) bound le _ ((inv.lines k).context_bound i hi);
          oth_bound = λ j hj. le_trans ((inv.lines k).oth_bound j hj) (le _);
        }

    pub inv_ack_up : (E.lines l).acked ≤ s → s ≤ (E.clients l).taken → Inv (acking_up l s E) h
    inv_ack_up a b =
        record {
          doc_is = inv.doc_is;
          server_shown = inv.server_shown;
          closed = inv.closed;
          served_bound = λ k x t. le_trans (inv.served_bound k x t) (le k);
          lines = by_line_lem l (λ k b. LineInv k h.served (h.untaken k) (h.applied k) bound (E.clients k) (cond b (acks s (E.lines l)) (E.lines k)) (E.docs k))
              (again bound le l (E.clients l) (acks s (E.lines l)) refl
              (line_ack_up d l (h.served ++ h.untaken l) h.served (h.applied l) (E.clients l) (E.lines l) (E.docs l) (inv.lines l).line s a b))
              (λ k q. again bound le k (E.clients k) (E.lines k) refl (inv.lines k).line);
        }
      where
        bound : ℕ → ℕ
        bound k = (at l (acks s (E.lines l)) E.lines k).taken

        le : (k : ℕ) → taken E k ≤ bound k
        le = by_line_lem l (λ k b. taken E k ≤ (cond b (acks s (E.lines l)) (E.lines k)).taken) (le_refl _) (λ k q. le_refl _)

    pub inv_ack_down : (E.clients l).acked ≤ s → s ≤ (E.lines l).taken → Inv (acking_down l s E) h
    inv_ack_down a b =
        record {
          doc_is = inv.doc_is;
          server_shown = inv.server_shown;
          closed = inv.closed;
          served_bound = inv.served_bound;
          lines = by_line_lem l (λ k b. LineInv k h.served (h.untaken k) (h.applied k) (taken E) (cond b (acks s (E.clients l)) (E.clients k)) (E.lines k) (E.docs k))
              (again (taken E) (λ k. le_refl _) l (acks s (E.clients l)) (E.lines l) refl
              (line_ack_down d l (h.served ++ h.untaken l) h.served (h.applied l) (E.clients l) (E.lines l) (E.docs l) (inv.lines l).line s a b))
              (λ k q. inv.lines k);
        }

  -- ---- a client takes its next edit
  module _ (E : Ends 𝓐) (h : History 𝓐) (inv : Inv E h) (l : ℕ) where
    -- what is missing is what stands in the server's order from the client's count on
    pub missing_is : missing h l ≡ drop (E.clients l).taken (others l h.served)
    unfolding missing
    missing_is =
        let e = others_served l h.served (h.untaken l) (inv.lines l).untaken_own in
        L.select_rest (is_by l) blank (λ y. holds (names (h.applied l)) y.name) h.served (E.clients l).taken
        (λ k hk. subst (λ r. k < length r → holds (names (h.applied l)) (get_or r k blank).name ≡ ltb k (E.clients l).taken) e ((inv.lines l).line.applied_oth k) hk)

  module _ (E : Ends 𝓐) (h : History 𝓐) (inv : Inv E h) (l : ℕ) (x : EditMessage 𝓐) (ok : DownOk l (order h l) (E.lines l).taken x)
      (next : x.number ≡ suc (E.clients l).taken) (cur : (E.clients l).acked ≤ x.seen) where
    abbrev dw : List (Made 𝓐)
    dw = h.served ++ h.untaken l

    abbrev g : Made 𝓐
    g = oth l dw (E.clients l).taken

    abbrev dwas : LineAt d l dw h.served (h.applied l) (E.clients l) (E.lines l) (E.docs l)
    dwas = (inv.lines l).line

    made : (E.clients l).taken < length (others l dw)
    made = down_made d l dw h.served (h.applied l) (E.clients l) (E.lines l) (E.docs l) dwas x ok next cur

    pub first_missing : missing h l ≡ g ∷ drop (suc (E.clients l).taken) (others l h.served)
    first_missing =
        let e = others_served l h.served (h.untaken l) (inv.lines l).untaken_own in
        missing_is E h inv l
        ∙ subst (λ r. drop (E.clients l).taken r ≡ get_or (others l dw) (E.clients l).taken blank ∷ drop (suc (E.clients l).taken) r) e
        (drop-cons (others l dw) (E.clients l).taken blank made)

    down_line : LineInv l h.served (h.untaken l) (h.applied l ++ (g ∷ [])) (taken E) (takes x (E.clients l)) (E.lines l) (𝓐.apply (arrived x (E.clients l)) (E.docs l))
    down_line =
        record {
          line = line_down d l dw h.served (h.applied l) (E.clients l) (E.lines l) (E.docs l) dwas x ok next cur;
          untaken_own = (inv.lines l).untaken_own;
          v_count = (inv.lines l).v_count;
          applied_bound = λ k y kl t. go k y kl (holds_split (h.applied l) g (named k y) t);
          context_bound = (inv.lines l).context_bound;
          oth_bound = (inv.lines l).oth_bound;
        }
      where
        go : (k y : ℕ) → k ≢ l → (holds (names (h.applied l)) (named k y) ≡ true) ⊎ (named k y ≡ g.name) → y ≤ taken E k
        go k y kl (inl t) = (inv.lines l).applied_bound k y kl t
        go k y kl (inr q) = subst (λ n. n.number ≤ taken E n.line) (sym q) ((inv.lines l).oth_bound (E.clients l).taken made)

    -- all that stands before it in the order, the client has applied
    down_context : Within g.context (h.applied l)
    down_context =
        let r = L.before_rejected (is_by l) blank (λ e. holds (names (h.applied l)) e.name ≡ true) dw (E.clients l).taken made dwas.applied_own
        (λ k lt hk. dwas.applied_oth k hk ∙ ltb_true k _ lt) in
        λ n t. all_within r.front (h.applied l) r.every n (context_of r.front g r.back (subst (ClosedFrom []) r.whole (inv.closed.order_closed l)) n t)

    down_closed : Closed (applies l (g ∷ drop (suc (E.clients l).taken) (others l h.served)) h)
    unfolding applies
    down_closed =
        record {
          order_closed = inv.closed.order_closed;
          applied_within = by_line_lem l (λ k b. Within (names (cond b (h.applied l ++ (g ∷ [])) (h.applied k))) (h.served ++ h.untaken k))
              (λ n t. pick n (holds_split (h.applied l) g n t)) (λ k q. inv.closed.applied_within k);
          applied_closed = by_line_lem l (λ k b. ClosedSet (cond b (h.applied l ++ (g ∷ [])) (h.applied k)))
              (closed_set_snoc (h.applied l) g (inv.closed.applied_closed l) down_context) (λ k q. inv.closed.applied_closed k);
        }
      where
        in_order_lem : holds (names dw) g.name ≡ true
        in_order_lem =
            let r = L.before_rejected (is_by l) blank (λ e. Unit {0}) dw (E.clients l).taken made (λ k hk. tt) (λ k lt hk. tt) in
            subst (λ s. holds (names s) g.name ≡ true) (append_assoc r.front (g ∷ []) r.back ∙ sym r.whole)
            (within_append (r.front ++ (g ∷ [])) r.back g.name (holds_last r.front g))

        pick : (n : Name) → (holds (names (h.applied l)) n ≡ true) ⊎ (n ≡ g.name) → holds (names dw) n ≡ true
        pick n (inl t) = inv.closed.applied_within l n t
        pick n (inr e) = subst (λ y. holds (names dw) y ≡ true) (sym e) in_order_lem

    pub inv_down : Inv (taking_down l x E) (after_down l h)
    unfolding applies
    inv_down =
        subst (λ M. Inv (taking_down l x E) (applies l M h)) (sym first_missing) (record {
          doc_is = inv.doc_is;
          server_shown = inv.server_shown;
          closed = down_closed;
          served_bound = inv.served_bound;
          lines = by_line_lem l (λ k b. LineInv k h.served (h.untaken k) (cond b (h.applied l ++ (g ∷ [])) (h.applied k)) (taken E) (cond b (takes x (E.clients l)) (E.clients k))
              (E.lines k) (cond b (𝓐.apply (arrived x (E.clients l)) (E.docs l)) (E.docs k))) down_line (λ k q. inv.lines k);
        })

    pub grows_down : (k : ℕ) → Grows k (order h k) (order (after_down l h) k)
    unfolding applies
    grows_down k = subst (λ M. Grows k (order h k) (order (applies l M h) k)) (sym first_missing) (grows_refl k (order h k))

  -- ---- the server takes a client's next edit
  module _ (laws : Laws 𝓐) (E : Ends 𝓐) (h : History 𝓐) (inv : Inv E h) (l : ℕ) (x : EditMessage 𝓐) (ok : UpOk l (order h l) (E.clients l).taken x)
      (next : x.number ≡ suc (E.lines l).taken) (cur : (E.lines l).acked ≤ x.seen) (o : Made 𝓐) (us : List (Made 𝓐)) (split : h.untaken l ≡ o ∷ us) where
    abbrev uw : List (Made 𝓐)
    uw = h.served ++ o ∷ us

    abbrev a : ℕ
    a = (E.lines l).taken

    -- the line as it was, with its untaken edits taken apart
    uinv : LineInv l h.served (o ∷ us) (h.applied l) (taken E) (E.clients l) (E.lines l) (E.docs l)
    uinv = subst (λ r. LineInv l h.served r (h.applied l) (taken E) (E.clients l) (E.lines l) (E.docs l)) split (inv.lines l)

    uok : UpOk l uw (E.clients l).taken x
    uok = subst (λ r. UpOk l (h.served ++ r) (E.clients l).taken x) split ok

    umade : a < length (mine l uw)
    umade = up_made d l uw h.served (h.applied l) (E.clients l) (E.lines l) (E.docs l) uinv.line x uok next cur

    o_by : is_by l o ≡ true
    o_by = uinv.untaken_own.0

    pub o_is : own l uw a ≡ o
    o_is =
        ap (own l uw) uinv.v_count ∙ ap (λ r. get_or r (length (mine l h.served)) blank) (L.select_in (is_by l) blank h.served o us o_by)
        ∙ get_or-append_seam (mine l h.served) o (mine l us) blank

    o_name : o.name ≡ named l (suc a)
    o_name = ap (λ e. e.name) (sym o_is) ∙ own_name l uw uinv.line.grid.contexts a umade

    o_context : Bounded l (taken E) o.context
    o_context = subst (λ e. Bounded l (taken E) e.context) o_is (uinv.context_bound a umade)

    o_bears : T (𝓐.by o.name o.edit)
    o_bears = subst (λ e. T (𝓐.by e.name e.edit)) o_is (uinv.line.grid.contexts.own_by a umade)

    -- it arrives in its form at what the server has applied, and fits
    pub arrives : arrived x (E.lines l) ≡ form o h.served
    arrives =
        up_form d l uw h.served (h.applied l) (E.clients l) (E.lines l) (E.docs l) uinv.line x uok next cur ∙ ap (λ e. form e h.served) o_is

    pub arrives_fits : T (𝓐.fits (form o h.served) (list_at d h.served))
    arrives_fits =
        let at_served = uinv.line.served_at in
        let edge = up_edge d l uw h.served (h.applied l) (E.clients l) (E.lines l) (E.docs l) uinv.line x uok next cur in
        subst (λ e. T (𝓐.fits (form e h.served) (list_at d h.served))) o_is
        (subst (λ C. T (𝓐.fits (form (own l uw a) C) (list_at d C))) at_served edge.fits)

    abbrev E' : Ends 𝓐
    E' = taking_up l x E

    pub up_bound : (k : ℕ) → taken E k ≤ taken E' k
    up_bound = by_line_lem l (λ k b. taken E k ≤ (cond b (takes x (E.lines l)) (keeps (arrived x (E.lines l)) (E.lines k))).taken) (omega arith) (λ k q. le_refl _)

    up_bound_l : taken E' l ≡ suc a
    up_bound_l = ap (λ b. (cond b (takes x (E.lines l)) (keeps (arrived x (E.lines l)) (E.lines l))).taken) (eqb_same l)

    -- no one else knows of it
    new_to : (ns : List Name) (k : ℕ) → l ≢ k → Bounded k (taken E) ns → holds ns o.name ≡ false
    new_to ns k lk b = is_false _ (λ t. let y : suc a ≤ a = b l (suc a) lk (ap (holds ns) (sym o_name) ∙ t) in absurd (omega arith))

    up_line : LineInv l (h.served ++ (o ∷ [])) us (h.applied l) (taken E') (E.clients l) (takes x (E.lines l)) (E.docs l)
    up_line =
        let assoc : uw ≡ (h.served ++ (o ∷ [])) ++ us = sym (append_assoc h.served (o ∷ []) us) in
        record {
          line = subst (λ r. LineAt d l r (h.served ++ (o ∷ [])) (h.applied l) (E.clients l) (takes x (E.lines l)) (E.docs l)) assoc
              (subst (λ e. LineAt d l uw (h.served ++ (e ∷ [])) (h.applied l) (E.clients l) (takes x (E.lines l)) (E.docs l)) o_is
              (line_up d l uw h.served (h.applied l) (E.clients l) (E.lines l) (E.docs l) uinv.line x uok next cur));
          untaken_own = uinv.untaken_own.1;
          v_count = ap suc uinv.v_count
              ∙ sym (ap length (mine_served l h.served (o ∷ []) (o_by, tt)) ∙ length-append (mine l h.served) (o ∷ []) ∙ omega arith);
          applied_bound = weaken l (taken E) (taken E') up_bound _ uinv.applied_bound;
          context_bound = subst (λ r. (i : ℕ) → i < length (mine l r) → Bounded l (taken E') (own l r i).context) assoc
              (λ i hi. weaken l (taken E) (taken E') up_bound _ (uinv.context_bound i hi));
          oth_bound = subst (λ r. (j : ℕ) → j < length (others l r) → (oth l r j).name.number ≤ taken E' (oth l r j).name.line) assoc
              (λ j hj. le_trans (uinv.oth_bound j hj) (up_bound _));
        }

    module _ (k : ℕ) (lk : l ≢ k) where
      abbrev ks : List (Made 𝓐)
      ks = h.untaken k

      number_new : (y : Name) → y.number ≤ taken E y.line → y ≡ o.name → ⊥
      number_new y le q = let z : suc a ≤ a = subst (λ n. n.number ≤ taken E n.line) (q ∙ o_name) le in absurd (omega arith)

      pub other_new : NewOth k h.served ks o
      other_new =
          record {
            other = ap (λ n. eqb k n.line) o_name ∙ eqb_differ k l (λ q. lk (sym q));
            behind = (inv.lines k).untaken_own;
            fresh = λ j hj. same_differ _ o.name (number_new (oth k (h.served ++ ks) j).name ((inv.lines k).oth_bound j hj));
            fresh' = λ j hj. same_differ o.name _ (λ q. number_new (oth k (h.served ++ ks) j).name ((inv.lines k).oth_bound j hj) (sym q));
            unknown = λ i hi. new_to (own k (h.served ++ ks) i).context k lk ((inv.lines k).context_bound i hi);
            knows = λ y t. subst (λ n. y ≤ n) (inv.lines k).v_count (o_context k y (λ q. lk (sym q)) t);
            bears = o_bears;
          }

      other_line : LineInv k (h.served ++ (o ∷ [])) ks (h.applied k) (taken E') (E.clients k) (keeps (arrived x (E.lines l)) (E.lines k)) (E.docs k)
      other_line =
          let assoc : h.served ++ o ∷ ks ≡ (h.served ++ (o ∷ [])) ++ ks = sym (append_assoc h.served (o ∷ []) ks) in
          record {
            line = subst (λ r. LineAt d k r (h.served ++ (o ∷ [])) (h.applied k) (E.clients k) (keeps (arrived x (E.lines l)) (E.lines k)) (E.docs k)) assoc
                (subst (λ e. LineAt d k (h.served ++ o ∷ ks) (h.served ++ (o ∷ [])) (h.applied k) (E.clients k) (keeps e (E.lines k)) (E.docs k)) (sym arrives)
                (line_other d laws k h.served ks (h.applied k) (E.clients k) (E.lines k) (E.docs k) (inv.lines k).line o other_new (inv.lines k).v_count arrives_fits
                (new_to (names (h.applied k)) k lk (inv.lines k).applied_bound)));
            untaken_own = (inv.lines k).untaken_own;
            v_count = (inv.lines k).v_count
                ∙ sym (ap length (L.select_out (is_by k) blank h.served o [] other_new.other ∙ ap (mine k) (append-nil h.served)));
            applied_bound = weaken k (taken E) (taken E') up_bound _ (inv.lines k).applied_bound;
            context_bound = subst (λ r. (i : ℕ) → i < length (mine k r) → Bounded k (taken E') (own k r i).context) assoc
                (col_own_cases k h.served ks o other_new (λ i e. Bounded k (taken E') e.context)
                (λ i hi. weaken k (taken E) (taken E') up_bound _ ((inv.lines k).context_bound i hi)));
            oth_bound = subst (λ r. (j : ℕ) → j < length (others k r) → (oth k r j).name.number ≤ taken E' (oth k r j).name.line) assoc
                (col_oth_cases k h.served ks o other_new (λ j e. e.name.number ≤ taken E' e.name.line)
                (λ j hj. le_trans ((inv.lines k).oth_bound j hj) (up_bound _))
                (subst (λ n. n.number ≤ taken E' n.line) (sym o_name) (omega (arith, up_bound_l))));
          }

    pub o_new : holds (names h.served) o.name ≡ false
    o_new = is_false _ (λ t. let y : suc a ≤ a = inv.served_bound l (suc a) (ap (holds (names h.served)) (sym o_name) ∙ t) in absurd (omega arith))

    up_shown : replay (h.served ++ (o ∷ [])) [] (h.served ++ (o ∷ [])) d ≡ 𝓐.apply (arrived x (E.lines l)) E.doc
    up_shown =
        replay_snoc (h.served ++ (o ∷ [])) [] h.served o d
        ∙ ap (λ C. 𝓐.apply (form o C) (replay (h.served ++ (o ∷ [])) [] h.served d))
        (in_order_insert h.served o [] h.served o_new ∙ ap (λ r. in_order r h.served) (append-nil h.served) ∙ in_itself h.served)
        ∙ ap (𝓐.apply (form o h.served)) (replay_insert h.served o [] [] h.served d o_new ∙ ap (λ r. replay r [] h.served d) (append-nil h.served) ∙ inv.server_shown)
        ∙ ap (λ e. 𝓐.apply e E.doc) (sym arrives)

    up_closed : Closed (serves l (o ∷ us) h)
    unfolding serves
    up_closed =
        record {
          order_closed = by_line_lem l (λ k b. ClosedFrom [] ((h.served ++ (o ∷ [])) ++ cond b us (h.untaken k)))
              (subst (ClosedFrom []) (sym (append_assoc h.served (o ∷ []) us)) own_order)
              (λ k q. subst (ClosedFrom []) (sym (append_assoc h.served (o ∷ []) (h.untaken k)))
              (closed_other h.served o us (h.untaken k) own_order (inv.closed.order_closed k)));
          applied_within = by_line_lem l (λ k b. Within (names (h.applied k)) ((h.served ++ (o ∷ [])) ++ cond b us (h.untaken k)))
              (subst (Within (names (h.applied l))) (ap (λ r. h.served ++ r) split ∙ sym (append_assoc h.served (o ∷ []) us)) (inv.closed.applied_within l))
              (λ k q. subst (Within (names (h.applied k))) (sym (append_assoc h.served (o ∷ []) (h.untaken k)))
              (within_insert (h.applied k) h.served o (h.untaken k) (inv.closed.applied_within k)));
          applied_closed = inv.closed.applied_closed;
        }
      where
        own_order : ClosedFrom [] uw
        own_order = subst (λ r. ClosedFrom [] (h.served ++ r)) split (inv.closed.order_closed l)

    pub up_inv : Inv E' (serves l (o ∷ us) h)
    unfolding serves
    up_inv =
        record {
          doc_is = ap (λ e. 𝓐.apply e E.doc) arrives ∙ ap (𝓐.apply (form o h.served)) inv.doc_is ∙ sym (list_at_snoc d h.served o);
          server_shown = up_shown;
          closed = up_closed;
          served_bound = λ k y t. bound k y (holds_split h.served o (named k y) t);
          lines = by_line_lem l (λ k b. LineInv k (h.served ++ (o ∷ [])) (cond b us (h.untaken k)) (h.applied k) (taken E') (E.clients k)
              (cond b (takes x (E.lines l)) (keeps (arrived x (E.lines l)) (E.lines k))) (E.docs k)) up_line (λ k q. other_line k (not_line l k q));
        }
      where
        bound : (k y : ℕ) → (holds (names h.served) (named k y) ≡ true) ⊎ (named k y ≡ o.name) → y ≤ taken E' k
        bound k y (inl t) = le_trans (inv.served_bound k y t) (up_bound k)
        bound k y (inr q) = subst (λ n. n.number ≤ taken E' n.line) (sym (q ∙ o_name)) (omega (arith, up_bound_l))

    pub up_grows : (k : ℕ) → Grows k (order h k) (order (serves l (o ∷ us) h) k)
    unfolding serves
    up_grows =
        by_line_lem l (λ k b. Grows k (h.served ++ h.untaken k) ((h.served ++ (o ∷ [])) ++ cond b us (h.untaken k)))
        (subst (λ r. Grows l (h.served ++ r) ((h.served ++ (o ∷ [])) ++ us)) (sym split) (subst (Grows l uw) (sym (append_assoc h.served (o ∷ []) us)) (grows_refl l uw)))
        (λ k q. subst (Grows k (h.served ++ h.untaken k)) (sym (append_assoc h.served (o ∷ []) (h.untaken k)))
        (col_grows k h.served (h.untaken k) o (other_new k (not_line l k q))))

    pub o_new_to : (k : ℕ) → l ≢ k → holds (names (h.applied k)) o.name ≡ false
    o_new_to k lk = new_to (names (h.applied k)) k lk (inv.lines k).applied_bound

  -- the client has an edit that the server has not taken
  module _ (laws : Laws 𝓐) (E : Ends 𝓐) (h : History 𝓐) (inv : Inv E h) (l : ℕ) (x : EditMessage 𝓐) (ok : UpOk l (order h l) (E.clients l).taken x)
      (next : x.number ≡ suc (E.lines l).taken) (cur : (E.lines l).acked ≤ x.seen) where
    pub first_untaken : (r : List (Made 𝓐)) → h.untaken l ≡ r → (P : List (Made 𝓐) → Type 0) → ((o : Made 𝓐) (us : List (Made 𝓐)) → h.untaken l ≡ o ∷ us → P (o ∷ us)) → P r
    first_untaken [] q P f =
        let m = up_made d l (order h l) h.served (h.applied l) (E.clients l) (E.lines l) (E.docs l) (inv.lines l).line x ok next cur in
        let n : length (mine l (order h l)) ≡ length (mine l h.served) = ap (λ r. length (mine l (h.served ++ r))) q ∙ ap (λ r. length (mine l r)) (append-nil h.served) in
        absurd (omega (arith, (inv.lines l).v_count))
    first_untaken (o ∷ us) q P f = f o us q

    pub inv_up : Inv (taking_up l x E) (after_up l h)
    inv_up =
        first_untaken (h.untaken l) refl (λ r. Inv (taking_up l x E) (serves l r h)) (λ o us q. up_inv laws E h inv l x ok next cur o us q)
