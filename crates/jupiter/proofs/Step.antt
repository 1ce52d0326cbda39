-- The step that each accepted call is, for whoever goes through the protocol call by call: the invariant holds behind it, and everything
-- that was known stays as it was (`Later`). Messages are carried by `UpMessage` and `DownMessage`, which sending gives and `Later` keeps.
use Prim.Native.Nat.{ℕ, suc, ◌≤◌, ◌<◌, zero-le}
use native.Mathlib.Nat.{not-suc-le-zero, le_refl, le_trans}
use native.Mathlib.Omega.{arith}
use mathlib.Core.Path.{◌≡◌, refl, sym, ap, ◌∙◌, subst}
use mathlib.Core.Bool.{Bool, true, false, cond, true≢false}
use mathlib.Core.List.{List, [], ◌∷◌, ◌++◌, append_assoc, append-nil}
use lib.Dec.{T}
use lib.ListN.{length}
use Rattle.jupiter.specs.Algebra.{Algebra, Laws}
use Rattle.jupiter.specs.Made.{Name, Made, holds, select, reject, names, is_by, mine, others}
use Rattle.jupiter.specs.Form.{grown, list_at, in_order, replay}
use Rattle.jupiter.specs.Point.{blank, oth, own_form, oth_form}
use Rattle.jupiter.specs.History.{at, History, no_history, order, new_name, new_edit, after_edit, serves, after_up, applies, after_down}
use Rattle.jupiter.specs.Ends.{End, EditMessage, Ends, opened, keeps, acks, takes, arrived, message, editing, taking_up, taking_down, acking_up, acking_down}
use Rattle.jupiter.proofs.Lists as L
use Rattle.jupiter.proofs.Segment.{segment_none}
use Rattle.jupiter.proofs.Grid.{by_line_lem, not_line, Grows, grows_refl, grows_trans}
use Rattle.jupiter.proofs.Line.{UpOk, DownOk, up_on, down_on, send_up, send_down, up_arrives, up_edge, down_arrives, down_edge}
use Rattle.jupiter.proofs.World.{named, edit_new, first_untaken, up_inv, up_grows, up_bound, o_new, o_new_to, Inv, inv_edit, grows_edit, inv_ack_up, inv_ack_down, inv_down, first_missing}
use Rattle.jupiter.proofs.Replay.{holds_more, in_order_insert}

-- ---- what stays
module _ {𝓐 : Algebra} where
  pub record Later (E : Ends 𝓐) (h : History 𝓐) (E' : Ends 𝓐) (h' : History 𝓐) : Type 0 where
    pub grows : (l : ℕ) → Grows l (order h l) (order h' l)
    pub c_later : (l : ℕ) → (E.clients l).taken ≤ (E'.clients l).taken
    pub v_later : (l : ℕ) → (E.lines l).taken ≤ (E'.lines l).taken
    -- what an end had applied it still has applied, and in order it is the list that it was
    pub kept : (l : ℕ) (x : Name) → holds (names (h.applied l)) x ≡ true → holds (names (h'.applied l)) x ≡ true
    pub set_same : (l : ℕ) → in_order (order h' l) (h.applied l) ≡ in_order (order h l) (h.applied l)
    pub served_kept : (x : Name) → holds (names h.served) x ≡ true → holds (names h'.served) x ≡ true
    pub served_same : in_order h'.served h.served ≡ in_order h.served h.served

  -- no edit was made or taken by the server: the ends may count more as taken, and each client may have applied more
  pub later_here : (E : Ends 𝓐) (h : History 𝓐) (E' : Ends 𝓐) (applied : ℕ → List (Made 𝓐)) → ((l : ℕ) → (E.clients l).taken ≤ (E'.clients l).taken) → ((l : ℕ) → (E.lines l).taken ≤ (E'.lines l).taken)
      → ((l : ℕ) (x : Name) → holds (names (h.applied l)) x ≡ true → holds (names (applied l)) x ≡ true) → Later E h E' (record { served = h.served; untaken = h.untaken; applied = applied })
  later_here E h E' applied c v more =
      record {
        grows = λ l. grows_refl l (order h l);
        c_later = c;
        v_later = v;
        kept = more;
        set_same = λ l. refl;
        served_kept = λ x t. t;
        served_same = refl;
      }

  pub later_refl : (E : Ends 𝓐) (h : History 𝓐) → Later E h E h
  later_refl E h = later_here E h E h.applied (λ l. le_refl _) (λ l. le_refl _) (λ l x t. t)

  -- an end of line l in place of another: as many edits are taken, or more
  pub taken_at_lem : (l : ℕ) (v : End 𝓐) (f : ℕ → End 𝓐) → (f l).taken ≤ v.taken → (k : ℕ) → (f k).taken ≤ (at l v f k).taken
  taken_at_lem l v f le = by_line_lem l (λ k b. (f k).taken ≤ (cond b v (f k)).taken) le (λ k q. le_refl _)

  -- client l applies one edit more
  applied_at_lem : (l : ℕ) (o : Made 𝓐) (f : ℕ → List (Made 𝓐)) (k : ℕ) (x : Name) → holds (names (f k)) x ≡ true → holds (names (at l (f l ++ (o ∷ [])) f k)) x ≡ true
  applied_at_lem l o f = by_line_lem l (λ k b. (x : Name) → holds (names (f k)) x ≡ true → holds (names (cond b (f l ++ (o ∷ [])) (f k))) x ≡ true) (holds_more (f l) o) (λ k q x t. t)

  -- a smaller set is selected from the larger one's list
  smaller : (w A B : List (Made 𝓐)) → ((x : Name) → holds (names A) x ≡ true → holds (names B) x ≡ true) → in_order (in_order w B) A ≡ in_order w A
  unfolding in_order select
  smaller [] A B le = refl
  smaller (e ∷ w) A B le = go (holds (names B) e.name) refl (holds (names A) e.name) refl (smaller w A B le)
    where
      go : (b : Bool) → holds (names B) e.name ≡ b → (c : Bool) → holds (names A) e.name ≡ c
          → select (λ y. holds (names A) y.name) (select (λ y. holds (names B) y.name) w) ≡ select (λ y. holds (names A) y.name) w
          → select (λ y. holds (names A) y.name) (cond b (e ∷ select (λ y. holds (names B) y.name) w) (select (λ y. holds (names B) y.name) w))
          ≡ cond c (e ∷ select (λ y. holds (names A) y.name) w) (select (λ y. holds (names A) y.name) w)
      go true q true r ih = rw r (ap {B = List (Made 𝓐)} (λ s. e ∷ s) ih)
      go true q false r ih = rw r ih
      go false q true r ih = absurd (true≢false (sym (le e.name r) ∙ q))
      go false q false r ih = ih

  -- so an order that keeps the one keeps the other
  pub same_set : (w w' A B : List (Made 𝓐)) → ((x : Name) → holds (names A) x ≡ true → holds (names B) x ≡ true) → in_order w' B ≡ in_order w B → in_order w' A ≡ in_order w A
  same_set w w' A B le e = sym (smaller w' A B le) ∙ ap (λ r. in_order r A) e ∙ smaller w A B le

  pub later_trans : (E : Ends 𝓐) (h : History 𝓐) (E' : Ends 𝓐) (h' : History 𝓐) (E'' : Ends 𝓐) (h'' : History 𝓐) → Later E h E' h' → Later E' h' E'' h'' → Later E h E'' h''
  later_trans E h E' h' E'' h'' f g =
      record {
        grows = λ l. grows_trans l (order h l) (order h' l) (order h'' l) (f.grows l) (g.grows l);
        c_later = λ l. le_trans (f.c_later l) (g.c_later l);
        v_later = λ l. le_trans (f.v_later l) (g.v_later l);
        kept = λ l x t. g.kept l x (f.kept l x t);
        set_same = λ l. same_set (order h' l) (order h'' l) (h.applied l) (h'.applied l) (f.kept l) (g.set_same l) ∙ f.set_same l;
        served_kept = λ x t. g.served_kept x (f.served_kept x t);
        served_same = same_set h'.served h''.served h.served h'.served f.served_kept g.served_same ∙ f.served_same;
      }

module _ {𝓐 : Algebra} (d : 𝓐.Doc) where
  -- a step from one state to the next
  pub record Step (E : Ends 𝓐) (h : History 𝓐) (E' : Ends 𝓐) (h' : History 𝓐) : Type 0 where
    pub inv : Inv d E' h'
    pub later : Later E h E' h'

  -- ---- opening
  pub opens : Inv {𝓐 = 𝓐} d (opened d) no_history
  unfolding list_at grown select reject holds replay
  opens =
      record {
        doc_is = refl';
        server_shown = shown';
        closed = record { order_closed = λ l. tt; applied_within = λ l n t. absurd (none_held n t); applied_closed = λ l. tt };
        served_bound = λ k x t. absurd (none_held (named k x) t);
        lines = λ l. record {
          line = record {
            grid = record {
              contexts = record {
                own_number = λ i h. absurd (not-suc-le-zero h);
                oth_inj = λ j k h. absurd (not-suc-le-zero h);
                ctx_own = λ i k h. absurd (not-suc-le-zero h);
                ctx_mine = λ i x h. absurd (not-suc-le-zero h);
                ctx_oth = λ i j h. absurd (not-suc-le-zero h);
                oth_ctx = λ j x h. absurd (not-suc-le-zero h);
                seen_le = λ i h. absurd (not-suc-le-zero h);
                causal = λ i j h. absurd (not-suc-le-zero h);
                seen_up = λ i k h. absurd (not-suc-le-zero h);
                own_by = λ i h. absurd (not-suc-le-zero h);
                oth_by = λ j h. absurd (not-suc-le-zero h);
              };
              own_edge = λ i j g h. absurd (not-suc-le-zero h);
              oth_edge = λ i j g h. absurd (not-suc-le-zero h);
            };
            c_made = refl;
            v_made = refl;
            v_taken = zero-le;
            c_taken = zero-le;
            c_acked = zero-le;
            v_acked = zero-le;
            served_at = L.firsts_none (is_by {𝓐 = 𝓐} l) blank [];
            lag_le = λ k h. absurd (not-suc-le-zero h);
            seen_le = λ i h. absurd (not-suc-le-zero h);
            c_lag = λ k h. absurd (not-suc-le-zero h);
            v_seen = λ k h. absurd (not-suc-le-zero h);
            applied_own = λ i h. absurd (not-suc-le-zero h);
            applied_oth = λ j h. absurd (not-suc-le-zero h);
            applied_mine = λ x t. absurd (none_held (named l x) t);
            applied_count = refl;
            c_pending = sym (segment_none (λ i. own_form {𝓐 = 𝓐} l [] i 0) 0);
            v_pending = sym (segment_none (λ j. oth_form {𝓐 = 𝓐} l [] 0 j) 0);
            c_doc = refl' ∙ ap (list_at d) (sym (L.firsts_none (is_by {𝓐 = 𝓐} l) blank []));
            shown = shown';
          };
          untaken_own = tt;
          v_count = refl;
          applied_bound = λ k x q t. absurd (none_held (named k x) t);
          context_bound = λ i h. absurd (not-suc-le-zero h);
          oth_bound = λ j h. absurd (not-suc-le-zero h);
        };
      }
    where
      none_held : (x : Name) → holds [] x ≡ true → ⊥
      none_held x t = true≢false (sym t)

      refl' : d ≡ list_at {𝓐 = 𝓐} d []
      refl' = refl

      shown' : replay {𝓐 = 𝓐} [] [] [] d ≡ d
      shown' = refl

  -- ---- a client makes an edit
  pub step_edit : Laws 𝓐 → (E : Ends 𝓐) (h : History 𝓐) → Inv d E h → (l : ℕ) (e : 𝓐.Edit) → T (𝓐.by (new_name h l) e) → T (𝓐.fits e (E.docs l)) → Step E h (editing l e E) (after_edit l e h)
  unfolding after_edit
  step_edit laws E h inv l e bears ok =
      record {
        inv = inv_edit d laws E h inv l e bears ok;
        later = record {
          grows = grows_edit d laws E h inv l e bears ok;
          c_later = taken_at_lem l (keeps e (E.clients l)) E.clients (le_refl _);
          v_later = λ k. le_refl _;
          kept = applied_at_lem l (new_edit h l e) h.applied;
          set_same = by_line_lem l
              (λ k b. in_order (h.served ++ cond b (h.untaken l ++ (new_edit h l e ∷ [])) (h.untaken k)) (h.applied k) ≡ in_order (h.served ++ h.untaken k) (h.applied k))
              (ap (λ r. in_order r (h.applied l)) (sym (append_assoc h.served (h.untaken l) (new_edit h l e ∷ [])))
              ∙ in_order_insert (order h l) (new_edit h l e) [] (h.applied l) (edit_new d laws E h inv l e bears ok) ∙ ap (λ r. in_order r (h.applied l)) (append-nil (order h l)))
              (λ k q. refl);
          served_kept = λ x t. t;
          served_same = refl;
        };
      }

  -- ---- the server takes the next edit of a line
  pub step_up : Laws 𝓐 → (E : Ends 𝓐) (h : History 𝓐) → Inv d E h → (l : ℕ) (x : EditMessage 𝓐) → UpOk l (order h l) (E.clients l).taken x
      → x.number ≡ suc (E.lines l).taken → (E.lines l).acked ≤ x.seen → Step E h (taking_up l x E) (after_up l h)
  unfolding serves
  step_up laws E h inv l x ok next cur = first_untaken d laws E h inv l x ok next cur (h.untaken l) refl (λ r. Step E h (taking_up l x E) (serves l r h)) go
    where
      go : (o : Made 𝓐) (us : List (Made 𝓐)) → h.untaken l ≡ o ∷ us → Step E h (taking_up l x E) (serves l (o ∷ us) h)
      go o us split =
          record {
            inv = up_inv d laws E h inv l x ok next cur o us split;
            later = record {
              grows = up_grows d laws E h inv l x ok next cur o us split;
              c_later = λ k. le_refl _;
              v_later = up_bound d laws E h inv l x ok next cur o us split;
              kept = λ k y t. t;
              set_same = by_line_lem l (λ k b. in_order ((h.served ++ (o ∷ [])) ++ cond b us (h.untaken k)) (h.applied k) ≡ in_order (h.served ++ h.untaken k) (h.applied k))
                  (ap (λ r. in_order r (h.applied l)) (append_assoc h.served (o ∷ []) us ∙ ap (λ r. h.served ++ r) (sym split)))
                  (λ k q. ap (λ r. in_order r (h.applied k)) (append_assoc h.served (o ∷ []) (h.untaken k))
                  ∙ in_order_insert h.served o (h.untaken k) (h.applied k) (o_new_to d laws E h inv l x ok next cur o us split k (not_line l k q)));
              served_kept = λ y t. holds_more h.served o y t;
              served_same = in_order_insert h.served o [] h.served (o_new d laws E h inv l x ok next cur o us split) ∙ ap (λ r. in_order r h.served) (append-nil h.served);
            };
          }

  -- ---- a client takes its next edit
  pub step_down : (E : Ends 𝓐) (h : History 𝓐) → Inv d E h → (l : ℕ) (x : EditMessage 𝓐) → DownOk l (order h l) (E.lines l).taken x
      → x.number ≡ suc (E.clients l).taken → (E.clients l).acked ≤ x.seen → Step E h (taking_down l x E) (after_down l h)
  unfolding applies
  step_down E h inv l x ok next cur =
      record {
        inv = inv_down d E h inv l x ok next cur;
        later = subst (λ M. Later E h (taking_down l x E) (applies l M h)) (sym (first_missing d E h inv l x ok next cur))
            (later_here E h (taking_down l x E) _ (taken_at_lem l (takes x (E.clients l)) E.clients (omega arith)) (λ k. le_refl _)
            (applied_at_lem l (oth l (order h l) (E.clients l).taken) h.applied));
      }

  -- ---- acknowledgements
  pub step_ack_up : (E : Ends 𝓐) (h : History 𝓐) → Inv d E h → (l s : ℕ) → (E.lines l).acked ≤ s → s ≤ (E.clients l).taken → Step E h (acking_up l s E) h
  step_ack_up E h inv l s a b =
      record {
        inv = inv_ack_up d E h inv l s a b;
        later = later_here E h (acking_up l s E) h.applied (λ k. le_refl _) (taken_at_lem l (acks s (E.lines l)) E.lines (le_refl _)) (λ k y t. t);
      }

  pub step_ack_down : (E : Ends 𝓐) (h : History 𝓐) → Inv d E h → (l s : ℕ) → (E.clients l).acked ≤ s → s ≤ (E.lines l).taken → Step E h (acking_down l s E) h
  step_ack_down E h inv l s a b =
      record {
        inv = inv_ack_down d E h inv l s a b;
        later = later_here E h (acking_down l s E) h.applied (taken_at_lem l (acks s (E.clients l)) E.clients (le_refl _)) (λ k. le_refl _) (λ k y t. t);
      }

  -- ---- messages
  -- what a message on line l must be, whenever it is taken
  abbrev pub UpMessage : Ends 𝓐 → History 𝓐 → ℕ → EditMessage 𝓐 → Type 0
  UpMessage E h l x = UpOk l (order h l) (E.clients l).taken x

  abbrev pub DownMessage : Ends 𝓐 → History 𝓐 → ℕ → EditMessage 𝓐 → Type 0
  DownMessage E h l x = DownOk l (order h l) (E.lines l).taken x

  pub up_message : (E : Ends 𝓐) (h : History 𝓐) → Inv d E h → (l k : ℕ) → (E.clients l).acked < k → k ≤ (E.clients l).made → UpMessage E h l (message k (E.clients l))
  up_message E h inv l = send_up d l (order h l) h.served (h.applied l) (E.clients l) (E.lines l) (E.docs l) (inv.lines l).line

  pub down_message : (E : Ends 𝓐) (h : History 𝓐) → Inv d E h → (l k : ℕ) → (E.lines l).acked < k → k ≤ (E.lines l).made → DownMessage E h l (message k (E.lines l))
  down_message E h inv l = send_down d l (order h l) h.served (h.applied l) (E.clients l) (E.lines l) (E.docs l) (inv.lines l).line

  pub up_later : (E : Ends 𝓐) (h : History 𝓐) (E' : Ends 𝓐) (h' : History 𝓐) → Inv d E h → Later E h E' h' → (l : ℕ) (x : EditMessage 𝓐) → UpMessage E h l x → UpMessage E' h' l x
  up_later E h E' h' inv f l x ok = up_on l (order h l) (order h' l) (f.grows l) _ _ (inv.lines l).line.c_taken (f.c_later l) x ok

  pub down_later : (E : Ends 𝓐) (h : History 𝓐) (E' : Ends 𝓐) (h' : History 𝓐) → Inv d E h → Later E h E' h' → (l : ℕ) (x : EditMessage 𝓐) → DownMessage E h l x → DownMessage E' h' l x
  down_later E h E' h' inv f l x ok = down_on l (order h l) (order h' l) (f.grows l) _ _ (inv.lines l).line.v_taken (f.v_later l) x ok

  -- ---- what arrives fits, and is the form at what the taker has applied
  pub down_fits : (E : Ends 𝓐) (h : History 𝓐) → Inv d E h → (l : ℕ) (x : EditMessage 𝓐) → DownMessage E h l x
      → x.number ≡ suc (E.clients l).taken → (E.clients l).acked ≤ x.seen → T (𝓐.fits (arrived x (E.clients l)) (E.docs l))
  down_fits E h inv l x ok next cur =
      let line = (inv.lines l).line in
      let edge = down_edge d l (order h l) h.served (h.applied l) (E.clients l) (E.lines l) (E.docs l) line x ok next cur in
      let is = down_arrives d l (order h l) h.served (h.applied l) (E.clients l) (E.lines l) (E.docs l) line x ok next cur in
      subst (λ e. T (𝓐.fits e (E.docs l))) (sym is)
      (subst (λ r. T (𝓐.fits (oth_form l (order h l) (length (mine l (order h l))) (E.clients l).taken) r)) (sym line.c_doc) edge.fits)

  pub up_fits : (E : Ends 𝓐) (h : History 𝓐) → Inv d E h → (l : ℕ) (x : EditMessage 𝓐) → UpMessage E h l x
      → x.number ≡ suc (E.lines l).taken → (E.lines l).acked ≤ x.seen → T (𝓐.fits (arrived x (E.lines l)) E.doc)
  up_fits E h inv l x ok next cur =
      let line = (inv.lines l).line in
      let edge = up_edge d l (order h l) h.served (h.applied l) (E.clients l) (E.lines l) (E.docs l) line x ok next cur in
      let is = up_arrives d l (order h l) h.served (h.applied l) (E.clients l) (E.lines l) (E.docs l) line x ok next cur in
      subst (λ e. T (𝓐.fits e E.doc)) (sym is)
      (subst (λ r. T (𝓐.fits (own_form l (order h l) (E.lines l).taken (length (others l (order h l)))) r)) (sym (inv.doc_is ∙ ap (list_at d) (sym line.served_at))) edge.fits)
