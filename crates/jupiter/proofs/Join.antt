-- A client joins a line that has no edits yet: a step like any other, with all counts from the first opening list.
use Prim.Native.Nat.{ℕ, ◌≤◌, ◌<◌, zero-le}
use native.Mathlib.Nat.{not-suc-le-zero, le_refl, le_trans}
use native.Mathlib.Omega.{arith}
use mathlib.Core.Path.{◌≡◌, refl, sym, ap, ◌∙◌, subst}
use mathlib.Core.Bool.{true, cond}
use mathlib.Core.List.{List, [], ◌∷◌, ◌++◌, append-nil}
use lib.ListN.{length}
use Rattle.jupiter.specs.Algebra.{Algebra}
use Rattle.jupiter.specs.Made.{Name, Made, holds, names, is_by, mine, others}
use Rattle.jupiter.specs.Form.{replay}
use Rattle.jupiter.specs.Point.{point, blank, own_form, oth_form}
use Rattle.jupiter.specs.History.{at, History, order, made_by, after_join}
use Rattle.jupiter.specs.Ends.{End, Ends}
use Rattle.jupiter.proofs.Lists as L
use Rattle.jupiter.proofs.Segment.{segment, segment_none}
use Rattle.jupiter.proofs.Grid.{by_line_lem, ltb_true, lag_of, doc_at}
use Rattle.jupiter.proofs.Line.{LineAt}
use Rattle.jupiter.proofs.Closure.{Within, ClosedSet, within_append, served_closed}
use Rattle.jupiter.proofs.World.{LineInv, taken, Inv}
use Rattle.jupiter.proofs.Step.{later_here, taken_at_lem, Step}
use Rattle.jupiter.proofs.Meeting.{served_oth, server_doc}

empty : {A : Type 0} (xs : List A) → length xs ≡ 0 → xs ≡ []
empty [] e = refl
empty (x ∷ xs) e = absurd (omega arith)

module _ {𝓐 : Algebra} where
  -- the ends of a line that starts behind n edits: its client has taken them, and the server knows it
  abbrev pub client_at : ℕ → End 𝓐
  client_at n = record { made = 0; taken = n; acked = 0; pending = [] }

  abbrev pub server_at : ℕ → End 𝓐
  server_at n = record { made = n; taken = 0; acked = n; pending = [] }

  abbrev pub joined : ℕ → History 𝓐 → Ends 𝓐 → Ends 𝓐
  joined l h E =
      record {
        doc = E.doc;
        lines = at l (server_at (length h.served)) E.lines;
        docs = at l E.doc E.docs;
        clients = at l (client_at (length h.served)) E.clients;
      }

module _ {𝓐 : Algebra} (d : 𝓐.Doc) (E : Ends 𝓐) (h : History 𝓐) (inv : Inv d E h) (l : ℕ) (none_made : made_by h l ≡ 0) where
  abbrev w : List (Made 𝓐)
  w = order h l

  abbrev n : ℕ
  n = length h.served

  abbrev E' : Ends 𝓐
  E' = joined l h E

  abbrev was : LineAt d l w h.served (h.applied l) (E.clients l) (E.lines l) (E.docs l)
  was = (inv.lines l).line

  pub order_is : w ≡ h.served
  order_is = ap (λ r. h.served ++ r) (empty (h.untaken l) (omega arith)) ∙ append-nil h.served

  no_own : length (mine l w) ≡ 0
  no_own = ap (λ r. length (mine l r)) order_is ∙ omega arith

  all_others : length (others l w) ≡ n
  all_others =
      ap (λ r. length (others l r)) order_is ∙ omega (arith, L.select_reject_length (is_by l) blank h.served)

  none_taken : (E.lines l).taken ≡ 0
  none_taken = (inv.lines l).v_count ∙ omega arith

  own_absurd : {P : Type 0} (i : ℕ) → i < length (mine l w) → P
  own_absurd i lt = absurd (not-suc-le-zero (subst (λ m. i < m) no_own lt))

  lag_none : (k : ℕ) → k < length (others l w) → lag_of l w k ≤ 0
  lag_none k lt = subst (λ a. lag_of l w k ≤ a) none_taken (was.lag_le k lt)

  line_join : LineAt d l w h.served h.served (client_at n) (server_at n) E.doc
  line_join =
      record {
        grid = was.grid;
        c_made = sym no_own;
        v_made = sym all_others;
        v_taken = zero-le;
        c_taken = omega (arith, all_others);
        c_acked = zero-le;
        v_acked = le_refl _;
        served_at = ap (λ a. point l w a (length (others l w))) (sym none_taken) ∙ was.served_at;
        lag_le = lag_none;
        seen_le = λ i lt. own_absurd i lt;
        c_lag = λ k lt. lag_none k (subst (λ m. k < m) (sym all_others) lt);
        v_seen = λ k lt. absurd (not-suc-le-zero lt);
        applied_own = λ i lt. own_absurd i lt;
        applied_oth = λ j lt. served_oth d E h inv l j lt ∙ sym (ltb_true j n (subst (λ m. j < m) all_others lt));
        applied_mine = λ x t. le_trans (subst (λ a. x ≤ a) none_taken (inv.served_bound l x t)) zero-le;
        applied_count = omega (arith, no_own);
        c_pending = sym (ap (segment (λ i. own_form l w i n) 0) no_own ∙ segment_none (λ i. own_form l w i n) 0);
        v_pending = sym (ap (segment (λ j. oth_form l w 0 j) n) all_others ∙ segment_none (λ j. oth_form l w 0 j) n);
        c_doc = server_doc d E h inv l ∙ ap (λ a. doc_at d l w a (length (others l w))) (none_taken ∙ sym no_own) ∙ ap (doc_at d l w (length (mine l w))) all_others;
        shown = ap (λ r. replay r [] h.served d) order_is ∙ inv.server_shown;
      }

  taken_le : (k : ℕ) → taken E k ≤ taken E' k
  taken_le = taken_at_lem l (server_at n) E.lines (omega (arith, none_taken))

  inv_join : Inv d E' (after_join l h)
  inv_join =
      record {
        doc_is = inv.doc_is;
        server_shown = inv.server_shown;
        closed = record {
          order_closed = inv.closed.order_closed;
          applied_within = by_line_lem l (λ k b. Within (names (cond b h.served (h.applied k))) (h.served ++ h.untaken k)) (within_append h.served (h.untaken l)) (λ k q. inv.closed.applied_within k);
          applied_closed = by_line_lem l (λ k b. ClosedSet (cond b h.served (h.applied k)))
              (L.all_from (λ e. Within e.context h.served) blank h.served (served_closed h inv.closed)) (λ k q. inv.closed.applied_closed k);
        };
        served_bound = λ k x t. le_trans (inv.served_bound k x t) (taken_le k);
        lines = by_line_lem l (λ k b. LineInv d k h.served (h.untaken k) (cond b h.served (h.applied k)) (taken E') (cond b (client_at n) (E.clients k))
            (cond b (server_at n) (E.lines k)) (cond b E.doc (E.docs k)))
            (line' l h.served _ _ E.doc line_join (sym none_taken ∙ (inv.lines l).v_count) (λ j x q t. inv.served_bound j x t))
            (λ k q. line' k (h.applied k) (E.clients k) (E.lines k) (E.docs k) (inv.lines k).line (inv.lines k).v_count (inv.lines k).applied_bound);
      }
    where
      line' : (k : ℕ) (applied : List (Made 𝓐)) (c v : End 𝓐) (doc : 𝓐.Doc) → LineAt d k (order h k) h.served applied c v doc → v.taken ≡ length (mine k h.served)
          → ((j x : ℕ) → (j ≡ k → ⊥) → holds (names applied) (record { line = j; number = x }) ≡ true → x ≤ taken E j)
          → LineInv d k h.served (h.untaken k) applied (taken E') c v doc
      line' k applied c v doc line count bound =
          record {
            line = line;
            untaken_own = (inv.lines k).untaken_own;
            v_count = count;
            applied_bound = λ j x q t. le_trans (bound j x q t) (taken_le j);
            context_bound = λ i lt j x q t. le_trans ((inv.lines k).context_bound i lt j x q t) (taken_le j);
            oth_bound = λ j lt. le_trans ((inv.lines k).oth_bound j lt) (taken_le _);
          }

  pub step_join : Step d E h E' (after_join l h)
  step_join =
      record {
        inv = inv_join;
        later = later_here E h E' _ (taken_at_lem l (client_at n) E.clients (omega (arith, was.c_taken, all_others))) taken_le
            (by_line_lem l (λ k b. (x : Name) → holds (names (h.applied k)) x ≡ true → holds (names (cond b h.served (h.applied k))) x ≡ true)
            (λ x t. subst (λ r. holds (names r) x ≡ true) order_is (inv.closed.applied_within l x t)) (λ k q x t. t));
      }
