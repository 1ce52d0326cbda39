-- The two ends of a line and the line's grid: what holds between any two calls, and how each call keeps it.
use Prim.Native.Nat.{ℕ, zero, suc, ◌+◌, ◌-◌, ◌≤◌, ◌<◌}
use native.Mathlib.Nat.{le_of_suc-le-suc, not-suc-le-zero, le_refl, le_trans, sub_self}
use native.Mathlib.Omega.{arith}
use mathlib.Core.Path.{◌≡◌, refl, sym, ap, ◌∙◌, subst}
use mathlib.Core.Logic.{◌⊎◌, inl, inr}
use mathlib.Core.Bool.{true, false, ◌||◌}
use mathlib.Core.List.{List, [], ◌∷◌, ◌++◌, append-nil}
use lib.Dec.{T, ltb}
use lib.ListN.{length, get_or, drop, length-append, length-map}
use Rattle.jupiter.specs.Algebra.{Algebra, Laws}
use Rattle.jupiter.specs.Made.{Name, Made, same, holds, names, is_by, mine, others}
use Rattle.jupiter.specs.Form.{form, list_at, in_order, replay}
use Rattle.jupiter.specs.Point.{point, blank, own, oth, own_form, oth_form}
use Rattle.jupiter.specs.Ends.{past, over, End, EditMessage, keeps, unacked, acks, takes, arrived, message}
use Rattle.jupiter.proofs.Lists as L
use Rattle.jupiter.proofs.Segment.{segment, segment_cong, segment_snoc, segment_get, segment_drop, past_segment, over_segment}
use Rattle.jupiter.proofs.Grid.{ltb_true, ltb_false, below_suc, seen_of, lag_of, Grows, own_form_same, oth_form_same, own_cell, oth_cell, oth_line, oth_out, Good, doc_at, OwnEdge, OthEdge, Grid}
use Rattle.jupiter.proofs.Extend.{NewOwn, row_made, row_others, row_grows, row_new, new_form, row_form, row_own_cases, row_oth_cases, row_grid, NewOth, col_grows, col_made, col_others, col_own_cases, col_oth_cases, col_form, col_grid, col_lags, col_next}
use Rattle.jupiter.proofs.Replay.{or_false, same_differ, is_false, holds_snoc, holds_more, holds_last, holds_split, held_next, in_order_insert, replay_insert, replay_snoc}

module _ {𝓐 : Algebra} where
  -- An up message holds the form that the definition gives at the edits that its seen tells, and so does a down message: (k - 1, seen) and
  -- (seen, k - 1) are its point.
  pub record UpOk (l : ℕ) (w : List (Made 𝓐)) (taken : ℕ) (x : EditMessage 𝓐) : Type 0 where
    pub index : ℕ
    pub number : x.number ≡ suc index
    pub made : index < length (mine l w)
    pub seen_made : seen_of (own l w index) ≤ x.seen
    pub seen_le : x.seen ≤ taken
    pub edit : x.edit ≡ own_form l w index x.seen

  pub record DownOk (l : ℕ) (w : List (Made 𝓐)) (taken : ℕ) (x : EditMessage 𝓐) : Type 0 where
    pub index : ℕ
    pub number : x.number ≡ suc index
    pub made : index < length (others l w)
    pub lags : (k : ℕ) → k < suc index → lag_of l w k ≤ x.seen
    pub seen_le : x.seen ≤ taken
    pub edit : x.edit ≡ oth_form l w x.seen index

  -- they stay so
  pub up_on : (l : ℕ) (w w' : List (Made 𝓐)) → Grows l w w' → (t t' : ℕ) → t ≤ length (others l w) → t ≤ t' → (x : EditMessage 𝓐) → UpOk l w t x → UpOk l w' t' x
  up_on l w w' g t t' tn tt' x ok =
      record {
        index = ok.index;
        number = ok.number;
        made = le_trans ok.made g.more_own;
        seen_made = subst (λ e. seen_of e ≤ x.seen) (sym (g.own_same ok.index ok.made)) ok.seen_made;
        seen_le = le_trans ok.seen_le tt';
        edit = ok.edit ∙ sym (own_form_same l w w' g ok.index x.seen ok.made (le_trans ok.seen_le tn));
      }

  pub down_on : (l : ℕ) (w w' : List (Made 𝓐)) → Grows l w w' → (a a' : ℕ) → a ≤ length (mine l w) → a ≤ a' → (x : EditMessage 𝓐) → DownOk l w a x → DownOk l w' a' x
  down_on l w w' g a a' am aa' x ok =
      record {
        index = ok.index;
        number = ok.number;
        made = le_trans ok.made g.more_oth;
        lags = λ k lt. subst (λ n. n ≤ x.seen) (sym (g.lag_same k (le_trans lt ok.made))) (ok.lags k lt);
        seen_le = le_trans ok.seen_le aa';
        edit = ok.edit ∙ sym (oth_form_same l w w' g x.seen ok.index (le_trans ok.seen_le am) ok.made);
      }

-- An end whose pending edits are the row f, from the number that the other end has acknowledged up to n; at a client and at the server alike.
module _ {𝓐 : Algebra} (v : End 𝓐) (f : ℕ → 𝓐.Edit) (n : ℕ) (row : v.pending ≡ segment f v.acked n) where
  -- the edit that it sends as number k + 1
  row_sent : (k : ℕ) → v.acked ≤ k → k < n → (message (suc k) v).edit ≡ f k
  row_sent k a b =
      ap (λ r. get_or r (suc k - suc v.acked) 𝓐.nothing) row ∙ ap (λ m. get_or (segment f v.acked n) m 𝓐.nothing) (omega arith) ∙ segment_get f 𝓐.nothing v.acked n k a b

  -- the pending edits that the other end has not seen
  row_unacked : (s : ℕ) → v.acked ≤ s → s ≤ n → unacked v s ≡ segment f s n
  row_unacked s a b = ap (drop (s - v.acked)) row ∙ segment_drop f v.acked n s a b

-- an end that hears again what it has heard
acks_again : {𝓐 : Algebra} (v : End 𝓐) → acks v.acked v ≡ v
acks_again v = rw (sub_self v.acked)

module _ {𝓐 : Algebra} (d : 𝓐.Doc) where
  -- w is 01's order of the edits as far as the line knows them, `served` what the server has taken, `applied` what the client has applied in its
  -- order; c is the client's end and v the server's; `doc` is what the client shows.
  pub record LineAt (l : ℕ) (w served applied : List (Made 𝓐)) (c v : End 𝓐) (doc : 𝓐.Doc) : Type 0 where
    pub grid : Grid d l w
    pub c_made : c.made ≡ length (mine l w)
    pub v_made : v.made ≡ length (others l w)
    pub v_taken : v.taken ≤ length (mine l w)
    pub c_taken : c.taken ≤ length (others l w)
    pub c_acked : c.acked ≤ v.taken
    pub v_acked : v.acked ≤ c.taken
    -- the server's point, and the client's
    pub served_at : point l w v.taken (length (others l w)) ≡ served
    pub lag_le : (k : ℕ) → k < length (others l w) → lag_of l w k ≤ v.taken
    pub seen_le : (i : ℕ) → i < length (mine l w) → seen_of (own l w i) ≤ c.taken
    -- what an end has taken, the other end knew to be taken when it wrote the last message taken here
    pub c_lag : (k : ℕ) → k < c.taken → lag_of l w k ≤ c.acked
    pub v_seen : (k : ℕ) → k < v.taken → seen_of (own l w k) ≤ v.acked
    pub applied_own : (i : ℕ) → i < length (mine l w) → holds (names applied) (own l w i).name ≡ true
    pub applied_oth : (j : ℕ) → j < length (others l w) → holds (names applied) (oth l w j).name ≡ ltb j c.taken
    pub applied_mine : (x : ℕ) → holds (names applied) (record { line = l; number = x }) ≡ true → x ≤ length (mine l w)
    pub applied_count : length applied ≡ length (mine l w) + c.taken
    -- the buffers hold the forms that the definition gives
    pub c_pending : c.pending ≡ segment (λ i. own_form l w i c.taken) c.acked (length (mine l w))
    pub v_pending : v.pending ≡ segment (λ j. oth_form l w v.taken j) v.acked (length (others l w))
    pub c_doc : doc ≡ doc_at d l w (length (mine l w)) c.taken
    pub shown : replay w [] applied d ≡ doc

  module _ (l : ℕ) (w served applied : List (Made 𝓐)) (c v : End 𝓐) (doc : 𝓐.Doc) (at : LineAt l w served applied c v doc) where
    -- what the client has applied, put in order, is its point
    pub set_is : in_order w applied ≡ point l w (length (mine l w)) c.taken
    unfolding in_order
    set_is =
        L.select_firsts (is_by l) blank (λ e. holds (names applied) e.name) w (length (mine l w)) c.taken
        (λ k h. at.applied_own k h ∙ sym (ltb_true k _ h)) at.applied_oth

    pub client_good : Good l w (length (mine l w)) c.taken
    client_good =
        record { own_le = le_refl _; oth_le = at.c_taken; lags = λ k lt. L.lag_le (is_by l) blank w k; seens = λ k lt. at.seen_le k lt }

    pub server_good : Good l w v.taken (length (others l w))
    server_good =
        record { own_le = at.v_taken; oth_le = le_refl _; lags = at.lag_le; seens = λ k lt. at.grid.contexts.seen_le k (le_trans lt at.v_taken) }

    -- every point between the client's and the server's is good
    pub between_good : (i j : ℕ) → v.taken ≤ i → i ≤ length (mine l w) → c.taken ≤ j → j ≤ length (others l w) → Good l w i j
    between_good i j a b x y =
        record {
          own_le = b;
          oth_le = y;
          lags = λ k lt. le_trans (at.lag_le k (le_trans lt y)) a;
          seens = λ k lt. le_trans (at.seen_le k (le_trans lt b)) x;
        }

    -- the points at which the pending edits stand
    pub pending_good_c : (i : ℕ) → c.acked ≤ i → i ≤ length (mine l w) → Good l w i c.taken
    pending_good_c i a b =
        record { own_le = b; oth_le = at.c_taken; lags = λ k lt. le_trans (at.c_lag k lt) a; seens = λ k lt. at.seen_le k (le_trans lt b) }

    pub pending_good_v : (j : ℕ) → v.acked ≤ j → j ≤ length (others l w) → Good l w v.taken j
    pending_good_v j a b =
        record { own_le = at.v_taken; oth_le = b; lags = λ k lt. at.lag_le k (le_trans lt b); seens = λ k lt. le_trans (at.v_seen k lt) a }

    -- ---- the client makes an edit
    module _ (laws : Laws 𝓐) (e : 𝓐.Edit) (N : ℕ) (number : N ≡ suc (length (mine l w))) (bears : T (𝓐.by (record { line = l; number = N }) e)) (ok : T (𝓐.fits e doc)) where
      abbrev o : Made 𝓐
      o = record { name = record { line = l; number = N }; edit = e; context = names applied }

      pub made_new : NewOwn l w c.taken o
      made_new =
          record {
            name = λ i. record { line = l; number = number i };
            knows_own = at.applied_own;
            knows_mine = at.applied_mine;
            knows_oth = at.applied_oth;
            seen = omega (arith, length-map applied (λ x. x.name), at.applied_count);
            seen_le = at.c_taken;
            seen_up = at.seen_le;
            bears = bears;
          }

      made_fits : T (𝓐.fits o.edit (doc_at d l w (length (mine l w)) c.taken))
      made_fits = subst (λ x. T (𝓐.fits e x)) at.c_doc ok

      pub made_grows : Grows l w (w ++ (o ∷ []))
      made_grows = row_grows l w c.taken o made_new

      made_edge : OwnEdge d l (w ++ (o ∷ [])) (length (mine l w)) c.taken
      made_edge =
          (row_grid laws d l w c.taken o made_new at.grid client_good made_fits).own_edge (length (mine l w)) c.taken
          (record {
            own_le = made_grows.more_own;
            oth_le = le_trans at.c_taken made_grows.more_oth;
            lags = λ k lt. subst (λ x. x ≤ length (mine l w)) (sym (made_grows.lag_same k (le_trans lt at.c_taken))) (L.lag_le (is_by l) blank w k);
            seens = λ k lt. subst (λ x. seen_of x ≤ c.taken) (sym (made_grows.own_same k lt)) (at.seen_le k lt);
          }) (omega (arith, row_made l w c.taken o made_new))
          (subst (λ x. x ≤ c.taken) (sym (ap seen_of (row_new l w c.taken o made_new) ∙ made_new.seen)) (le_refl _))

      pub made_fresh : holds (names applied) o.name ≡ false
      made_fresh =
          is_false _ (λ h. let x : N ≤ length (mine l w) = at.applied_mine N h in absurd (omega arith))

      differs : (j : ℕ) → j < length (others l w) → same (oth l w j).name o.name ≡ false
      differs j h = same_differ (oth l w j).name o.name (λ q. oth_line l w j h (sym (ap (λ x. x.line) q)))

      pub line_edit : LineAt l (w ++ (o ∷ [])) served (applied ++ (o ∷ [])) (keeps e c) v (𝓐.apply e doc)
      line_edit =
          record {
            grid = row_grid laws d l w c.taken o made_new at.grid client_good made_fits;
            c_made = ap suc at.c_made ∙ sym (row_made l w c.taken o made_new);
            v_made = at.v_made ∙ sym (row_others l w c.taken o made_new);
            v_taken = le_trans at.v_taken made_grows.more_own;
            c_taken = le_trans at.c_taken made_grows.more_oth;
            c_acked = at.c_acked;
            v_acked = at.v_acked;
            served_at = ap (point l (w ++ (o ∷ [])) v.taken) (row_others l w c.taken o made_new) ∙ made_grows.point_same _ _ at.v_taken (le_refl _) ∙ at.served_at;
            lag_le = λ k h. let h' : k < length (others l w) = subst (λ n. k < n) (row_others l w c.taken o made_new) h in
                subst (λ x. x ≤ v.taken) (sym (made_grows.lag_same k h')) (at.lag_le k h');
            seen_le = row_own_cases l w c.taken o made_new (λ i x. seen_of x ≤ c.taken) at.seen_le (subst (λ x. x ≤ c.taken) (sym made_new.seen) (le_refl _));
            c_lag = λ k lt. subst (λ x. x ≤ c.acked) (sym (made_grows.lag_same k (le_trans lt at.c_taken))) (at.c_lag k lt);
            v_seen = λ k lt. subst (λ x. seen_of x ≤ v.acked) (sym (made_grows.own_same k (le_trans lt at.v_taken))) (at.v_seen k lt);
            applied_own = row_own_cases l w c.taken o made_new (λ i x. holds (names (applied ++ (o ∷ []))) x.name ≡ true)
                (λ i h. holds_more applied o (own l w i).name (at.applied_own i h)) (holds_last applied o);
            applied_oth = row_oth_cases l w c.taken o made_new (λ j x. holds (names (applied ++ (o ∷ []))) x.name ≡ ltb j c.taken)
                (λ j h. holds_snoc applied o (oth l w j).name ∙ ap (λ b. holds (names applied) (oth l w j).name || b) (differs j h) ∙ or_false (holds (names applied) (oth l w j).name) ∙ at.applied_oth j h);
            applied_mine = λ x h. mine_bound x (holds_split applied o (record { line = l; number = x }) h);
            applied_count = omega (arith, length-append applied (o ∷ []), at.applied_count, row_made l w c.taken o made_new);
            c_pending = pending';
            v_pending = at.v_pending
                ∙ segment_cong (λ j. oth_form l w v.taken j) (λ j. oth_form l (w ++ (o ∷ [])) v.taken j) v.acked (length (others l w))
                (λ k a b. sym (oth_form_same l w (w ++ (o ∷ [])) made_grows v.taken k at.v_taken b))
                ∙ ap (segment (λ j. oth_form l (w ++ (o ∷ [])) v.taken j) v.acked) (sym (row_others l w c.taken o made_new));
            c_doc = doc';
            shown = shown';
          }
        where
          mine_bound : (x : ℕ) → (holds (names applied) (record { line = l; number = x }) ≡ true) ⊎ (◌≡◌ {A = Name} (record { line = l; number = x }) o.name)
              → x ≤ length (mine l (w ++ (o ∷ [])))
          mine_bound x (inl h) = le_trans (at.applied_mine x h) made_grows.more_own
          mine_bound x (inr q) = let r : x ≡ N = ap (λ y. y.number) q in omega (arith, row_made l w c.taken o made_new)

          pending' : c.pending ++ (e ∷ []) ≡ segment (λ i. own_form l (w ++ (o ∷ [])) i c.taken) c.acked (length (mine l (w ++ (o ∷ []))))
          pending' =
              ap (λ r. r ++ (e ∷ [])) (at.c_pending
              ∙ segment_cong (λ i. own_form l w i c.taken) (λ i. own_form l (w ++ (o ∷ [])) i c.taken) c.acked (length (mine l w))
              (λ k a b. sym (own_form_same l w (w ++ (o ∷ [])) made_grows k c.taken b at.c_taken)))
              ∙ ap (λ x. segment (λ i. own_form l (w ++ (o ∷ [])) i c.taken) c.acked (length (mine l w)) ++ (x ∷ [])) (sym (row_form l w c.taken o made_new))
              ∙ segment_snoc (λ i. own_form l (w ++ (o ∷ [])) i c.taken) c.acked (length (mine l w)) (le_trans at.c_acked at.v_taken)
              ∙ ap (segment (λ i. own_form l (w ++ (o ∷ [])) i c.taken) c.acked) (sym (row_made l w c.taken o made_new))

          doc' : 𝓐.apply e doc ≡ doc_at d l (w ++ (o ∷ [])) (length (mine l (w ++ (o ∷ [])))) c.taken
          doc' =
              sym (ap (λ x. doc_at d l (w ++ (o ∷ [])) x c.taken) (row_made l w c.taken o made_new) ∙ made_edge.gives
              ∙ ap (λ x. 𝓐.apply x (doc_at d l (w ++ (o ∷ [])) (length (mine l w)) c.taken)) (row_form l w c.taken o made_new)
              ∙ ap (λ C. 𝓐.apply e (list_at d C)) (made_grows.point_same _ _ (le_refl _) at.c_taken) ∙ ap (𝓐.apply e) (sym at.c_doc))

          shown' : replay (w ++ (o ∷ [])) [] (applied ++ (o ∷ [])) d ≡ 𝓐.apply e doc
          shown' =
              replay_snoc (w ++ (o ∷ [])) [] applied o d
              ∙ ap (λ C. 𝓐.apply (form o C) (replay (w ++ (o ∷ [])) [] applied d)) (in_order_insert w o [] applied made_fresh ∙ ap (λ r. in_order r applied) (append-nil w) ∙ set_is)
              ∙ ap (λ x. 𝓐.apply x (replay (w ++ (o ∷ [])) [] applied d)) (new_form l w c.taken o made_new)
              ∙ ap (𝓐.apply e) (replay_insert w o [] [] applied d made_fresh ∙ ap (λ r. replay r [] applied d) (append-nil w) ∙ at.shown)

    -- ---- sending
    pub send_up : (k : ℕ) → c.acked < k → k ≤ c.made → UpOk l w c.taken (record { number = k; seen = c.taken; edit = get_or c.pending (k - suc c.acked) 𝓐.nothing })
    send_up zero a b = absurd (not-suc-le-zero a)
    send_up (suc k) a b =
        let km : k < length (mine l w) = subst (λ n. suc k ≤ n) at.c_made b in
        record {
          index = k;
          number = refl;
          made = km;
          seen_made = at.seen_le k km;
          seen_le = le_refl _;
          edit = row_sent c (λ i. own_form l w i c.taken) (length (mine l w)) at.c_pending k (le_of_suc-le-suc a) km;
        }

    pub send_down : (k : ℕ) → v.acked < k → k ≤ v.made → DownOk l w v.taken (record { number = k; seen = v.taken; edit = get_or v.pending (k - suc v.acked) 𝓐.nothing })
    send_down zero a b = absurd (not-suc-le-zero a)
    send_down (suc k) a b =
        let kn : k < length (others l w) = subst (λ n. suc k ≤ n) at.v_made b in
        record {
          index = k;
          number = refl;
          made = kn;
          lags = λ j lt. at.lag_le j (le_trans lt kn);
          seen_le = le_refl _;
          edit = row_sent v (λ j. oth_form l w v.taken j) (length (others l w)) at.v_pending k (le_of_suc-le-suc a) kn;
        }

    -- ---- acknowledgements
    pub unacked_c : (s : ℕ) → c.acked ≤ s → s ≤ length (mine l w) → unacked c s ≡ segment (λ i. own_form l w i c.taken) s (length (mine l w))
    unacked_c = row_unacked c (λ i. own_form l w i c.taken) (length (mine l w)) at.c_pending

    pub unacked_v : (s : ℕ) → v.acked ≤ s → s ≤ length (others l w) → unacked v s ≡ segment (λ j. oth_form l w v.taken j) s (length (others l w))
    unacked_v = row_unacked v (λ j. oth_form l w v.taken j) (length (others l w)) at.v_pending

    -- the client hears s and the server t
    line_acks : (s t : ℕ) → c.acked ≤ s → s ≤ v.taken → v.acked ≤ t → t ≤ c.taken → LineAt l w served applied (acks s c) (acks t v) doc
    line_acks s t cs sv vt tc =
        record {
          grid = at.grid;
          c_made = at.c_made;
          v_made = at.v_made;
          v_taken = at.v_taken;
          c_taken = at.c_taken;
          c_acked = sv;
          v_acked = tc;
          served_at = at.served_at;
          lag_le = at.lag_le;
          seen_le = at.seen_le;
          c_lag = λ k lt. le_trans (at.c_lag k lt) cs;
          v_seen = λ k lt. le_trans (at.v_seen k lt) vt;
          applied_own = at.applied_own;
          applied_oth = at.applied_oth;
          applied_mine = at.applied_mine;
          applied_count = at.applied_count;
          c_pending = unacked_c s cs (le_trans sv at.v_taken);
          v_pending = unacked_v t vt (le_trans tc at.c_taken);
          c_doc = at.c_doc;
          shown = at.shown;
        }

    -- one end hears, and the other nothing new
    pub line_ack_up : (s : ℕ) → v.acked ≤ s → s ≤ c.taken → LineAt l w served applied c (acks s v) doc
    line_ack_up s a b = subst (λ r. LineAt l w served applied r (acks s v) doc) (acks_again c) (line_acks c.acked s (le_refl _) at.c_acked a b)

    pub line_ack_down : (s : ℕ) → c.acked ≤ s → s ≤ v.taken → LineAt l w served applied (acks s c) v doc
    line_ack_down s a b = subst (λ r. LineAt l w served applied (acks s c) r doc) (acks_again v) (line_acks s v.acked a b (le_refl _) at.v_acked)

    -- ---- the server takes the client's next edit
    module _ (x : EditMessage 𝓐) (ok : UpOk l w c.taken x) (next : x.number ≡ suc v.taken) (cur : v.acked ≤ x.seen) where
      up_index : ok.index ≡ v.taken
      up_index = omega (arith, ok.number)

      pub up_made : v.taken < length (mine l w)
      up_made = subst (λ n. n < length (mine l w)) up_index ok.made

      up_seen : seen_of (own l w v.taken) ≤ x.seen
      up_seen = subst (λ n. seen_of (own l w n) ≤ x.seen) up_index ok.seen_made

      up_edit : x.edit ≡ own_form l w v.taken x.seen
      up_edit = ok.edit ∙ ap (λ n. own_form l w n x.seen) up_index

      up_le : x.seen ≤ length (others l w)
      up_le = le_trans ok.seen_le at.c_taken

      up_own_cell : (j : ℕ) → x.seen ≤ j → j < length (others l w) → own_form l w v.taken (suc j) ≡ 𝓐.transform (own_form l w v.taken j) (oth_form l w v.taken j)
      up_own_cell j a b =
          own_cell l w v.taken j b (λ k lt _. at.grid.contexts.ctx_own v.taken k up_made lt)
          (at.grid.contexts.ctx_oth v.taken j up_made b ∙ ltb_false _ _ (le_trans up_seen a))

      up_oth_cell : (j : ℕ) → x.seen ≤ j → j < length (others l w) → oth_form l w (suc v.taken) j ≡ 𝓐.transform (oth_form l w v.taken j) (own_form l w v.taken j)
      up_oth_cell j a b =
          oth_cell l w v.taken j up_made (λ k lt. at.lag_le k (omega arith)) (oth_out l w at.grid.contexts v.taken j up_made b (at.lag_le j b))

      -- it arrives in its form at what the server has applied
      pub up_arrives : arrived x v ≡ own_form l w v.taken (length (others l w))
      up_arrives =
          ap (λ e. past 𝓐 e (unacked v x.seen)) up_edit ∙ ap (past 𝓐 (own_form l w v.taken x.seen)) (unacked_v x.seen cur up_le)
          ∙ past_segment 𝓐 (λ j. own_form l w v.taken j) (λ j. oth_form l w v.taken j) (λ j. oth_form l w (suc v.taken) j) x.seen (length (others l w)) up_le up_own_cell

      pub up_form : arrived x v ≡ form (own l w v.taken) served
      up_form = up_arrives ∙ ap (form (own l w v.taken)) at.served_at

      pub up_edge : OwnEdge d l w v.taken (length (others l w))
      up_edge = at.grid.own_edge v.taken (length (others l w)) server_good up_made (at.grid.contexts.seen_le v.taken up_made)

      pub line_up : LineAt l w (served ++ (own l w v.taken ∷ [])) applied c (takes x v) doc
      line_up =
          record {
            grid = at.grid;
            c_made = at.c_made;
            v_made = at.v_made;
            v_taken = up_made;
            c_taken = at.c_taken;
            c_acked = le_trans at.c_acked (omega arith);
            v_acked = ok.seen_le;
            served_at = L.firsts_snoc (is_by l) blank w v.taken (length (others l w)) up_made at.lag_le ∙ ap (λ r. r ++ (own l w v.taken ∷ [])) at.served_at;
            lag_le = λ k h. le_trans (at.lag_le k h) (omega arith);
            seen_le = at.seen_le;
            c_lag = at.c_lag;
            v_seen = λ k lt. seen_case k (below_suc k v.taken lt);
            applied_own = at.applied_own;
            applied_oth = at.applied_oth;
            applied_mine = at.applied_mine;
            applied_count = at.applied_count;
            c_pending = at.c_pending;
            v_pending = ap (λ e. over 𝓐 e (unacked v x.seen)) up_edit ∙ ap (over 𝓐 (own_form l w v.taken x.seen)) (unacked_v x.seen cur up_le)
                ∙ over_segment 𝓐 (λ j. own_form l w v.taken j) (λ j. oth_form l w v.taken j) (λ j. oth_form l w (suc v.taken) j) x.seen (length (others l w)) up_le up_own_cell up_oth_cell;
            c_doc = at.c_doc;
            shown = at.shown;
          }
        where
          seen_case : (k : ℕ) → (k < v.taken) ⊎ (k ≡ v.taken) → seen_of (own l w k) ≤ x.seen
          seen_case k (inl lt) = le_trans (at.v_seen k lt) cur
          seen_case k (inr e) = subst (λ n. seen_of (own l w n) ≤ x.seen) (sym e) up_seen

    -- ---- the client takes its next edit
    module _ (x : EditMessage 𝓐) (ok : DownOk l w v.taken x) (next : x.number ≡ suc c.taken) (cur : c.acked ≤ x.seen) where
      down_index : ok.index ≡ c.taken
      down_index = omega (arith, ok.number)

      pub down_made : c.taken < length (others l w)
      down_made = subst (λ n. n < length (others l w)) down_index ok.made

      down_lags : (k : ℕ) → k < suc c.taken → lag_of l w k ≤ x.seen
      down_lags k lt = ok.lags k (subst (λ n. k < suc n) (sym down_index) lt)

      down_edit : x.edit ≡ oth_form l w x.seen c.taken
      down_edit = ok.edit ∙ ap (oth_form l w x.seen) down_index

      down_le : x.seen ≤ length (mine l w)
      down_le = le_trans ok.seen_le at.v_taken

      down_own_cell : (i : ℕ) → x.seen ≤ i → i < length (mine l w) → own_form l w i (suc c.taken) ≡ 𝓐.transform (own_form l w i c.taken) (oth_form l w i c.taken)
      down_own_cell i a b =
          own_cell l w i c.taken down_made (λ k lt _. at.grid.contexts.ctx_own i k b lt)
          (at.grid.contexts.ctx_oth i c.taken b down_made ∙ ltb_false _ _ (at.seen_le i b))

      down_oth_cell : (i : ℕ) → x.seen ≤ i → i < length (mine l w) → oth_form l w (suc i) c.taken ≡ 𝓐.transform (oth_form l w i c.taken) (own_form l w i c.taken)
      down_oth_cell i a b =
          oth_cell l w i c.taken b (λ k lt. le_trans (down_lags k (omega arith)) a)
          (oth_out l w at.grid.contexts i c.taken b down_made (le_trans (down_lags c.taken (le_refl _)) a))

      pub down_arrives : arrived x c ≡ oth_form l w (length (mine l w)) c.taken
      down_arrives =
          ap (λ e. past 𝓐 e (unacked c x.seen)) down_edit ∙ ap (past 𝓐 (oth_form l w x.seen c.taken)) (unacked_c x.seen cur down_le)
          ∙ past_segment 𝓐 (λ i. oth_form l w i c.taken) (λ i. own_form l w i c.taken) (λ i. own_form l w i (suc c.taken)) x.seen (length (mine l w)) down_le down_oth_cell

      pub down_edge : OthEdge d l w (length (mine l w)) c.taken
      down_edge = at.grid.oth_edge (length (mine l w)) c.taken client_good down_made (L.lag_le (is_by l) blank w c.taken)

      pub line_down : LineAt l w served (applied ++ (oth l w c.taken ∷ [])) (takes x c) v (𝓐.apply (arrived x c) doc)
      line_down =
          record {
            grid = at.grid;
            c_made = at.c_made;
            v_made = at.v_made;
            v_taken = at.v_taken;
            c_taken = down_made;
            c_acked = ok.seen_le;
            v_acked = le_trans at.v_acked (omega arith);
            served_at = at.served_at;
            lag_le = at.lag_le;
            seen_le = λ i h. le_trans (at.seen_le i h) (omega arith);
            c_lag = down_lags;
            v_seen = at.v_seen;
            applied_own = λ i h. holds_more applied (oth l w c.taken) (own l w i).name (at.applied_own i h);
            applied_oth = held_next (oth l w) (length (others l w)) at.grid.contexts.oth_inj applied c.taken down_made at.applied_oth;
            applied_mine = λ y h. mine_bound y (holds_split applied (oth l w c.taken) (record { line = l; number = y }) h);
            applied_count = omega (arith, length-append applied (oth l w c.taken ∷ []), at.applied_count);
            c_pending = ap (λ e. over 𝓐 e (unacked c x.seen)) down_edit ∙ ap (over 𝓐 (oth_form l w x.seen c.taken)) (unacked_c x.seen cur down_le)
                ∙ over_segment 𝓐 (λ i. oth_form l w i c.taken) (λ i. own_form l w i c.taken) (λ i. own_form l w i (suc c.taken)) x.seen (length (mine l w)) down_le down_oth_cell down_own_cell;
            v_pending = at.v_pending;
            c_doc = ap (𝓐.apply (arrived x c)) at.c_doc ∙ ap (λ e. 𝓐.apply e (doc_at d l w (length (mine l w)) c.taken)) down_arrives ∙ sym down_edge.gives;
            shown = replay_snoc w [] applied (oth l w c.taken) d ∙ ap (λ C. 𝓐.apply (form (oth l w c.taken) C) (replay w [] applied d)) set_is
                ∙ ap (λ e. 𝓐.apply e (replay w [] applied d)) (sym down_arrives) ∙ ap (𝓐.apply (arrived x c)) at.shown;
          }
        where
          mine_bound : (y : ℕ) → (holds (names applied) (record { line = l; number = y }) ≡ true) ⊎ (◌≡◌ {A = Name} (record { line = l; number = y }) (oth l w c.taken).name)
              → y ≤ length (mine l w)
          mine_bound y (inl h) = at.applied_mine y h
          mine_bound y (inr q) = absurd (oth_line l w c.taken down_made (ap (λ z. z.line) q))

  -- ---- the server takes another line's edit
  module _ (laws : Laws 𝓐) (l : ℕ) (xs ys applied : List (Made 𝓐)) (c v : End 𝓐) (doc : 𝓐.Doc) (at : LineAt l (xs ++ ys) xs applied c v doc)
      (g : Made 𝓐) (new : NewOth l xs ys g) (va : v.taken ≡ length (mine l xs)) (ok : T (𝓐.fits (form g xs) (list_at d xs)))
      (unapplied : holds (names applied) g.name ≡ false) where
    abbrev grew : Grows l (xs ++ ys) (xs ++ g ∷ ys)
    grew = col_grows l xs ys g new

    pub line_other : LineAt l (xs ++ g ∷ ys) (xs ++ (g ∷ [])) applied c (keeps (form g xs) v) doc
    line_other =
        record {
          grid = col_grid laws d l xs ys g new at.grid ok;
          c_made = at.c_made ∙ sym (col_made l xs ys g new);
          v_made = ap suc at.v_made ∙ sym (col_others l xs ys g new);
          v_taken = le_trans at.v_taken grew.more_own;
          c_taken = le_trans at.c_taken grew.more_oth;
          c_acked = at.c_acked;
          v_acked = at.v_acked;
          served_at = ap (λ n. point l (xs ++ g ∷ ys) n (length (others l (xs ++ g ∷ ys)))) va
              ∙ ap (point l (xs ++ g ∷ ys) (length (mine l xs))) (col_others l xs ys g new) ∙ col_next laws d l xs ys g new at.grid ok;
          lag_le = λ k h. subst (λ n. lag_of l (xs ++ g ∷ ys) k ≤ n) (sym va) (col_lags laws d l xs ys g new at.grid ok k (subst (λ n. k < n) (col_others l xs ys g new) h));
          seen_le = col_own_cases l xs ys g new (λ i e. seen_of e ≤ c.taken) at.seen_le;
          c_lag = λ k lt. subst (λ n. n ≤ c.acked) (sym (grew.lag_same k (le_trans lt at.c_taken))) (at.c_lag k lt);
          v_seen = λ k lt. subst (λ e. seen_of e ≤ v.acked) (sym (grew.own_same k (le_trans lt at.v_taken))) (at.v_seen k lt);
          applied_own = col_own_cases l xs ys g new (λ i e. holds (names applied) e.name ≡ true) at.applied_own;
          applied_oth = col_oth_cases l xs ys g new (λ j e. holds (names applied) e.name ≡ ltb j c.taken) at.applied_oth
              (unapplied ∙ sym (ltb_false _ _ at.c_taken));
          applied_mine = λ x h. le_trans (at.applied_mine x h) grew.more_own;
          applied_count = omega (arith, at.applied_count, col_made l xs ys g new);
          c_pending = at.c_pending
              ∙ segment_cong (λ i. own_form l (xs ++ ys) i c.taken) (λ i. own_form l (xs ++ g ∷ ys) i c.taken) c.acked (length (mine l (xs ++ ys)))
              (λ k a b. sym (own_form_same l (xs ++ ys) (xs ++ g ∷ ys) grew k c.taken b at.c_taken))
              ∙ ap (segment (λ i. own_form l (xs ++ g ∷ ys) i c.taken) c.acked) (sym (col_made l xs ys g new));
          v_pending = ap (λ r. r ++ (form g xs ∷ [])) (at.v_pending
              ∙ segment_cong (λ j. oth_form l (xs ++ ys) v.taken j) (λ j. oth_form l (xs ++ g ∷ ys) v.taken j) v.acked (length (others l (xs ++ ys)))
              (λ k a b. sym (oth_form_same l (xs ++ ys) (xs ++ g ∷ ys) grew v.taken k at.v_taken b)))
              ∙ ap (λ e. segment (λ j. oth_form l (xs ++ g ∷ ys) v.taken j) v.acked (length (others l (xs ++ ys))) ++ (e ∷ []))
              (sym (ap (λ n. oth_form l (xs ++ g ∷ ys) n (length (others l (xs ++ ys)))) va ∙ col_form laws d l xs ys g new at.grid ok))
              ∙ segment_snoc (λ j. oth_form l (xs ++ g ∷ ys) v.taken j) v.acked (length (others l (xs ++ ys))) (le_trans at.v_acked at.c_taken)
              ∙ ap (segment (λ j. oth_form l (xs ++ g ∷ ys) v.taken j) v.acked) (sym (col_others l xs ys g new));
          c_doc = at.c_doc ∙ ap (list_at d) (sym (grew.point_same _ _ (le_refl _) at.c_taken))
              ∙ ap (λ n. doc_at d l (xs ++ g ∷ ys) n c.taken) (sym (col_made l xs ys g new));
          shown = replay_insert xs g ys [] applied d unapplied ∙ at.shown;
        }
