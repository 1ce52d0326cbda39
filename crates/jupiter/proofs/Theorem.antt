-- The theorems: of every list of calls, what `Claims` says.
use Prim.Native.Nat.{ℕ, suc, ◌+◌, ◌-◌, ◌≤◌, ◌<◌, suc-le-suc}
use native.Mathlib.Omega.{arith}
use mathlib.Core.Path.{◌≡◌, refl, sym, ap, ◌∙◌, subst}
use mathlib.Core.Bool.{Bool, true, ◌&&◌}
use mathlib.Core.List.{List, ◌∷◌}
use lib.Dec.{T}
use lib.Seq.{drop-cons}
use lib.ListN.{length, get_or, length-drop}
use Rattle.jupiter.specs.Algebra.{Algebra, Laws}
use Rattle.jupiter.specs.Made.{Made, mine, others}
use Rattle.jupiter.specs.Form.{form, in_order}
use Rattle.jupiter.specs.Point.{point, blank, own, oth, own_form, oth_form}
use Rattle.jupiter.specs.History.{History, order, missing}
use Rattle.jupiter.specs.Ends.{End, EditMessage, Ends, arrived, message}
use Rattle.jupiter.specs.Run.{Message, up, down, up_ack, down_ack, State, initial, run}
use Rattle.jupiter.specs.Claims.{ClosedSet, Written, Delivers, LineClaim, Claim, Who, server, client, set_of, Converges, QuiescentConsistency}
use Rattle.jupiter.proofs.Lists.{all_at}
use Rattle.jupiter.proofs.Segment.{segment_length, segment_get}
use Rattle.jupiter.proofs.Grid.{eqb_same, ltb_true, doc_at}
use Rattle.jupiter.proofs.Line.{LineAt, set_is, down_arrives, up_form, pending_good_c, pending_good_v, unacked_c, unacked_v}
use Rattle.jupiter.proofs.Closure.{served_closed}
use Rattle.jupiter.proofs.World.{others_served, Inv, missing_is, first_missing}
use Rattle.jupiter.proofs.Step.{down_fits, up_fits}
use Rattle.jupiter.proofs.Start.{whole_client, whole_server, whole_up, whole_down, whole_message, whole, unacked_whole, arrived_whole, up_message, down_message}
use Rattle.jupiter.proofs.Opening.{since}
use Rattle.jupiter.proofs.Runs.{leb_true, whole_ends, Fine, Reached, all_get, reached_by}
use Rattle.jupiter.proofs.Meeting.{client_less, server_less, meet, server_doc, untaken_is}

and_true : (a b : Bool) → a ≡ true → b ≡ true → a && b ≡ true
and_true a b e f = rw (e, f) refl

-- ---- one moment
module _ {𝓐 : Algebra} (d : 𝓐.Doc) (start : ℕ → ℕ) (E : Ends 𝓐) (h : History 𝓐) (inv : Inv d (whole start E) h) (l : ℕ) where
  abbrev w : List (Made 𝓐)
  w = order h l

  abbrev s : ℕ
  s = start l

  -- the ends of the line in their own counts, and in counts from the first opening list
  abbrev c : End 𝓐
  c = E.clients l

  abbrev v : End 𝓐
  v = E.lines l

  abbrev c' : End 𝓐
  c' = whole_client s c

  abbrev v' : End 𝓐
  v' = whole_server s v

  abbrev line : LineAt d l w h.served (h.applied l) c' v' (E.docs l)
  line = (inv.lines l).line

  v_acked : v.acked ≤ c.taken
  v_acked = omega (arith, line.v_acked)

  c_taken : c.taken ≤ v.made
  c_taken = omega (arith, line.c_taken, line.v_made)

  -- the other end takes what the sender's present state writes for the next number
  pub next_down : c.taken < v.made → Delivers v c (E.docs l)
  next_down lt =
      let a : v.acked < suc c.taken = suc-le-suc v_acked in
      let ok = down_message d start E h inv l (suc c.taken) a lt in
      record {
        sends = and_true _ _ (ltb_true v.acked (suc c.taken) a) (leb_true (suc c.taken) v.made lt);
        takes = and_true _ _ (eqb_same (suc c.taken))
            (and_true _ _ (leb_true c.acked v.taken line.c_acked) (leb_true v.taken c.made (subst (λ n. v.taken ≤ n) (sym line.c_made) line.v_taken)));
        fits = down_fits d (whole start E) h inv l (whole_down s (message (suc c.taken) v)) ok (omega arith) line.c_acked;
      }

  pub next_up : v.taken < c.made → Delivers c v E.doc
  next_up lt =
      let a : c.acked < suc v.taken = suc-le-suc line.c_acked in
      let ok = up_message d start E h inv l (suc v.taken) a lt in
      record {
        sends = and_true _ _ (ltb_true c.acked (suc v.taken) a) (leb_true (suc v.taken) c.made lt);
        takes = and_true _ _ (eqb_same (suc v.taken)) (and_true _ _ (leb_true v.acked c.taken v_acked) (leb_true c.taken v.made c_taken));
        fits = subst (λ e. T (𝓐.fits e E.doc)) (arrived_whole s (message (suc v.taken) c) v)
            (up_fits d (whole start E) h inv l (whole_up s (message (suc v.taken) c)) ok refl line.v_acked);
      }

  pub equal_lists : c.made ≡ v.taken → c.taken ≡ v.made → E.docs l ≡ E.doc
  equal_lists a b =
      line.c_doc ∙ ap (λ n. doc_at d l w n (s + c.taken)) (sym line.c_made ∙ a) ∙ ap (doc_at d l w v.taken) (ap (λ n. s + n) b ∙ line.v_made)
      ∙ sym (server_doc d (whole start E) h inv l)

  others_is : others l w ≡ others l h.served
  others_is = others_served l h.served (h.untaken l) (inv.lines l).untaken_own

  count_missing : length (missing h l) ≡ v.made - c.taken
  count_missing =
      let n : length (missing h l) ≡ length (others l w) - (s + c.taken) =
      ap length (missing_is d (whole start E) h inv l) ∙ length-drop (s + c.taken) (others l h.served) ∙ ap (λ r. length r - (s + c.taken)) (sym others_is) in
      omega (arith, line.v_made)

  count_untaken : length (h.untaken l) ≡ c.made - v.taken
  count_untaken = ap length (untaken_is d (whole start E) h inv l) ∙ length-drop v.taken (mine l w) ∙ ap (λ n. n - v.taken) (sym line.c_made)

  pub arrives_down : (e : Made 𝓐) (es : List (Made 𝓐)) → missing h l ≡ e ∷ es → arrived (message (suc c.taken) v) c ≡ form e (in_order w (h.applied l))
  arrives_down e es q =
      let lt : suc c.taken ≤ v.made = omega (arith, ap length q, count_missing) in
      let x : EditMessage 𝓐 = whole_down s (message (suc c.taken) v) in
      let ok = down_message d start E h inv l (suc c.taken) (suc-le-suc v_acked) lt in
      let next : x.number ≡ suc (s + c.taken) = omega arith in
      let is : oth l w (s + c.taken) ≡ e = ap (λ r. get_or r 0 blank) (sym (first_missing d (whole start E) h inv l x ok next line.c_acked) ∙ q) in
      down_arrives d l w h.served (h.applied l) c' v' (E.docs l) line x ok next line.c_acked
      ∙ ap (λ y. form y (point l w (length (mine l w)) (s + c.taken))) is ∙ ap (form e) (sym (set_is d l w h.served (h.applied l) c' v' (E.docs l) line))

  pub arrives_up : (e : Made 𝓐) (es : List (Made 𝓐)) → h.untaken l ≡ e ∷ es → arrived (message (suc v.taken) c) v ≡ form e h.served
  arrives_up e es q =
      let lt : suc v.taken ≤ c.made = omega (arith, ap length q, count_untaken) in
      let x : EditMessage 𝓐 = whole_up s (message (suc v.taken) c) in
      let ok = up_message d start E h inv l (suc v.taken) (suc-le-suc line.c_acked) lt in
      let im : v.taken < length (mine l w) = omega (arith, line.c_made) in
      let is : own l w v.taken ≡ e =
      ap (λ r. get_or r 0 blank) (sym (untaken_is d (whole start E) h inv l ∙ drop-cons (mine l w) v.taken blank im) ∙ q) in
      sym (arrived_whole s (message (suc v.taken) c) v)
      ∙ up_form d l w h.served (h.applied l) c' v' (E.docs l) line x ok refl line.v_acked ∙ ap (λ y. form y h.served) is

  client_at_lem : (i : ℕ) → c.acked ≤ i → i < c.made → get_or c.pending (i - c.acked) 𝓐.nothing ≡ own_form l w i (s + c.taken)
  client_at_lem i a b =
      ap (λ r. get_or r (i - c.acked) 𝓐.nothing) line.c_pending
      ∙ segment_get (λ i. own_form l w i (s + c.taken)) 𝓐.nothing c.acked (length (mine l w)) i a (subst (λ n. i < n) line.c_made b)

  -- number j + 1 of the line is number s + j + 1 of the others
  server_below : (j : ℕ) → j < v.made → s + j < length (others l w)
  server_below j b = omega (arith, line.v_made)

  server_at_lem : (j : ℕ) → v.acked ≤ j → j < v.made → get_or v.pending (j - v.acked) 𝓐.nothing ≡ oth_form l w v.taken (s + j)
  server_at_lem j a b =
      let place : j - v.acked ≡ s + j - (s + v.acked) = omega arith in
      ap (λ n. get_or v.pending n 𝓐.nothing) place ∙ ap (λ r. get_or r (s + j - (s + v.acked)) 𝓐.nothing) line.v_pending
      ∙ segment_get (λ j. oth_form l w v.taken j) 𝓐.nothing (s + v.acked) (length (others l w)) (s + j) (omega arith) (server_below j b)

  server_count : (n : ℕ) → length (others l w) - (s + n) ≡ v.made - n
  server_count n = omega (arith, line.v_made)

  pub line_claim : LineClaim d h l s c v (E.docs l) E.doc
  line_claim =
      record {
        client_made = line.c_made;
        client_taken_lem = ap (λ n. n + (s + c.taken)) line.c_made ∙ sym line.applied_count;
        server_taken_lem = (inv.lines l).v_count;
        server_made = line.v_made ∙ ap length others_is;
        count_missing = count_missing;
        count_untaken = count_untaken;
        list = sym line.shown;
        client_owes = λ i a b. client_at_lem i a b ∙ ap (form (own l w i)) (sym (client_less d l w h.served (h.applied l) c' v' (E.docs l) line i));
        client_pending = ap length line.c_pending ∙ segment_length (λ i. own_form l w i (s + c.taken)) c.acked (length (mine l w)) ∙ ap (λ n. n - c.acked) (sym line.c_made);
        client_forms = client_at_lem;
        client_fits = λ i a b. let im : i < length (mine l w) = subst (λ n. i < n) line.c_made b in
            (line.grid.own_edge i (s + c.taken) (pending_good_c d l w h.served (h.applied l) c' v' (E.docs l) line i a (omega arith)) im (line.seen_le i im)).fits;
        server_owes = λ j a b. server_at_lem j a b ∙ ap (form (oth l w (s + j))) (sym (server_less d (whole start E) h inv l (s + j)));
        server_pending = ap length line.v_pending ∙ segment_length (λ j. oth_form l w v.taken j) (s + v.acked) (length (others l w)) ∙ server_count v.acked;
        server_forms = server_at_lem;
        server_fits = λ j a b. let jn : s + j < length (others l w) = server_below j b in
            (line.grid.oth_edge v.taken (s + j) (pending_good_v d l w h.served (h.applied l) c' v' (E.docs l) line (s + j) (omega arith) (omega arith)) jn (line.lag_le (s + j) jn)).fits;
        meets = meet d (whole start E) h inv l;
        equal = equal_lists;
        next_down = next_down;
        next_up = next_up;
        arrives_down = arrives_down;
        arrives_up = arrives_up;
        passed_client = λ n a b. ap length (unacked_c d l w h.served (h.applied l) c' v' (E.docs l) line n a (subst (λ m. n ≤ m) line.c_made b))
            ∙ segment_length (λ i. own_form l w i (s + c.taken)) n (length (mine l w)) ∙ ap (λ m. m - n) (sym line.c_made);
        passed_server = λ n a b. ap length (sym (unacked_whole s v n)
            ∙ unacked_v d l w h.served (h.applied l) c' v' (E.docs l) line (s + n) (omega arith) (omega (arith, line.v_made)))
            ∙ segment_length (λ j. oth_form l w v.taken j) (s + n) (length (others l w)) ∙ server_count n;
      }

-- ---- every moment of every run
module _ {𝓐 : Algebra} (d : 𝓐.Doc) where
  written : (start : ℕ → ℕ) (h : History 𝓐) (E : Ends 𝓐) (x : Message 𝓐) → Fine d E h (whole_message start x) → Written start h x
  written start h E (up l m) ok = record { index = ok.index; number = ok.number; known = ok.made; edit = ok.edit }
  written start h E (down l m) ok = record { index = ok.index; number = ok.number; known = ok.made; edit = ok.edit }
  written start h E (up_ack l seen) ok = tt
  written start h E (down_ack l seen) ok = tt

  sets_closed : (s : State 𝓐) → Reached d s → (x : Who) → ClosedSet (set_of x s)
  sets_closed s r server i lt n t = served_closed s.history r.inv.closed i lt n t
  sets_closed s r (client l) i lt n t = all_at _ blank (s.history.applied l) (r.inv.closed.applied_closed l) i lt n t

  pub claim : (s : State 𝓐) → Reached d s → Claim d s
  claim s r =
      record {
        server = r.inv.doc_is;
        server_list_lem = sym r.inv.server_shown;
        closed = sets_closed s r;
        first = λ l. (r.openings l).behind;
        since = λ l. since d s.start s.ends s.history r.inv l (r.openings l) (s.ends.docs l) (r.inv.lines l).line.shown;
        messages = λ i x e. written s.start s.history (whole_ends s) x (all_get d (λ y. Fine d (whole_ends s) s.history (whole_message s.start y)) s.messages i x r.fine e);
        lines = λ l. line_claim d s.start s.ends s.history r.inv l;
      }

-- Demands 2 and 3, with no limit on any count.
pub converges : (𝓐 : Algebra) → Laws 𝓐 → Converges 𝓐
converges 𝓐 laws d cs = claim d (run (initial d) cs) (reached_by d laws cs)

pub quiescent_consistency : (𝓐 : Algebra) → Laws 𝓐 → QuiescentConsistency 𝓐
quiescent_consistency 𝓐 laws d cs l quiet = ((converges 𝓐 laws d cs).lines l).equal quiet.0 quiet.1
