-- No list of a sheet is longer than 512 items, and no pending edit stands past it: 128 at opening and 48 inserts of each of 8 clients.
use mathlib.Core.Path.{◌≡◌, refl, ap, sym, ◌∙◌, subst}
use mathlib.Core.Bool.{Bool, true, false}
use mathlib.Core.List.{List, [], ◌∷◌, ◌++◌, append-nil}
use Prim.Native.Nat.{ℕ, suc, ◌+◌, ◌-◌, ◌≤◌, ◌<◌}
use native.Mathlib.Omega.{arith}
use lib.Dec.{eqb}
use lib.ListN.{length, get_or, length-map, get_or-map}
use borrow.Author.Tests.{eqb-true, eqb-false, ne_eqb}
use Rattle.ot.specs.Edit.{Edit, Nothing, fits}
use Rattle.list.specs.Places.{Place, place_of}
use Rattle.jupiter.specs.Algebra.{Algebra, Laws}
use Rattle.jupiter.specs.Made.{Made, select, is_by, mine, others}
use Rattle.jupiter.specs.Point.{blank, point, own_form, oth_form}
use Rattle.jupiter.specs.History.{History, order}
use Rattle.jupiter.specs.Ends as ends
use Rattle.jupiter.specs.Claims.{inserts}
use Rattle.jupiter.proofs.Lists as L
use Rattle.jupiter.proofs.Lists.{All, all_append, all_map}
use Rattle.jupiter.proofs.Segment.{segment, segment_length, segment_get}
use Rattle.jupiter.proofs.Grid.{Edge, doc_at}
use Rattle.jupiter.proofs.Line.{LineAt, pending_good_c, pending_good_v}
use Rattle.jupiter.proofs.World.{mine_served}
use Rattle.jupiter.proofs.Size.{size_bound, inserts_append, inserts_point, inserts_total, sum_to_bound}
use Rattle.model.specs.Limits.{max_inserts, max_lines}
use Rattle.model.specs.Cross.{placed, all_placed}
use Rattle.model.specs.Edits.{Named, no_origin, Rule, edits_by, edits}
use Rattle.model.specs.Run.{State}
use Rattle.model.specs.Ours.{ours}
use Rattle.model.proofs.Tests.{both}
use Rattle.model.proofs.Cross.{fits_placed}
use Rattle.model.proofs.Instance.{from_T, edits_of}
use Rattle.model.proofs.SoundClient.{client_facts}
use Rattle.model.proofs.SoundServer.{server_facts, line_fact}
use Rattle.model.proofs.Sim.{client_from, server_from, line_from_lem, OfLines, Moment, Sim}

-- of edits that are all line l's, none is another line's
mine_none : {𝓐 : Algebra} (l k : ℕ) → eqb l k ≡ false → (ys : List (Made 𝓐)) → All (λ y. is_by l y ≡ true) ys → mine k ys ≡ []
unfolding select
mine_none l k d [] a = refl
mine_none l k d (y ∷ ys) a = rw (ne_eqb k y.name.line (λ e. eqb-false l k d (eqb-true l y.name.line a.0 ∙ sym e))) (mine_none l k d ys a.1)

module _ (n : ℕ) (items : List Place) {ranks : List ℕ} {from : Moment ranks} (s : State ours ranks) (sim : Sim n items from s) (few : length items ≤ 128) where
  abbrev h : History (edits ranks)
  h = s.recorded.history

  pub lines_most : n ≤ max_lines
  lines_most = (server_facts (server_from n (length items) ranks sim.E.doc sim.E.lines sim.si) sim.server_sound).n.1

  server_most : (j : ℕ) → 1 ≤ j → j ≤ n → sim.si j ≤ max_inserts
  server_most j a b =
      let S = server_from n (length items) ranks sim.E.doc sim.E.lines sim.si in
      omega (arith, (line_fact S (server_facts S sim.server_sound) j a b).line.inserts, ap (λ v. v.inserts) (line_from_lem n (length items) ranks sim.E.doc sim.E.lines sim.si j a b))

  pub client_most : (l : ℕ) → 1 ≤ l → l ≤ n → sim.ci l ≤ max_inserts
  client_most l a b = (client_facts (client_from n l ranks (sim.E.clients l) (sim.E.docs l) (sim.ci l) (sim.bk l)) (sim.client_sound l a b)).own.inserts

  -- a client counts what the server counts of it and what the server has not taken
  pub client_more : (l : ℕ) → sim.ci l ≡ sim.si l + inserts (h.untaken l)
  client_more l =
      omega (arith, sim.ci_is l, sim.si_is l, ap inserts (mine_served l h.served (h.untaken l) (sim.inv.lines l).untaken_own), inserts_append (mine l h.served) (h.untaken l))

  -- all inserts that line l can know of: at most 48 of each line
  pub inserts_most : (l : ℕ) → 1 ≤ l → l ≤ n → inserts (order h l) ≤ 384
  inserts_most l a b =
      let own = (sim.inv.lines l).untaken_own in
      let of_lines : All (OfLines n) (order h l) =
      all_append (OfLines n) h.served (h.untaken l) sim.served_lines
      (all_map (λ y. is_by l y ≡ true) (OfLines n) (h.untaken l) (λ y e. let z : l ≡ y.name.line = eqb-true l y.name.line e in (omega arith, omega arith)) own) in
      omega (arith, lines_most, inserts_total n (order h l) of_lines, sum_to_bound (λ k. inserts (mine k (order h l))) 48 n (λ k c d. each k c d (eqb l k) refl))
    where
      each : (k : ℕ) → 1 ≤ k → k ≤ n → (t : Bool) → eqb l k ≡ t → inserts (mine k (order h l)) ≤ 48
      each k c d true e =
          subst (λ (i : ℕ). inserts (mine i (order h l)) ≤ 48) (eqb-true l k e) (omega (arith, client_most l a b, sim.ci_is l))
      each k c d false e =
          let same : mine k (order h l) ≡ mine k h.served =
          L.select_append (is_by k) blank h.served (h.untaken l) ∙ ap (λ (r : List (Made (edits ranks))). mine k h.served ++ r) (mine_none l k e (h.untaken l) (sim.inv.lines l).untaken_own)
          ∙ append-nil (mine k h.served) in
          omega (arith, ap inserts same, server_most k c d, sim.si_is k)

-- ---- lists at points, and the pending edits there
pub doc_most : {by : Rule} → Laws (edits_by by) → (items : List Place) (w : List (Made (edits_by by))) → length items + inserts w ≤ 512 → (l i j : ℕ) → length (doc_at items l w i j) ≤ 512
doc_most laws items w m l i j = omega (arith, size_bound laws items (point l w i j), inserts_point l w i j)

placed_all : (es : List Edit) → ((i : ℕ) → i < length es → placed (get_or es i Nothing) ≡ true) → all_placed es ≡ true
unfolding all_placed
placed_all [] p = refl
placed_all (e ∷ es) p = both (placed e) (all_placed es) (p 0 (omega arith)) (placed_all es (λ i lt. p (suc i) (omega arith)))

edge_placed : {by : Rule} (e : Named) (d d' : List Place) → Edge (edits_by by) e d d' → length d ≤ 512 → length d' ≤ 512 → placed e.edit ≡ true
edge_placed e d d' g a b = fits_placed (place_of e.origin) e.edit d a (from_T (fits e.edit (length d)) g.fits) (subst (λ (x : List Place). length x ≤ 512) g.gives b)

-- the pending edits, each in the form that f gives its number
module _ (es : List Named) (f : ℕ → Named) (low high : ℕ) (pending : es ≡ segment f low high) where
  abbrev none : Named
  none = record { origin = no_origin; edit = Nothing }

  pending_at_lem : (i : ℕ) → low + i < high → get_or es i none ≡ f (low + i)
  pending_at_lem i lt =
      ap (λ (r : List Named). get_or r i none) pending ∙ ap (λ (j : ℕ). get_or (segment f low high) j none) (omega arith) ∙ segment_get f none low high (low + i) (omega arith) lt

  segment_placed : ((k : ℕ) → low ≤ k → k < high → placed (f k).edit ≡ true) → all_placed (edits_of es) ≡ true
  segment_placed each =
      let len : length (edits_of es) ≡ high - low = length-map es (λ e. e.edit) ∙ ap length pending ∙ segment_length f low high in
      placed_all (edits_of es)
      (λ i lt.
      subst (λ (e : Edit). placed e ≡ true) (sym (get_or-map (λ e. e.edit) es i none ∙ ap (λ (e : Named). e.edit) (pending_at_lem i (omega arith))))
      (each (low + i) (omega arith) (omega arith)))

module _ {by : Rule} (laws : Laws (edits_by by)) (items : List Place) (l : ℕ) (w served applied' : List (Made (edits_by by))) (c v : ends.End (edits_by by)) (doc : List Place) (line : LineAt items l w served applied' c v doc)
    (m : length items + inserts w ≤ 512) where
  pub client_placed : all_placed (edits_of c.pending) ≡ true
  client_placed =
      let f : ℕ → Named = λ i. own_form l w i c.taken in
      segment_placed c.pending f c.acked (length (mine l w)) line.c_pending
      (λ k low km.
      edge_placed (f k) (doc_at items l w k c.taken) (doc_at items l w (suc k) c.taken)
      (line.grid.own_edge k c.taken (pending_good_c items l w served applied' c v doc line k low (omega arith)) km (line.seen_le k km))
      (doc_most laws items w m l k c.taken) (doc_most laws items w m l (suc k) c.taken))

  pub server_placed : all_placed (edits_of v.pending) ≡ true
  server_placed =
      let f : ℕ → Named = λ j. oth_form l w v.taken j in
      segment_placed v.pending f v.acked (length (others l w)) line.v_pending
      (λ k low km.
      edge_placed (f k) (doc_at items l w v.taken k) (doc_at items l w v.taken (suc k))
      (line.grid.oth_edge v.taken k (pending_good_v items l w served applied' c v doc line k low (omega arith)) km (line.lag_le k km))
      (doc_most laws items w m l v.taken k) (doc_most laws items w m l v.taken (suc k)))
