-- What deciding asks of its parts, and what a decision tells.
use Prim.Native.Nat.{ℕ, ◌≤◌, ◌<◌}
use native.Mathlib.Omega.{arith}
use mathlib.Core.Path.{◌≡◌, refl, ap, sym, ◌∙◌, subst}
use mathlib.Core.Bool.{Bool, true, false, cond}
use mathlib.Core.List.{List}
use lib.ListN.{length, length-map}
use borrow.Author.Tests.{eqb-false}
use Rattle.std.specs.Prelude.{Ok}
use Rattle.limits.specs.Limits.{max_items, max_lines, max_pending}
use Rattle.ot.specs.Form.{position_of}
use Rattle.ot.specs.Edit.{Edit, edit, item_of}
use Rattle.list.specs.Items.{Room}
use Rattle.model.specs.Questions.{asks}
use Rattle.model.specs.Line as line
use Rattle.model.proofs.Tests.{yes_all}
use Rattle.model.proofs.SoundServer.{inserts_one}
use Rattle.pending.specs.Slots.{all_from}
use Rattle.line.specs.declared.Line.{Line}
use Rattle.line.specs.Line.{Kept}
use Rattle.line.proofs.Parts.{then_left, then_right}
use Rattle.line.specs.declared.taking.Arrival.{Arrival}
use Rattle.line.specs.declared.taking.Decision.{Decision}
use Rattle.line.specs.Taking.{edit_of, refusal_of, line_then, done, Later, Between, zeros}
use Rattle.line.proofs.Asked.{refusal_seen}
use Rattle.line.proofs.Staying.{left_length}
use Rattle.line.proofs.Decisions.{refusal_room, later_length}
use Rattle.server.specs.declared.Counts.{Counts}
use Rattle.server.specs.View.{slots_at, counts_at, line_at, server_of, Sound}
use Rattle.server.specs.Decides.{up_to, roomy_at, last_asked, place_of, inserts_then, last_refusal, refusal_at, Decided}
use Rattle.server.proofs.Facts.{lines_few, len_few, at_facts}
use Rattle.server.proofs.Asked.{up_line}

-- ---- what the parts ask

module _ (k : Counts) (words : List ℕ) (a : Arrival) (h : Sound (server_of k words)) (u : up_to k a ≡ true) where
  pub place_used : place_of a < k.n
  place_used = let l = up_line k a u in omega arith

  pub place_below : place_of a < max_lines
  place_below = omega (arith, place_used, lines_few k words h)

  pub inserts_fit : inserts_then k a ≤ 65535
  inserts_fit = omega (arith, inserts_one (edit_of a), (at_facts k words h (place_of a) place_used).line.inserts)

  pub last_ready : ((place_of a < max_lines) × (1 ≤ a.line)) × ((inserts_then k a ≤ 65535) × (k.n ≤ max_lines))
  last_ready = ((place_below, (up_line k a u).0), (inserts_fit, lines_few k words h))

  -- what questions 5 to 9 ask, of what was read of the line
  pub line_ready : (v : Line) (slots later : List ℕ) → v ≡ counts_at k (place_of a) → slots ≡ slots_at (place_of a) words
      → position_of a.form ≤ max_items → later ≡ zeros
      → ((position_of a.form ≤ max_items) × (v.taken < 65535)) × (Kept v slots × (later ≡ zeros))
  line_ready v slots later ev es p z = (
    (p, omega (arith, ap (λ (w : Line). w.taken) ev, (at_facts k words h (place_of a) place_used).line.edits)),
    (subst (λ (w : Line). Kept w slots) (sym ev) (subst (Kept (counts_at k (place_of a))) (sym es) (h.kept (place_of a) place_below)), z),
  )

-- ---- what the decision tells

-- it refuses nothing: what the steps that write ask, and what they write
pub record Accepted (k : Counts) (words : List ℕ) (a : Arrival) (d : Decision) (later : List ℕ) : Type 0 where
  pub up : up_to k a ≡ true
  pub used : place_of a < k.n
  pub below : place_of a < max_lines
  pub seen : Between (counts_at k (place_of a)) a.seen
  pub room : Room (edit d.form a.item) k.len max_items
  pub roomy : a.carries ≡ true → all_from (roomy_at k (place_of a)) 0 k.n ≡ true
  pub answer : d ≡ done (line_at k words (place_of a)) (inserts_then k a) a
  pub stay : Later (counts_at k (place_of a)) a.seen (slots_at (place_of a) words) later (line_then (line_at k words (place_of a)) (inserts_then k a) a).pending
  pub places : length later ≡ max_pending
  pub few : length (line_then (line_at k words (place_of a)) (inserts_then k a) a).pending ≤ max_pending

module _ (k : Counts) (words : List ℕ) (a : Arrival) (d : Decision) (later : List ℕ) (r : Decided k words a (Ok d) later) where
  abbrev v : Line
  v = counts_at k (place_of a)

  abbrev w : line.Line
  w = line_at k words (place_of a)

  module _ (h : Sound (server_of k words)) where
    comes : up_to k a ≡ true
    comes = go (up_to k a) refl r.refusal
      where
        go : (b : Bool) → up_to k a ≡ b → 0 ≡ cond b (refusal_at k words a) 4 → up_to k a ≡ true
        go true u y = u
        go false u y = absurd (omega (arith, y))

    asked : refusal_at k words a ≡ 0
    asked = ap (λ (b : Bool). cond b (refusal_at k words a) 4) (sym comes) ∙ sym r.refusal

    first_asked : refusal_of v w k.len a ≡ 0
    first_asked = then_left (refusal_of v w k.len a) (last_refusal k a) asked

    seen : Between (counts_at k (place_of a)) a.seen
    seen = refusal_seen v w k.len a first_asked

    -- question 12
    others_roomy_lem : a.carries ≡ true → all_from (roomy_at k (place_of a)) 0 k.n ≡ true
    others_roomy_lem c =
        let y : asks (last_asked k (place_of a) (inserts_then k a)) ≡ 0 =
        ap (λ (b : Bool). cond b (asks (last_asked k (place_of a) (inserts_then k a))) 0) (sym c)
        ∙ then_right (refusal_of v w k.len a) (last_refusal k a) asked in
        (yes_all (last_asked k (place_of a) (inserts_then k a)) (eqb-false 10 0 refl, (eqb-false 12 0 refl, tt)) y).1.0

    few_left : length (line_then (line_at k words (place_of a)) (inserts_then k a) a).pending ≤ max_pending
    few_left =
        let then_pending : List Edit = (line_then w (inserts_then k a) a).pending in
        let kept = h.kept (place_of a) (place_below k words a h comes) in
        let same : length then_pending ≡ length (line.unacked w a.seen) =
        sym (length-map then_pending item_of) ∙ ap length (r.stay d refl).items ∙ length-map (line.unacked w a.seen) item_of in
        omega (arith, same, left_length v (slots_at (place_of a) words) kept a.seen seen, kept.few, seen)

    pub accepts : Accepted k words a d later
    accepts =
        record {
          up = comes;
          used = place_used k words a h comes;
          below = place_below k words a h comes;
          seen = seen;
          room =
              subst (λ (x : Decision). Room (edit x.form a.item) k.len max_items) (sym (r.done d refl))
              (refusal_room v w k.len a first_asked (len_few k words h));
          roomy = others_roomy_lem;
          answer = r.done d refl;
          stay = r.stay d refl;
          places =
              later_length v (slots_at (place_of a) words) a.seen later (line_then w (inserts_then k a) a).pending
              (h.kept (place_of a) (place_below k words a h comes)) seen (r.stay d refl);
          few = few_left;
        }
