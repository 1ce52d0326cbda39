-- What a call leaves of a sound line is sound.
use mathlib.Core.Path.{◌≡◌, refl, ◌∙◌}
use mathlib.Core.Bool.{Bool, true, ◌&&◌}
use mathlib.Core.List.{List, [], ◌∷◌}
use Prim.Native.Nat.{ℕ, ◌+◌, ◌-◌, ◌≤◌, ◌<◌}
use native.Mathlib.Omega.{arith}
use lib.Dec.{leb}
use lib.ListN.{length, length-append, length-drop}
use borrow.Author.Tests.{leb-true, le-leb, lt-ltb, eq-eqb, eqb-true}
use Rattle.ot.specs.Edit.{Edit, fits}
use Rattle.list.specs.Places.{Place, applied_by}
use Rattle.wire.specs.declared.Header.{Header}
use Rattle.model.specs.Limits.{max_inserts, max_edits, max_pending, max_items}
use Rattle.model.specs.Questions.{Question}
use Rattle.model.specs.Cross.{over, all_placed, placed, priority, priorities}
use Rattle.model.specs.Line.{Line, no_line, line_tests, line_keeps, unacked, line_acked, line_taken, carried, take_questions}
use Rattle.model.proofs.Tests.{◌&◌, both, three, Hold, Yes}
use Rattle.model.proofs.Cross.{placed_append, placed_drop, priorities_append, priorities_drop, priorities_over, length_over}

-- question 2 of a line as facts; its client made k edits
pub record LineFacts (k : ℕ) (right : ℕ → Bool) (v : Line) : Type 0 where
  pub edits : k ≤ max_edits
  pub acked : v.acked ≤ v.made
  pub room : v.made - v.acked ≤ max_pending
  pub count : length v.pending ≡ v.made - v.acked
  pub placed : all_placed v.pending ≡ true
  pub priorities : priorities right v.pending ≡ true
  pub inserts : v.inserts ≤ max_inserts
  pub inserts_edits : v.inserts ≤ k

pub line_facts : (k : ℕ) (right : ℕ → Bool) (v : Line) → Hold (line_tests k right v) → LineFacts k right v
line_facts k right v h =
    record {
      edits = leb-true k max_edits h.0;
      acked = leb-true v.acked v.made h.1.0;
      room = leb-true (v.made - v.acked) max_pending h.1.1.0;
      count = eqb-true (length v.pending) (v.made - v.acked) h.1.1.1.0;
      placed = h.1.1.1.1.0;
      priorities = h.1.1.1.1.1.0;
      inserts = leb-true v.inserts max_inserts h.1.1.1.1.1.1.0;
      inserts_edits = leb-true v.inserts k h.1.1.1.1.1.1.1.0;
    }

pub facts_line : (k : ℕ) (right : ℕ → Bool) (v : Line) → LineFacts k right v → Hold (line_tests k right v)
facts_line k right v f =
    le-leb k max_edits f.edits
    & le-leb v.acked v.made f.acked
    & le-leb (v.made - v.acked) max_pending f.room
    & eq-eqb (length v.pending) (v.made - v.acked) f.count
    & f.placed
    & f.priorities
    & le-leb v.inserts max_inserts f.inserts
    & le-leb v.inserts k f.inserts_edits
    & tt

pub no_line_lem : (right : ℕ → Bool) → LineFacts 0 right no_line
unfolding all_placed priorities
no_line_lem right =
    record {
      edits = omega arith;
      acked = omega arith;
      room = omega arith;
      count = refl;
      placed = refl;
      priorities = refl;
      inserts = omega arith;
      inserts_edits = omega arith;
    }

-- What questions 5 to 9 have found of an edit that no question refused.
pub record Asked (v : Line) (items : List Place) (h : Header) (e : Edit) : Type 0 where
  pub next : h.number ≡ v.taken + 1
  pub low : v.acked ≤ h.seen
  pub high : h.seen ≤ v.made
  pub fit : fits (carried v h.seen e) (length items) ≡ true
  pub placed : all_placed (over e (unacked v h.seen)) ≡ true
  pub size : length (applied_by h.origin (carried v h.seen e) items) ≤ max_items

pub asked : (v : Line) (items : List Place) (h : Header) (e : Edit) (more : List Question) → Yes (take_questions v items h e more) → Asked v items h e
asked v items h e more y =
    let q9 =
    three (fits (carried v h.seen e) (length items)) (all_placed (over e (unacked v h.seen)))
    (leb (length (applied_by h.origin (carried v h.seen e) items)) max_items) y.1.1.1.1.0 in
    record {
      next = eqb-true h.number (v.taken + 1) y.1.0;
      low = omega (arith, leb-true _ h.seen y.1.1.0);
      high = omega (arith, leb-true h.seen _ y.1.1.1.0);
      fit = q9.0;
      placed = q9.1;
      size = leb-true (length (applied_by h.origin (carried v h.seen e) items)) max_items q9.2;
    }

pub yes_asked : (v : Line) (items : List Place) (h : Header) (e : Edit) (more : List Question) → Asked v items h e → Yes more → Yes (take_questions v items h e more)
yes_asked v items h e more q rest =
    let q9 =
    both (fits (carried v h.seen e) (length items) && all_placed (over e (unacked v h.seen))) (leb (length (applied_by h.origin (carried v h.seen e) items)) max_items)
    (both (fits (carried v h.seen e) (length items)) (all_placed (over e (unacked v h.seen))) q.fit q.placed)
    (le-leb (length (applied_by h.origin (carried v h.seen e) items)) max_items q.size) in
    lt-ltb v.taken h.number (omega (arith, q.next))
    & eq-eqb h.number (v.taken + 1) q.next
    & le-leb v.acked h.seen q.low
    & le-leb h.seen v.made q.high
    & q9
    & rest

-- One more edit is kept, where question 12 said yes.
pub kept_line : (k k' : ℕ) (right : ℕ → Bool) (i : ℕ) (e : Edit) (v : Line) → LineFacts k right v → k' ≤ max_edits → i ≤ max_inserts → i ≤ k'
    → v.made - v.acked < max_pending → placed e ≡ true → priority right e ≡ true → LineFacts k' right (line_keeps i e v)
kept_line k k' right i e v f m q10 ik q12 p r =
    record {
      edits = m;
      acked = omega (arith, f.acked);
      room = omega (arith, f.acked);
      count = length-append v.pending (e ∷ []) ∙ omega (arith, f.count, f.acked);
      placed = placed_append v.pending e f.placed p;
      priorities = priorities_append right v.pending e f.priorities r;
      inserts = q10;
      inserts_edits = ik;
    }

-- An edit is taken, where questions 5 to 9 said yes.
pub taken_line : (k k' : ℕ) (right : ℕ → Bool) (i : ℕ) (v : Line) (items : List Place) (h : Header) (e : Edit) → LineFacts k right v → Asked v items h e
    → k' ≤ max_edits → i ≤ max_inserts → i ≤ k' → LineFacts k' right (line_taken i h.seen e v)
taken_line k k' right i v items h e f q m q10 ik =
    let seen = h.seen in
    record {
      edits = m;
      acked = q.high;
      room = omega (arith, f.room, q.low);
      count = length_over e (unacked v seen) ∙ length-drop (seen - v.acked) v.pending ∙ omega (arith, f.count, q.low, q.high);
      placed = q.placed;
      priorities = priorities_over right e (unacked v seen) (priorities_drop right (seen - v.acked) v.pending f.priorities);
      inserts = q10;
      inserts_edits = ik;
    }

pub acked_line : (k : ℕ) (right : ℕ → Bool) (seen : ℕ) (v : Line) → LineFacts k right v → v.acked ≤ seen → seen ≤ v.made → LineFacts k right (line_acked seen v)
acked_line k right seen v f q7 q8 =
    record {
      edits = f.edits;
      acked = q8;
      room = omega (arith, f.room);
      count = length-drop (seen - v.acked) v.pending ∙ omega (arith, f.count);
      placed = placed_drop (seen - v.acked) v.pending f.placed;
      priorities = priorities_drop right (seen - v.acked) v.pending f.priorities;
      inserts = f.inserts;
      inserts_edits = f.inserts_edits;
    }
