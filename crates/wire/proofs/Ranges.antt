-- What it says of the fields, in inequalities, that a message is in range.
use Prim.Native.Nat.{ℕ, ◌≤◌}
use native.Mathlib.Omega.{arith}
use mathlib.Core.Path.{◌≡◌, refl}
use mathlib.Core.Bool.{Bool, true, false, ◌&&◌, ◌||◌}
use lib.Dec.{leb, eqb}
use borrow.Author.Tests.{eqb-true, leb-true}
use Rattle.wire.specs.declared.Header.{Header}
use Rattle.wire.specs.declared.Message.TheVariants.{Insert, Delete, Ack}
use Rattle.wire.specs.Message.{between, origin_in_range, header_in_range, in_range}
use Rattle.limits.specs.Limits.{max_edits, max_others}

pub both : (a b : Bool) → a && b ≡ true → (a ≡ true) × (b ≡ true)
both true b e = (refl, e)
both false b e = (cc, cc)

either : (a b : Bool) {P : Type 0} → (a ≡ true → P) → (b ≡ true → P) → a || b ≡ true → P
either true b f g e = f refl
either false b f g e = g e

pub within : (low high n : ℕ) → between low high n ≡ true → (low ≤ n) × (n ≤ high)
within low high n e =
    let tests = both (leb low n) (leb n high) e in
    (leb-true low n tests.0, leb-true n high tests.1)

pub record HeaderBounds (h : Header) : Type 0 where
  pub line_low : 1 ≤ h.line
  pub line_high : h.line ≤ 8
  pub direction_high : h.direction ≤ 1
  pub number_low : 1 ≤ h.number
  pub number_high : h.number ≤ 2800
  pub seen_high : h.seen ≤ 2800
  pub maker_low : 1 ≤ h.origin.line
  pub maker_high : h.origin.line ≤ 8
  pub made_low : 1 ≤ h.origin.number
  pub made_high : h.origin.number ≤ 400

-- the tests of one direction
directed : (k most room d n s : ℕ) → eqb d k && (between 1 most n && leb s room) ≡ true → (d ≡ k) × (1 ≤ n) × (n ≤ most) × (s ≤ room)
directed k most room d n s e =
    let tests = both (eqb d k) (between 1 most n && leb s room) e in
    let counts = both (between 1 most n) (leb s room) tests.1 in
    let bounds = within 1 most n counts.0 in
    (eqb-true d k tests.0, bounds.0, bounds.1, leb-true s room counts.1)

pub header_bounds : (h : Header) → header_in_range h ≡ true → HeaderBounds h
header_bounds h e =
    let up = eqb h.direction 0 && (between 1 max_edits h.number && leb h.seen max_others) in
    let down = eqb h.direction 1 && (between 1 max_others h.number && leb h.seen max_edits) in
    let tests = both (between 1 8 h.line && (up || down)) (origin_in_range h.origin) e in
    let own = both (between 1 8 h.line) (up || down) tests.0 in
    let lines = within 1 8 h.line own.0 in
    let origins = both (between 1 8 h.origin.line) (between 1 400 h.origin.number) tests.1 in
    let makers = within 1 8 h.origin.line origins.0 in
    let made = within 1 400 h.origin.number origins.1 in
    either up down
    (λ u. let t = directed 0 max_edits max_others h.direction h.number h.seen u in omega arith)
    (λ u. let t = directed 1 max_others max_edits h.direction h.number h.seen u in omega arith)
    own.1

pub record InsertBounds (h : Header) (position item priority : ℕ) : Type 0 where
  pub header_in_range_lem : header_in_range h ≡ true
  pub position_low : 1 ≤ position
  pub position_high : position ≤ 512
  pub item_high : item ≤ 4294967295
  pub priority_low : 1 ≤ priority
  pub priority_high : priority ≤ 8

pub insert_bounds : (h : Header) (p x r : ℕ) → in_range (Insert h p x r) ≡ true → InsertBounds h p x r
unfolding in_range
insert_bounds h p x r e =
    let last = both (header_in_range h && between 1 512 p && leb x 4294967295) (between 1 8 r) e in
    let third = both (header_in_range h && between 1 512 p) (leb x 4294967295) last.0 in
    let first = both (header_in_range h) (between 1 512 p) third.0 in
    let positions = within 1 512 p first.1 in
    let priorities = within 1 8 r last.1 in
    record {
      header_in_range_lem = first.0;
      position_low = positions.0;
      position_high = positions.1;
      item_high = leb-true x 4294967295 third.1;
      priority_low = priorities.0;
      priority_high = priorities.1;
    }

pub record DeleteBounds (h : Header) (position : ℕ) : Type 0 where
  pub header_in_range_lem : header_in_range h ≡ true
  pub position_low : 1 ≤ position
  pub position_high : position ≤ 512

pub delete_bounds : (h : Header) (p : ℕ) → in_range (Delete h p) ≡ true → DeleteBounds h p
unfolding in_range
delete_bounds h p e =
    let tests = both (header_in_range h) (between 1 512 p) e in
    let positions = within 1 512 p tests.1 in
    record { header_in_range_lem = tests.0; position_low = positions.0; position_high = positions.1 }

pub record AckBounds (line direction seen : ℕ) : Type 0 where
  pub line_low : 1 ≤ line
  pub line_high : line ≤ 8
  pub direction_high : direction ≤ 1
  pub seen_high : seen ≤ 2800

pub ack_bounds : (l d s : ℕ) → in_range (Ack l d s) ≡ true → AckBounds l d s
unfolding in_range
ack_bounds l d s e =
    let up = eqb d 0 && leb s max_others in
    let down = eqb d 1 && leb s max_edits in
    let tests = both (between 1 8 l) (up || down) e in
    let lines = within 1 8 l tests.0 in
    either up down
    (λ u. let t = both (eqb d 0) (leb s max_others) u in omega (arith, eqb-true d 0 t.0, leb-true s max_others t.1))
    (λ u. let t = both (eqb d 1) (leb s max_edits) u in omega (arith, eqb-true d 1 t.0, leb-true s max_edits t.1))
    tests.1
