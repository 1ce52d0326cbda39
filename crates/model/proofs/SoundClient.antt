-- Every call keeps a sound client sound.
use mathlib.Core.Path.{◌≡◌}
use mathlib.Core.Bool.{true}
use mathlib.Core.List.{List, [], ◌∷◌}
use Prim.Native.Nat.{ℕ, ◌+◌, ◌-◌, ◌≤◌, ◌<◌}
use native.Mathlib.Omega.{arith}
use lib.Dec.{eqb}
use lib.ListN.{length}
use borrow.Author.Tests.{leb-true, le-leb}
use Rattle.ot.specs.Edit.{Edit, fits}
use Rattle.list.specs.Places.{place_of, numbered}
use Rattle.list.proofs.Places.{numbered_applied}
use Rattle.wire.specs.declared.Header.{Header}
use Rattle.model.specs.Limits.{max_lines, max_inserts, max_edits, max_others, max_pending, max_items}
use Rattle.model.specs.Questions.{Question, ask}
use Rattle.model.specs.Cross.{priority, inserts_of}
use Rattle.model.specs.Ranks.{ranking}
use Rattle.model.specs.Inverse.{inverse_stands}
use Rattle.model.specs.Line.{carried}
use Rattle.model.specs.Client.{Client, own_rank, client_tests, sound_client, origin_here, list_then, edited, inverse_then, client_taken, client_acked}
use Rattle.model.proofs.Tests.{◌&◌, hold, held, between_true, true_between}
use Rattle.model.proofs.Cross.{fits_placed}
use Rattle.model.proofs.Inverse.{InverseFacts, inverse_facts, facts_inverse, made_inverse, carried_inverse}
use Rattle.model.proofs.SoundLine.{LineFacts, line_facts, facts_line, Asked, kept_line, taken_line, acked_line}

-- question 2 as facts
pub record ClientFacts (c : Client) : Type 0 where
  pub lines : (1 ≤ c.n) × (c.n ≤ max_lines)
  pub line : (1 ≤ c.line) × (c.line ≤ c.n)
  pub ranked : ranking c.n c.ranks ≡ true
  pub items : length c.items ≤ max_items
  pub numbers : numbered c.items ≡ true
  pub taken : c.own.taken ≤ max_others
  pub inverse : InverseFacts (own_rank c) c.own.made c.inverse
  pub own : LineFacts c.own.made (eqb (own_rank c)) c.own

pub client_facts : (c : Client) → sound_client c ≡ true → ClientFacts c
unfolding sound_client
client_facts c s =
    let h = hold (client_tests c) s in
    record {
      lines = between_true 1 max_lines c.n h.0;
      line = between_true 1 c.n c.line h.1.0;
      ranked = h.1.1.0;
      items = leb-true (length c.items) max_items h.1.1.1.0;
      numbers = h.1.1.1.1.0;
      taken = leb-true c.own.taken max_others h.1.1.1.1.1.0;
      inverse = inverse_facts (own_rank c) c.own.made c.inverse h.1.1.1.1.1.1.0;
      own = line_facts c.own.made (eqb (own_rank c)) c.own h.1.1.1.1.1.1.1;
    }

pub facts_client : (c : Client) → ClientFacts c → sound_client c ≡ true
unfolding sound_client
facts_client c f =
    held (client_tests c)
    (true_between 1 max_lines c.n f.lines.0 f.lines.1
    & true_between 1 c.n c.line f.line.0 f.line.1
    & f.ranked
    & le-leb (length c.items) max_items f.items
    & f.numbers
    & le-leb c.own.taken max_others f.taken
    & facts_inverse (own_rank c) c.own.made c.inverse f.inverse
    & facts_line c.own.made (eqb (own_rank c)) c.own f.own)

-- An edit of its own, where no question said no.
pub edited_sound : (c : Client) (e : Edit) → ClientFacts c → priority (eqb (own_rank c)) e ≡ true
    → fits e (length c.items) ≡ true → length (list_then c e) ≤ max_items → c.own.inserts + inserts_of e ≤ max_inserts → c.own.made < max_edits
    → c.own.made - c.own.acked < max_pending → inserts_of e ≤ 1 → ClientFacts (edited c e)
edited_sound c e f p q9 q9' q10 q11 q12 one =
    let here = origin_here c (c.own.made + 1) in
    record {
      lines = f.lines;
      line = f.line;
      ranked = f.ranked;
      items = omega (arith, q9', f.items);
      numbers = numbered_applied here e c.items (omega arith) f.numbers;
      taken = f.taken;
      inverse = made_inverse (own_rank c) (c.own.made + 1) here e c.items (omega arith) q9 q9';
      own =
          kept_line c.own.made (c.own.made + 1) (eqb (own_rank c)) (c.own.inserts + inserts_of e) e c.own f.own
          (omega arith) q10 (omega (arith, f.own.inserts_edits)) q12 (fits_placed (place_of here) e c.items f.items q9 q9') p;
    }

-- what else a client asks of an edit that it takes
abbrev pub carry_questions : Client → Header → Edit → List Question
carry_questions c h e = ask 9 (inverse_stands (inverse_then c h.seen e)) ∷ []

-- Another client's edit taken, where no question said no.
pub taken_sound : (c : Client) (h : Header) (e : Edit) → ClientFacts c → Asked c.own c.items h e → c.own.taken < max_others → h.origin.number ≤ max_edits
    → inverse_stands (inverse_then c h.seen e) ≡ true → ClientFacts (client_taken c h.origin h.seen e)
taken_sound c h e f q t m stands =
    record {
      lines = f.lines;
      line = f.line;
      ranked = f.ranked;
      items = q.size;
      numbers = numbered_applied h.origin (carried c.own h.seen e) c.items (omega arith) f.numbers;
      taken = omega arith;
      inverse = carried_inverse (own_rank c) c.own.made c.inverse _ stands f.inverse;
      own =
          taken_line c.own.made c.own.made (eqb (own_rank c)) c.own.inserts c.own c.items h e f.own q
          f.own.edits f.own.inserts f.own.inserts_edits;
    }

pub acked_sound : (c : Client) (seen : ℕ) → ClientFacts c → c.own.acked ≤ seen → seen ≤ c.own.made → ClientFacts (client_acked c seen)
acked_sound c seen f q7 q8 =
    record {
      lines = f.lines;
      line = f.line;
      ranked = f.ranked;
      items = f.items;
      numbers = f.numbers;
      taken = f.taken;
      inverse = f.inverse;
      own = acked_line c.own.made (eqb (own_rank c)) seen c.own f.own q7 q8;
    }
