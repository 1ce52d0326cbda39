-- No list that is ever shown has an origin twice: what is shown is the list at a good point of some line's grid.
use Prim.Native.Nat.{ℕ}
use mathlib.Core.Path.{◌≡◌, sym, subst}
use lib.ListN.{length}
use Rattle.jupiter.specs.Algebra.{Algebra, Laws}
use Rattle.jupiter.specs.Made.{mine, others}
use Rattle.jupiter.specs.History.{History, order}
use Rattle.jupiter.specs.Run.{State, initial, run}
use Rattle.jupiter.specs.Claims.{Who, server, client, doc_of}
use Rattle.jupiter.specs.Origins.{Once, Origins, Opening, NoneTwice}
use Rattle.jupiter.proofs.Grid.{Good, doc_at}
use Rattle.jupiter.proofs.Line.{client_good, server_good}
use Rattle.jupiter.proofs.Meeting.{server_doc}
use Rattle.jupiter.proofs.Runs.{whole_ends, Reached, reached_by}
use Rattle.jupiter.proofs.Standing.{Moment, known_at}

-- where a list stands among the grids
pub record Stand {𝓐 : Algebra} (d : 𝓐.Doc) (h : History 𝓐) (doc : 𝓐.Doc) : Type 0 where
  pub line : ℕ
  pub i : ℕ
  pub j : ℕ
  pub good : Good line (order h line) i j
  pub is : doc ≡ doc_at d line (order h line) i j

module _ {𝓐 : Algebra} (d : 𝓐.Doc) where
  pub stand_of : (s : State 𝓐) → Reached d s → (x : Who) → Stand d s.history (doc_of x s)
  stand_of s r server =
      let h = s.history in
      let E = whole_ends s in
      record {
        line = 0;
        i = (E.lines 0).taken;
        j = length (others 0 (order h 0));
        good = server_good d 0 (order h 0) h.served (h.applied 0) (E.clients 0) (E.lines 0) (E.docs 0) (r.inv.lines 0).line;
        is = server_doc d E h r.inv 0;
      }
  stand_of s r (client l) =
      let h = s.history in
      let E = whole_ends s in
      record {
        line = l;
        i = length (mine l (order h l));
        j = (E.clients l).taken;
        good = client_good d l (order h l) h.served (h.applied l) (E.clients l) (E.lines l) (E.docs l) (r.inv.lines l).line;
        is = (r.inv.lines l).line.c_doc;
      }

  module _ (𝓞 : Origins 𝓐) (laws : Laws 𝓐) (opening : Opening 𝓞 d) where
    pub moment : (s : State 𝓐) → Reached d s → Moment 𝓞 d s.history
    moment s r = record { laws = laws; opening = opening; ends = whole_ends s; inv = r.inv }

pub none_twice : (𝓐 : Algebra) → Laws 𝓐 → (𝓞 : Origins 𝓐) → NoneTwice 𝓐 𝓞
none_twice 𝓐 laws 𝓞 d opening cs x =
    let s = run (initial d) cs in
    let r = reached_by d laws cs in
    let at = stand_of d s r x in
    subst (λ y. Once (𝓞.origins y)) (sym at.is) (known_at (moment d 𝓞 laws opening s r) at.line at.i at.j at.good).once
