-- What a message makes of the server, by its numbers and words: what the other lines keep, and the line that it came on.
use Rattle.std.specs.Prelude.{ℕ, ◌+◌, ◌-◌, ◌<◌, ◌≡◌, Bool, ◌&&◌, not, cond, List, [], ◌∷◌, ◌++◌, ltb, eqb, length, take, drop, set}
use Rattle.limits.specs.Limits.{max_lines, max_pending}
use Rattle.ot.specs.Edit.{Edit}
use Rattle.list.specs.Items.{padded}
use Rattle.list.specs.Places.{applied_by}
use Rattle.model.specs.Cross.{inserts_of}
use Rattle.model.specs.Line as model
use Rattle.model.specs.Server as server
use Rattle.pending.specs.Slots.{slots_of}
use Rattle.line.specs.declared.Line.{Line}
use Rattle.line.specs.Line.{pending_in}
use Rattle.line.specs.Keeping.{with_kept}
use Rattle.line.specs.declared.taking.Arrival.{Arrival}
use Rattle.line.specs.Taking.{edit_of, line_then, edit_then}
use Rattle.server.specs.declared.Counts.{Counts}
use Rattle.server.specs.View.{slots_at, counts_at, items_in, origins_in, makers_at, Parts}
use Rattle.server.specs.Decides.{place_of}

-- the place i is one of the first n, and not the one left out
abbrev pub keeps : ℕ → ℕ → ℕ → Bool
keeps n at i = ltb i n && not (eqb i at)

-- the words of a line that keeps one more edit, and their origins with that of this edit, a word
abbrev pub slots_kept : Edit → Line → List ℕ → List ℕ
slots_kept e v slots = slots_of (pending_in v slots ++ (e ∷ []))

abbrev pub makers_kept : ℕ → Line → List ℕ → List ℕ
makers_kept word v makers = set makers (v.made - v.acked) word

-- Each of the first n lines but the one at a place has one more pending edit e, whose origin is that word.
pub record KeptBy (most at : ℕ) (e : Edit) (word : ℕ) (k : Counts) (before : List ℕ) (r : Counts) (after : List ℕ) : Type 0 where
  pub n : r.n ≡ k.n
  pub initial : r.initial ≡ k.initial
  pub len : r.len ≡ k.len
  pub total : r.total ≡ k.total
  pub ranks : r.ranks ≡ k.ranks
  pub lines : length r.lines ≡ length k.lines
  pub counts : (i : ℕ) → i < max_lines → counts_at r i ≡ cond (keeps most at i) (with_kept (counts_at k i) (counts_at k i).inserts) (counts_at k i)
  pub words : Parts (items_in before) (origins_in before)
      (λ i. cond (keeps most at i) (slots_kept e (counts_at k i) (slots_at i before)) (slots_at i before))
      (λ i. cond (keeps most at i) (makers_kept word (counts_at k i) (makers_at i before)) (makers_at i before)) after

-- ---- the line that the message came on

-- the origins of its pending edits, once those up to seen are dropped
abbrev pub makers_left : Line → ℕ → List ℕ → List ℕ
makers_left v seen makers = padded 0 max_pending (take (v.made - seen) (drop (seen - v.acked) makers))

-- ---- the server

-- the line that a message came on, and another, where the edit to keep is e
abbrev pub takes_it : Arrival → model.Line → model.Line
takes_it a v = line_then v (v.inserts + inserts_of (edit_of a)) a

abbrev pub keeps_it : Bool → Edit → model.Line → model.Line
keeps_it carries e v = cond carries (model.line_keeps v.inserts e v) v

-- the server once a message is taken; no line keeps an acknowledgement
abbrev pub server_then : server.Server → Arrival → server.Server
server_then s a =
    record {
      n = s.n;
      initial = s.initial;
      ranks = s.ranks;
      items = applied_by a.origin (edit_then (server.line_of s a.line) a) s.items;
      lines = server.at_place (place_of a) (takes_it a) (keeps_it a.carries (edit_then (server.line_of s a.line) a)) s.lines;
      makers =
          server.at_place (place_of a) (server.unacked_makers s a.line a.seen) (λ os. cond a.carries (os ++ (a.origin ∷ [])) os)
          s.makers;
    }
