-- The ends of the protocol, with no limit on any count (01: "Lines, numbers, buffers").
use Rattle.std.specs.Prelude.{ℕ, suc, ◌-◌, Bool, ◌&&◌, List, [], ◌∷◌, ◌++◌, eqb, leb, ltb, drop, get_or}
use Rattle.jupiter.specs.Algebra.{Algebra}
use Rattle.jupiter.specs.History.{at}

module _ (𝓐 : Algebra) where
  -- the arriving edit past the pending ones, in order
  unfoldable pub past : 𝓐.Edit → List 𝓐.Edit → 𝓐.Edit
  past e [] = e
  past e (p ∷ ps) = past (𝓐.transform e p) ps

  -- each pending edit past the arriving edit as it stood before that one
  unfoldable pub over : 𝓐.Edit → List 𝓐.Edit → List 𝓐.Edit
  over e [] = []
  over e (p ∷ ps) = 𝓐.transform p e ∷ over (𝓐.transform e p) ps

-- One end of a line. At client l: the edits made there and those taken. At the server, for line l: "made" counts the edits taken from all
-- other lines, "taken" those taken from l. `acked` (01: told) counts those made that the other end has acknowledged, and `pending` (01: the
-- kept edits) holds the numbers acked + 1 to made, in their present form.
pub record End (𝓐 : Algebra) : Type 0 where
  pub made : ℕ
  pub taken : ℕ
  pub acked : ℕ
  pub pending : List 𝓐.Edit

pub record EditMessage (𝓐 : Algebra) : Type 0 where
  pub number : ℕ
  pub seen : ℕ
  pub edit : 𝓐.Edit

-- the server's list and its end of each line; each client's list and its end of the line
pub record Ends (𝓐 : Algebra) : Type 0 where
  pub doc : 𝓐.Doc
  pub lines : ℕ → End 𝓐
  pub docs : ℕ → 𝓐.Doc
  pub clients : ℕ → End 𝓐

module _ {𝓐 : Algebra} where
  -- an end of a line as it starts
  abbrev pub fresh : End 𝓐
  fresh = record { made = 0; taken = 0; acked = 0; pending = [] }

  abbrev pub opened : 𝓐.Doc → Ends 𝓐
  opened d = record { doc = d; lines = λ l. fresh; docs = λ l. d; clients = λ l. fresh }

  -- one edit more is pending
  abbrev pub keeps : 𝓐.Edit → End 𝓐 → End 𝓐
  keeps e v = record { made = suc v.made; taken = v.taken; acked = v.acked; pending = v.pending ++ (e ∷ []) }

  -- the pending edits after the first seen of those made
  abbrev pub unacked : End 𝓐 → ℕ → List 𝓐.Edit
  unacked v seen = drop (seen - v.acked) v.pending

  -- an acknowledgement taken
  abbrev pub acks : ℕ → End 𝓐 → End 𝓐
  acks seen v = record { made = v.made; taken = v.taken; acked = seen; pending = unacked v seen }

  -- an edit message taken, and the edit as it is then applied
  abbrev pub takes : EditMessage 𝓐 → End 𝓐 → End 𝓐
  takes m v =
      record { made = v.made; taken = suc v.taken; acked = m.seen; pending = over 𝓐 m.edit (unacked v m.seen) }

  abbrev pub arrived : EditMessage 𝓐 → End 𝓐 → 𝓐.Edit
  arrived m v = past 𝓐 m.edit (unacked v m.seen)

  -- sending: number k of the pending edits, in its present form
  abbrev pub can_send : ℕ → End 𝓐 → Bool
  can_send k v = ltb v.acked k && leb k v.made

  abbrev pub message : ℕ → End 𝓐 → EditMessage 𝓐
  message k v = record { number = k; seen = v.taken; edit = get_or v.pending (k - suc v.acked) 𝓐.nothing }

  -- An acknowledgement counts where it is not overtaken and counts no edit that was not made; an edit message where its number is also the
  -- next. Anything else is skipped.
  abbrev pub current : ℕ → End 𝓐 → Bool
  current seen v = leb v.acked seen && leb seen v.made

  abbrev pub can_take : EditMessage 𝓐 → End 𝓐 → Bool
  can_take m v = eqb m.number (suc v.taken) && current m.seen v

  -- What each accepted call does to the ends.
  abbrev pub editing : ℕ → 𝓐.Edit → Ends 𝓐 → Ends 𝓐
  editing l e w =
      record {
        doc = w.doc;
        lines = w.lines;
        docs = at l (𝓐.apply e (w.docs l)) w.docs;
        clients = at l (keeps e (w.clients l)) w.clients;
      }

  -- the server applies the edit, and keeps it for every other line
  abbrev pub taking_up : ℕ → EditMessage 𝓐 → Ends 𝓐 → Ends 𝓐
  taking_up l m w =
      record {
        doc = 𝓐.apply (arrived m (w.lines l)) w.doc;
        lines = at l (takes m (w.lines l)) (λ k. keeps (arrived m (w.lines l)) (w.lines k));
        docs = w.docs;
        clients = w.clients;
      }

  abbrev pub taking_down : ℕ → EditMessage 𝓐 → Ends 𝓐 → Ends 𝓐
  taking_down l m w =
      record {
        doc = w.doc;
        lines = w.lines;
        docs = at l (𝓐.apply (arrived m (w.clients l)) (w.docs l)) w.docs;
        clients = at l (takes m (w.clients l)) w.clients;
      }

  abbrev pub acking_up : ℕ → ℕ → Ends 𝓐 → Ends 𝓐
  acking_up l seen w =
      record { doc = w.doc; lines = at l (acks seen (w.lines l)) w.lines; docs = w.docs; clients = w.clients }

  abbrev pub acking_down : ℕ → ℕ → Ends 𝓐 → Ends 𝓐
  acking_down l seen w =
      record { doc = w.doc; lines = w.lines; docs = w.docs; clients = at l (acks seen (w.clients l)) w.clients }

  -- line l starts here: its client gets the server's list, and both its ends count from zero
  abbrev pub joining : ℕ → Ends 𝓐 → Ends 𝓐
  joining l w =
      record {
        doc = w.doc;
        lines = at l fresh w.lines;
        docs = at l w.doc w.docs;
        clients = at l fresh w.clients;
      }
