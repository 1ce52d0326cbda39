-- What is claimed of every list of calls on the server and its clients.
use Rattle.std.specs.Prelude.{ℕ, suc, ◌+◌, ◌-◌, ◌≤◌, ◌<◌, ◌≡◌, true, List, [], ◌∷◌, T, length, get_or, take, drop}
use Rattle.std.proofs.Math.Option.{some}
use Rattle.std.proofs.Math.ListN.{get_elem?}
use Rattle.jupiter.specs.Algebra.{Algebra}
use Rattle.jupiter.specs.Made.{Name, Made, holds, names, mine, others}
use Rattle.jupiter.specs.Form.{form, list_at, in_order, without, replay}
use Rattle.jupiter.specs.Point.{point, blank, own, oth, own_form, oth_form}
use Rattle.jupiter.specs.History.{History, order, missing}
use Rattle.jupiter.specs.Ends.{End, EditMessage, unacked, can_send, message, can_take, arrived}
use Rattle.jupiter.specs.Run.{Message, up, down, up_ack, down_ack, Call, State, initial, run}

-- an end of the sheet
pub data Who : Type 0 where
  server : Who
  client : ℕ → Who

module _ {𝓐 : Algebra} where
  -- what it has applied, and what it shows
  abbrev pub set_of : Who → State 𝓐 → List (Made 𝓐)
  set_of server s = s.history.served
  set_of (client l) s = s.history.applied l

  abbrev pub doc_of : Who → State 𝓐 → 𝓐.Doc
  doc_of server s = s.ends.doc
  doc_of (client l) s = s.ends.docs l

  -- the edits behind line l's opening list: the first that the server took
  abbrev pub behind : ℕ → State 𝓐 → List (Made 𝓐)
  behind l s = take (s.start l) s.history.served

  abbrev pub SameSet : List (Made 𝓐) → List (Made 𝓐) → Type 0
  SameSet A B = (x : Name) → holds (names A) x ≡ holds (names B) x

  -- with each edit its context
  abbrev pub ClosedSet : List (Made 𝓐) → Type 0
  ClosedSet A = (i : ℕ) → i < length A → (x : Name) → holds (get_or A i blank).context x ≡ true → holds (names A) x ≡ true

  -- how many of the edits, as made, are inserts
  unfoldable pub inserts : List (Made 𝓐) → ℕ
  inserts [] = 0
  inserts (e ∷ es) = 𝓐.grows e.edit + inserts es

  -- the message carries edit k of n, index + 1, in the form given for it
  pub record Carries (m : EditMessage 𝓐) (k n : ℕ) (its : ℕ → 𝓐.Edit) : Type 0 where
    pub index : ℕ
    pub number : k ≡ suc index
    pub known : index < n
    pub edit : m.edit ≡ its index

  -- A message, however old, holds the form that the definition gives: number i + 1 going up at the sender's first i edits and the first `seen`
  -- of the others; number j + 1 going down at the first `seen` edits of the client and the first j of the others. The others are counted from
  -- the line's start.
  abbrev pub Written : (ℕ → ℕ) → History 𝓐 → Message 𝓐 → Type 0
  Written start h (up l m) =
      Carries m m.number (length (mine l (order h l))) (λ i. own_form l (order h l) i (start l + m.seen))
  Written start h (down l m) =
      Carries m (start l + m.number) (length (others l (order h l))) (λ j. oth_form l (order h l) m.seen j)
  Written start h (up_ack l seen) = Unit {0}
  Written start h (down_ack l seen) = Unit {0}

  -- the next edit of `from` can be sent, `to` takes what is sent, and the edit as it arrives fits the list d that `to` shows
  pub record Delivers (from to : End 𝓐) (d : 𝓐.Doc) : Type 0 where
    pub sends : can_send (suc to.taken) from ≡ true
    pub takes : can_take (message (suc to.taken) from) to ≡ true
    pub fits : T (𝓐.fits (arrived (message (suc to.taken) from) to) d)

  -- of line l, which starts behind `start` edits: h is the history, c the client's end, v the server's; the client shows `doc` and the
  -- server `server-doc`
  pub record LineClaim (initially : 𝓐.Doc) (h : History 𝓐) (l start : ℕ) (c v : End 𝓐) (doc server_doc : 𝓐.Doc) : Type 0 where
    -- the counts of the ends are those of the history, from the line's start
    pub client_made : c.made ≡ length (mine l (order h l))
    pub client_taken_lem : c.made + (start + c.taken) ≡ length (h.applied l)
    pub server_taken_lem : v.taken ≡ length (mine l h.served)
    pub server_made : start + v.made ≡ length (others l h.served)
    pub count_missing : length (missing h l) ≡ v.made - c.taken
    pub count_untaken : length (h.untaken l) ≡ c.made - v.taken
    -- the client shows the first opening list with every edit applied in its form at what the client had applied
    pub list : doc ≡ replay (order h l) [] (h.applied l) initially
    -- The pending edits, number i + 1 at place i - acked: each is in its form at what the end has applied, less the line's edits from that number
    -- on. That set is a point of the grid, and the form fits the list there.
    pub client_owes : (i : ℕ) → c.acked ≤ i → i < c.made
        → get_or c.pending (i - c.acked) 𝓐.nothing ≡ form (own l (order h l) i) (in_order (order h l) (without (h.applied l) (drop i (mine l (order h l)))))
    pub client_pending : length c.pending ≡ c.made - c.acked
    pub client_forms : (i : ℕ) → c.acked ≤ i → i < c.made → get_or c.pending (i - c.acked) 𝓐.nothing ≡ own_form l (order h l) i (start + c.taken)
    pub client_fits : (i : ℕ) → c.acked ≤ i → i < c.made
        → T (𝓐.fits (own_form l (order h l) i (start + c.taken)) (list_at initially (point l (order h l) i (start + c.taken))))
    pub server_owes : (j : ℕ) → v.acked ≤ j → j < v.made
        → get_or v.pending (j - v.acked) 𝓐.nothing
        ≡ form (oth l (order h l) (start + j)) (in_order (order h l) (without h.served (drop (start + j) (others l (order h l)))))
    pub server_pending : length v.pending ≡ v.made - v.acked
    pub server_forms : (j : ℕ) → v.acked ≤ j → j < v.made → get_or v.pending (j - v.acked) 𝓐.nothing ≡ oth_form l (order h l) v.taken (start + j)
    pub server_fits : (j : ℕ) → v.acked ≤ j → j < v.made
        → T (𝓐.fits (oth_form l (order h l) v.taken (start + j)) (list_at initially (point l (order h l) v.taken (start + j))))
    -- 01, "Meeting": the client's list with the missing edits, each in its form at the client's edits and the missing ones before it, is the
    -- server's list with the unaccepted ones, each in its form at the server's edits and the unaccepted ones before it
    pub meets : replay (order h l) (h.applied l) (missing h l) doc ≡ replay (order h l) h.served (h.untaken l) server_doc
    -- equal counts, equal lists
    pub equal : c.made ≡ v.taken → c.taken ≡ v.made → doc ≡ server_doc
    -- the next message is taken
    pub next_down : c.taken < v.made → Delivers v c doc
    pub next_up : v.taken < c.made → Delivers c v server_doc
    -- and is the next edit: it arrives in that edit's form at what the taking end has applied
    pub arrives_down : (e : Made 𝓐) (es : List (Made 𝓐)) → missing h l ≡ e ∷ es → arrived (message (suc c.taken) v) c ≡ form e (in_order (order h l) (h.applied l))
    pub arrives_up : (e : Made 𝓐) (es : List (Made 𝓐)) → h.untaken l ≡ e ∷ es → arrived (message (suc v.taken) c) v ≡ form e h.served
    -- the count in the answer: the pending edits that an arriving edit is carried past
    pub passed_client : (seen : ℕ) → c.acked ≤ seen → seen ≤ c.made → length (unacked c seen) ≡ c.made - seen
    pub passed_server : (seen : ℕ) → v.acked ≤ seen → seen ≤ v.made → length (unacked v seen) ≡ v.made - seen

  pub record Claim (initially : 𝓐.Doc) (s : State 𝓐) : Type 0 where
    -- the server shows the opening list with every edit applied in its form at those it had taken before
    pub server : s.ends.doc ≡ list_at initially s.history.served
    pub server_list_lem : s.ends.doc ≡ replay s.history.served [] s.history.served initially
    -- what an end has applied is closed: 01's C holds the context of each of its edits
    pub closed : (x : Who) → ClosedSet (set_of x s)
    -- client l has applied first what stands behind its opening list, and shows that list with every edit since then applied in its form at
    -- what the client had applied
    pub first : (l : ℕ) → take (s.start l) (s.history.applied l) ≡ behind l s
    pub since : (l : ℕ) → s.ends.docs l ≡ replay (order s.history l) (behind l s) (drop (s.start l) (s.history.applied l)) (list_at initially (behind l s))
    pub messages : (i : ℕ) (x : Message 𝓐) → get_elem? s.messages i ≡ some x → Written s.start s.history x
    pub lines : (l : ℕ) → LineClaim initially s.history l (s.start l) (s.ends.clients l) (s.ends.lines l) (s.ends.docs l) s.ends.doc

  -- nothing is outstanding on line l: the server has taken what its client has made, and the client what the server has for it
  abbrev pub Quiet : ℕ → State 𝓐 → Type 0
  Quiet l s = ((s.ends.clients l).made ≡ (s.ends.lines l).taken) × ((s.ends.clients l).taken ≡ (s.ends.lines l).made)

-- The theorems, for every algebra of edits that has the laws. The first three are of every list of calls; the last is of the definitions.
abbrev pub Converges : Algebra → Type 0
Converges 𝓐 = (d : 𝓐.Doc) (cs : List (Call 𝓐)) → Claim d (run (initial d) cs)

-- Quiescent consistency: the clients on whose lines nothing is outstanding, and the server, all show one list.
abbrev pub QuiescentConsistency : Algebra → Type 0
QuiescentConsistency 𝓐 = (d : 𝓐.Doc) (cs : List (Call 𝓐)) (l : ℕ) → Quiet l (run (initial d) cs) → (run (initial d) cs).ends.docs l ≡ (run (initial d) cs).ends.doc

-- Strong eventual consistency: two ends, at any two moments of one run, that have applied the same set of edits show the same list.
abbrev pub StrongConsistency : Algebra → Type 0
StrongConsistency 𝓐 =
    (d : 𝓐.Doc) (cs cs' : List (Call 𝓐)) (x y : Who) → SameSet (set_of x (run (initial d) cs)) (set_of y (run (run (initial d) cs) cs'))
    → doc_of x (run (initial d) cs) ≡ doc_of y (run (run (initial d) cs) cs')

-- the list at a set has at most as many items as the opening list and the set's inserts
abbrev pub SizeBound : Algebra → Type 0
SizeBound 𝓐 = (d : 𝓐.Doc) (C : List (Made 𝓐)) → 𝓐.size (list_at d C) ≤ 𝓐.size d + inserts C
