-- The number that each call of a list is answered with (01: "The questions, in order"): the questions, asked of what the accepted calls
-- before it left. Question 2 says yes to every end of such a list, and 8 to 10 to every message that 4 to 7 let through, so they are not here.
use Rattle.std.specs.Prelude.{ℕ, zero, suc, ◌+◌, ◌-◌, Bool, true, false, not, ◌&&◌, ◌||◌, cond, List, [], ◌∷◌, map, leb, ltb, eqb, length}
use Rattle.std.proofs.Math.Option.{Option, none, some}
use Rattle.std.proofs.Math.ListN.{get_elem?}
use Rattle.ot.specs.Edit as edit
use Rattle.ot.specs.Edit.{Edit, fits}
use Rattle.jupiter.specs.Made.{mine}
use Rattle.jupiter.specs.Ends.{EditMessage}
use Rattle.jupiter.specs.Run.{Message, up, down, up_ack, down_ack}
use Rattle.jupiter.specs.History.{order}
use Rattle.jupiter.specs.Claims.{inserts}
use Rattle.model.specs.Limits.{max_inserts, max_edits, max_pending, max_items, max_packet}
use Rattle.model.specs.Questions.{Question, ask, asks, between}
use Rattle.model.specs.Cross.{inserts_of}
use Rattle.model.specs.Packets.{first_fits, known, packet_from}
use Rattle.model.specs.Ranks.{rank_of}
use Rattle.model.specs.Inverse.{is_nothing}
use Rattle.model.specs.Edits.{edits, applied_named}
use Rattle.model.specs.Sheet.{Call, insert, delete, take_back, send, tell, receive, pack, packet, junk}
use Rattle.model.specs.Log.{Log, named_by, made_at, taken_at, edit_message, pending_messages, message_bytes, took}

-- Line l is end a's own: the server has lines 1 to n.
abbrev pub owns : ℕ → ℕ → ℕ → Bool
owns n zero l = between 1 n l
owns n (suc a) l = eqb l (suc a)

-- What goes up on line l goes to the server, what goes down to the client on that line.
abbrev pub up_to : ℕ → ℕ → ℕ → Bool
up_to n zero l = owns n zero l
up_to n (suc a) l = false

abbrev pub down_to : ℕ → ℕ → ℕ → Bool
down_to n zero l = false
down_to n (suc a) l = owns n (suc a) l

-- how many edits are pending at end a for line l: made there, less the last seen that came
abbrev pub pending_at : {ranks : List ℕ} → Log ranks → ℕ → ℕ → ℕ
pending_at w a l = made_at w.history a l - w.heard a l

abbrev pub editing : {ranks : List ℕ} → Log ranks → ℕ → Edit → List Question
editing w l e =
    ask 9 (fits e (length (w.shown l)) && leb (length (applied_named (named_by w l e) (w.shown l))) max_items)
    ∷ ask 10 (leb (inserts (mine l (order w.history l)) + inserts_of e) max_inserts)
    ∷ ask 11 (ltb (made_at w.history l l) max_edits)
    ∷ ask 12 (ltb (pending_at w l l) max_pending)
    ∷ []

-- 17, and then the inverse as an edit
abbrev pub undoing : {ranks : List ℕ} → Log ranks → ℕ → List Question
undoing w l = ask 17 (not (is_nothing (w.undo l))) ∷ editing w l (w.undo l)

abbrev pub sending : {ranks : List ℕ} → ℕ → Log ranks → ℕ → ℕ → ℕ → List ℕ → List Question
sending n w a l number lent =
    ask 4 (owns n a l)
    ∷ ask 13 (between (w.heard a l + 1) (made_at w.history a l) number)
    ∷ ask 14 (leb (length (message_bytes (edit_message w.history a l number))) (length lent))
    ∷ []

abbrev pub telling : ℕ → ℕ → ℕ → List ℕ → List Question
telling n a l lent = ask 4 (owns n a l) ∷ ask 14 (leb 5 (length lent)) ∷ []

-- each of the lines 1 to k but l passes the test
unfoldable pub all_but : (ℕ → Bool) → ℕ → ℕ → Bool
all_but test l zero = true
all_but test l (suc k) = (eqb l (suc k) || test (suc k)) && all_but test l k

-- the server has room for one more pending edit on line l
abbrev pub room_on : {ranks : List ℕ} → Log ranks → ℕ → Bool
room_on w l = ltb (pending_at w 0 l) max_pending

-- an edit message that goes to end a on line l: it is the next one, and its seen is not overtaken
abbrev pub next : {ranks : List ℕ} → Log ranks → ℕ → ℕ → EditMessage (edits ranks) → List Question → List Question
next w a l m more =
    ask 5 (ltb (taken_at w.history a l) m.number)
    ∷ ask 6 (eqb m.number (taken_at w.history a l + 1))
    ∷ ask 7 (leb (w.heard a l) m.seen)
    ∷ more

-- end a takes a message that was written
abbrev pub taking : {ranks : List ℕ} → ℕ → Log ranks → ℕ → Message (edits ranks) → List Question
taking n w a (up l m) = ask 4 (up_to n a l) ∷ next w a l m (ask 12 (all_but (room_on w) l n) ∷ [])
taking n w a (down l m) = ask 4 (down_to n a l) ∷ next w a l m []
taking n w a (up_ack l seen) = ask 4 (up_to n a l) ∷ ask 7 (leb (w.heard a l) seen) ∷ []
taking n w a (down_ack l seen) = ask 4 (down_to n a l) ∷ ask 7 (leb (w.heard a l) seen) ∷ []

-- no such message was written: no call
abbrev pub handing : {ranks : List ℕ} → ℕ → Log ranks → ℕ → Option (Message (edits ranks)) → ℕ
handing n w a none = 0
handing n w a (some x) = asks (taking n w a x)

-- a packet's messages one after another: how many are taken, and the number of the first that is not; a tail gives 3
pub record Handing : Type 0 where
  pub count : ℕ
  pub refusal : ℕ

unfoldable pub handing_over : {ranks : List ℕ} → ℕ → Log ranks → ℕ → ℕ → List ℕ → List ℕ → Handing
handing_over n w a count [] [] = record { count = count; refusal = 0 }
handing_over n w a count [] (b ∷ bs) = record { count = count; refusal = 3 }
handing_over n w a count (i ∷ is) tail =
    let r = handing n w a (get_elem? w.messages i) in
    cond (eqb r 0) (handing_over n (took w a (get_elem? w.messages i)) a (suc count) is tail) (record { count = count; refusal = r })

-- 15, then each message's own
abbrev pub packet_handed : {ranks : List ℕ} → ℕ → Log ranks → ℕ → List ℕ → List ℕ → Handing
packet_handed n w a is tail =
    let ms = map message_bytes w.messages in
    cond (between 1 max_packet (length (packet_from ms is tail))) (handing_over n w a 0 (known (length ms) is) tail) (record { count = 0; refusal = 15 })

-- a packet of end a for line l, with so much room
abbrev pub packing : {ranks : List ℕ} → ℕ → Log ranks → ℕ → ℕ → ℕ → List Question
packing n w a l room = ask 4 (owns n a l) ∷ ask 14 (first_fits room (map message_bytes (pending_messages w a l))) ∷ []

unfoldable pub number : {ranks : List ℕ} → ℕ → Log ranks → Call → ℕ
number {ranks} n w (insert l p x) = asks (editing w l (edit.Insert p x (rank_of ranks l)))
number n w (delete l p) = asks (editing w l (edit.Delete p))
number n w (take_back l) = asks (undoing w l)
number n w (send a l k lent) = asks (sending n w a l k lent)
number n w (tell a l lent) = asks (telling n a l lent)
number n w (receive a i) = handing n w a (get_elem? w.messages i)
number n w (pack a l offset lent) = asks (packing n w a l (length lent - offset))
number n w (packet a is tail) = (packet_handed n w a is tail).refusal
number n w (junk a bytes) = 3
