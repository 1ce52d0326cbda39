-- What a list of calls leaves by the definitions (01: "What an edit becomes", "Meeting"). It is computed from the calls and from which of
-- them were refused, and from nothing else that a sheet answers.
use Rattle.std.specs.Prelude.{ℕ, zero, suc, ◌-◌, cond, List, [], ◌∷◌, ◌++◌, map, eqb, leb, length, get_or}
use Rattle.std.proofs.Math.Option.{Option, none, some}
use Rattle.std.proofs.Math.ListN.{get_elem?}
use Rattle.ot.specs.Edit as edit
use Rattle.ot.specs.Edit.{Edit, transformed}
use Rattle.list.specs.Places.{Place, initial_places}
use Rattle.wire.specs.declared.Header.{Header}
use Rattle.wire.specs.declared.Message as wire
use Rattle.wire.specs.declared.Message.TheVariants as message
use Rattle.wire.specs.Message.{message_of}
use Rattle.wire.specs.Bytes.{bytes_of}
use Rattle.jupiter.specs.Algebra.{Algebra}
use Rattle.jupiter.specs.Made.{Made, mine, others}
use Rattle.jupiter.specs.Form.{form, in_order}
use Rattle.jupiter.specs.Point.{blank, own_form, oth_form}
use Rattle.jupiter.specs.Ends.{EditMessage}
use Rattle.jupiter.specs.Run.{Message, up, down, up_ack, down_ack}
use Rattle.jupiter.specs.History.{History, no_history, at, order, made_by, missing, after_edit, after_up, after_down, new_edit}
use Rattle.model.specs.Questions.{Report, no_report}
use Rattle.model.specs.Ranks.{rank_of}
use Rattle.model.specs.Inverse.{inverse_of}
use Rattle.model.specs.Packets.{counted}
use Rattle.model.specs.Line.{position_at, numbers_from}
use Rattle.model.specs.Edits.{Named, Rule, edits_by, edits, applied_named}
use Rattle.model.specs.Sheet.{Call, insert, delete, take_back, send, tell, receive, pack, packet, junk}

abbrev pub header_of : {by : Rule} → ℕ → ℕ → EditMessage (edits_by by) → Header
header_of l direction m = record { line = l; direction = direction; number = m.number; seen = m.seen; origin = m.edit.origin }

-- a message of the theory as one with its fields; direction 0 goes up to the server, 1 down
abbrev pub wire_message : {by : Rule} → Message (edits_by by) → wire.Message
wire_message (up l m) = message_of (header_of l 0 m) m.edit.edit
wire_message (down l m) = message_of (header_of l 1 m) m.edit.edit
wire_message (up_ack l seen) = message.Ack l 0 seen
wire_message (down_ack l seen) = message.Ack l 1 seen

abbrev pub message_bytes : {by : Rule} → Message (edits_by by) → List ℕ
message_bytes x = bytes_of (wire_message x)

pub record Log (ranks : List ℕ) : Type 0 where
  -- which edits were made, served and applied
  pub history : History (edits ranks)
  -- the list of each end: the initial list with each edit applied in its form at what the end had applied (0: the server's)
  pub shown : ℕ → List Place
  -- what taking back makes at client l: the inverse of its latest edit on the list that it showed then, past the form of each edit that it has
  -- applied since; nothing before its first edit
  pub undo : ℕ → Edit
  -- the last seen that end a took on line l, 0 before any
  pub heard : ℕ → ℕ → ℕ
  -- the messages written, and the report that each editing and taking owes
  pub messages : List (Message (edits ranks))
  pub reports : List Report

abbrev pub no_log : {ranks : List ℕ} → List ℕ → Log ranks
no_log initial = record { history = no_history; shown = λ a. initial_places initial; undo = λ l. edit.Nothing; heard = λ a l. 0; messages = []; reports = [] }

-- the edits that end a has applied, in the order of the definition
unfoldable pub set_of : {𝓐 : Algebra} → History 𝓐 → ℕ → List (Made 𝓐)
set_of h zero = h.served
set_of h (suc l) = in_order (order h (suc l)) (h.applied (suc l))

-- the counts of an end on line l: edits made there, edits taken there
unfoldable pub made_at : {𝓐 : Algebra} → History 𝓐 → ℕ → ℕ → ℕ
made_at h zero l = length (others l h.served)
made_at h (suc a) l = made_by h (suc a)

unfoldable pub taken_at : {𝓐 : Algebra} → History 𝓐 → ℕ → ℕ → ℕ
taken_at h zero l = length (mine l h.served)
taken_at h (suc a) l = length (others (suc a) (h.applied (suc a)))

-- An edit goes out in its form at what its sender has applied, less the edits that go out on that line from its number on: at the client
-- the first number - 1 of its own and all that it took; at the server all that it took on the line and the first number - 1 of the others.
unfoldable pub edit_message : {𝓐 : Algebra} → History 𝓐 → ℕ → ℕ → ℕ → Message 𝓐
edit_message h zero l number =
    let seen = taken_at h zero l in
    down l (record { number = number; seen = seen; edit = oth_form l (order h l) seen (number - 1) })
edit_message h (suc a) l number =
    let seen = taken_at h (suc a) (suc a) in
    up (suc a) (record { number = number; seen = seen; edit = own_form (suc a) (order h (suc a)) (number - 1) seen })

unfoldable pub ack_message : {𝓐 : Algebra} → History 𝓐 → ℕ → ℕ → Message 𝓐
ack_message h zero l = down_ack l (taken_at h zero l)
ack_message h (suc a) l = up_ack (suc a) (taken_at h (suc a) (suc a))

-- an end applies an edit in its form at what it has applied
abbrev pub shows : {ranks : List ℕ} → Log ranks → ℕ → Made (edits ranks) → ℕ → List Place
shows w a e = at a (applied_named (form e (set_of w.history a)) (w.shown a)) w.shown

abbrev pub writes : {ranks : List ℕ} → Log ranks → Message (edits ranks) → Log ranks
writes w m =
    record { history = w.history; shown = w.shown; undo = w.undo; heard = w.heard; messages = w.messages ++ (m ∷ []); reports = w.reports }

-- end a took a message with this seen on line l
abbrev pub hearing : {ranks : List ℕ} → Log ranks → ℕ → ℕ → ℕ → ℕ → ℕ → ℕ
hearing w a l seen = at a (at l seen (w.heard a)) w.heard

-- an editing or taking that changes nothing, or only what was heard
abbrev pub hears : {ranks : List ℕ} → Log ranks → (ℕ → ℕ → ℕ) → Log ranks
hears w heard =
    record { history = w.history; shown = w.shown; undo = w.undo; heard = heard; messages = w.messages; reports = w.reports ++ (no_report ∷ []) }

-- the next edit of client l, with its origin
abbrev pub named_by : {ranks : List ℕ} → Log ranks → ℕ → Edit → Named
named_by w l e = record { origin = record { line = l; number = suc (made_by w.history l) }; edit = e }

abbrev pub edited : {ranks : List ℕ} → Log ranks → ℕ → Edit → Log ranks
edited {ranks} w l e =
    record {
      history = after_edit l (named_by w l e) w.history;
      shown = shows w l (new_edit w.history l (named_by w l e));
      undo = at l (inverse_of (rank_of ranks l) (w.shown l) e) w.undo;
      heard = w.heard;
      messages = w.messages;
      reports = w.reports ++ (no_report ∷ []);
    }

-- the first edit of a list, where there is one
abbrev pub first : {𝓐 : Algebra} → List (Made 𝓐) → Made 𝓐
first es = get_or es 0 blank

-- end a takes the message m, which carries the edit e, on line l: the edit arrives in the form that the message has, and is applied in its form
-- at what the end has applied
abbrev pub reported : {ranks : List ℕ} → Log ranks → ℕ → ℕ → EditMessage (edits ranks) → Made (edits ranks) → Report
reported w a l m e =
    record {
      passed = made_at w.history a l - m.seen;
      arrived = position_at m.edit.edit;
      applied = position_at (form e (set_of w.history a)).edit;
    }

-- the server takes client l's next edit; client l takes its next one
abbrev pub took_up : {ranks : List ℕ} → Log ranks → ℕ → EditMessage (edits ranks) → Log ranks
took_up w l m =
    record {
      history = after_up l w.history;
      shown = shows w 0 (first (w.history.untaken l));
      undo = w.undo;
      heard = hearing w 0 l m.seen;
      messages = w.messages;
      reports = w.reports ++ (reported w 0 l m (first (w.history.untaken l)) ∷ []);
    }

abbrev pub took_down : {ranks : List ℕ} → Log ranks → ℕ → EditMessage (edits ranks) → Log ranks
took_down w l m =
    record {
      history = after_down l w.history;
      shown = shows w l (first (missing w.history l));
      undo = at l (transformed (w.undo l) (form (first (missing w.history l)) (set_of w.history l)).edit) w.undo;
      heard = hearing w l l m.seen;
      messages = w.messages;
      reports = w.reports ++ (reported w l l m (first (missing w.history l)) ∷ []);
    }

-- The message is known from the sending that wrote it. One that an end had no right to take (another line's, or going the other way)
-- leaves the log as it is, whatever the end answered.
unfoldable pub took : {ranks : List ℕ} → Log ranks → ℕ → Option (Message (edits ranks)) → Log ranks
took w a none = hears w w.heard
took w a (some (up l m)) = cond (eqb a 0) (took_up w l m) (hears w w.heard)
took w a (some (down l m)) = cond (eqb a l) (took_down w l m) (hears w w.heard)
took w a (some (up_ack l seen)) = cond (eqb a 0) (hears w (hearing w 0 l seen)) (hears w w.heard)
took w a (some (down_ack l seen)) = cond (eqb a l) (hears w (hearing w l l seen)) (hears w w.heard)

-- of messages in their order those up to the first that does not fit into so many bytes
unfoldable pub fitting_messages : {by : Rule} → ℕ → List (Message (edits_by by)) → List (Message (edits_by by))
fitting_messages room [] = []
fitting_messages room (m ∷ ms) =
    cond (leb (length (message_bytes m)) room) (m ∷ fitting_messages (room - length (message_bytes m)) ms) []

-- the messages of the pending edits of line l at end a: those after the last seen that it took there
abbrev pub pending_messages : {ranks : List ℕ} → Log ranks → ℕ → ℕ → List (Message (edits ranks))
pending_messages w a l =
    let from = w.heard a l in
    map (edit_message w.history a l) (numbers_from (suc from) (made_at w.history a l - from))

-- end a writes a packet for line l into so many bytes
abbrev pub packs : {ranks : List ℕ} → Log ranks → List (Message (edits ranks)) → Log ranks
packs w ms =
    record { history = w.history; shown = w.shown; undo = w.undo; heard = w.heard; messages = w.messages ++ ms; reports = w.reports }

-- end a takes the first k messages of a packet; the packet reports how many
unfoldable pub took_first : {ranks : List ℕ} → Log ranks → ℕ → ℕ → List ℕ → Log ranks
took_first w a zero is = w
took_first w a (suc k) [] = w
took_first w a (suc k) (i ∷ is) = took_first (took w a (get_elem? w.messages i)) a k is

abbrev pub took_packet : {ranks : List ℕ} → Log ranks → ℕ → ℕ → List ℕ → Log ranks
took_packet w a k is =
    let then = took_first w a k is in
    record {
      history = then.history;
      shown = then.shown;
      undo = then.undo;
      heard = then.heard;
      messages = then.messages;
      reports = w.reports ++ (counted k ∷ []);
    }

-- a call that was not refused; a packet is logged by how many of its messages were taken (`took_packet`)
unfoldable pub logged : {ranks : List ℕ} → Log ranks → Call → Log ranks
logged {ranks} w (insert l p x) = edited w l (edit.Insert p x (rank_of ranks l))
logged w (delete l p) = edited w l (edit.Delete p)
logged w (take_back l) = edited w l (w.undo l)
logged w (send a l number lent) = writes w (edit_message w.history a l number)
logged w (tell a l lent) = writes w (ack_message w.history a l)
logged w (receive a i) = took w a (get_elem? w.messages i)
logged w (pack a l offset lent) = packs w (fitting_messages (length lent - offset) (pending_messages w a l))
logged w (packet a is tail) = w
logged w (junk a bytes) = hears w w.heard

-- a call that was refused: an editing or taking reports nothing
unfoldable pub refused_log : {ranks : List ℕ} → Log ranks → Call → Log ranks
refused_log w (insert l p x) = hears w w.heard
refused_log w (delete l p) = hears w w.heard
refused_log w (take_back l) = hears w w.heard
refused_log w (send a l number lent) = w
refused_log w (tell a l lent) = w
refused_log w (receive a i) = hears w w.heard
refused_log w (pack a l offset lent) = w
refused_log w (packet a is tail) = w
refused_log w (junk a bytes) = hears w w.heard

-- the log after a call, by the number of its refusal or 0
unfoldable pub log : {ranks : List ℕ} → Log ranks → Call → ℕ → Log ranks
log w c r = cond (eqb r 0) (logged w c) (refused_log w c)
