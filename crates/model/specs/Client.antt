-- The client's end (01: the bay end) as a record over lists, question 2, and its calls.
use Rattle.std.specs.Prelude.{ℕ, ◌+◌, Bool, not, ◌&&◌, List, [], ◌∷◌, map, leb, ltb, eqb, length, Option}
use Rattle.ot.specs.Edit.{Edit, Nothing, Delete, Insert, fits, transformed}
use Rattle.list.specs.declared.Origin.{Origin}
use Rattle.list.specs.Places.{Place, initial_places, applied_by, numbered}
use Rattle.wire.specs.declared.Header.{Header}
use Rattle.wire.specs.declared.Message.{Message}
use Rattle.wire.specs.declared.Message.TheVariants as message
use Rattle.wire.specs.Bytes.{bytes_of, parsed}
use Rattle.model.specs.Limits.{max_lines, max_inserts, max_edits, max_others, max_items, max_initial}
use Rattle.model.specs.Questions.{Question, ask, asks, every, between, no_report, Answer, answer, Sent, sent}
use Rattle.model.specs.Cross.{priority, inserts_of}
use Rattle.model.specs.Packets.{packed, unpacked}
use Rattle.model.specs.Ranks.{rank_of, ranking}
use Rattle.model.specs.Inverse.{inverse_of, is_nothing, inverse_stands, sound_inverse}
use Rattle.model.specs.Line.{Line, no_line, other, line_tests, roomy, line_keeps, line_message, send_questions, pending_numbers, line_acked, line_taken, carried, line_report, seen_questions, take_questions, takes_by, reads_by}

pub record Client : Type 0 where
  -- how many clients the sheet has, and which this one is
  pub n : ℕ
  pub line : ℕ
  -- the ranks of lines 1 to n
  pub ranks : List ℕ
  pub items : List Place
  -- what it keeps of its line
  pub own : Line
  -- the inverse of its latest edit, past each edit that it took since (02: N7); nothing before its first edit
  pub inverse : Edit

-- the rank of its own line
abbrev pub own_rank : Client → ℕ
own_rank c = rank_of c.ranks c.line

-- what a refused opening returns
abbrev pub no_client : Client
no_client = record { n = 0; line = 0; ranks = []; items = []; own = no_line; inverse = Nothing }

-- question 2, test by test
abbrev pub client_tests : Client → List Bool
client_tests c =
    between 1 max_lines c.n
    ∷ between 1 c.n c.line
    ∷ ranking c.n c.ranks
    ∷ leb (length c.items) max_items
    ∷ numbered c.items
    ∷ leb c.own.taken max_others
    ∷ sound_inverse (own_rank c) c.own.made c.inverse
    ∷ line_tests c.own.made (eqb (own_rank c)) c.own

unfoldable pub sound_client : Client → Bool
sound_client c = every (client_tests c)

abbrev pub open_client_questions : ℕ → ℕ → List ℕ → List ℕ → List Question
open_client_questions n line ranks items =
    ask 1 (every (between 1 max_lines n ∷ between 1 n line ∷ leb (length items) max_initial ∷ [])) ∷ ask 16 (ranking n ranks) ∷ []

unfoldable pub open_client : ℕ → ℕ → List ℕ → List ℕ → Answer Client
open_client n line ranks items =
    answer
    (asks (open_client_questions n line ranks items))
    no_client
    (record { n = n; line = line; ranks = ranks; items = initial_places items; own = no_line; inverse = Nothing })
    no_report

-- the client with another list, line and inverse
abbrev pub with : Client → List Place → Line → Edit → Client
with c items v e = record { n = c.n; line = c.line; ranks = c.ranks; items = items; own = v; inverse = e }

-- the origin of its edit of a number
abbrev pub origin_here : Client → ℕ → Origin
origin_here c number = record { line = c.line; number = number }

-- the list once the edit is made here
abbrev pub list_then : Client → Edit → List Place
list_then c e = applied_by (origin_here c (c.own.made + 1)) e c.items

-- An edit made here: applied, counted and kept, and its inverse is stored.
abbrev pub edited : Client → Edit → Client
edited c e = with c (list_then c e) (line_keeps (c.own.inserts + inserts_of e) e c.own) (inverse_of (own_rank c) c.items e)

-- 9 to 12
abbrev pub make_questions : Client → Edit → List Question
make_questions c e =
    ask 9 (fits e (length c.items) && leb (length (list_then c e)) max_items)
    ∷ ask 10 (leb (c.own.inserts + inserts_of e) max_inserts)
    ∷ ask 11 (ltb c.own.made max_edits)
    ∷ ask 12 (roomy c.own)
    ∷ []

abbrev pub edit_questions : Client → Edit → List Question
edit_questions c e = ask 2 (sound_client c) ∷ make_questions c e

unfoldable pub edit_client : Client → Edit → Answer Client
edit_client c e = answer (asks (edit_questions c e)) c (edited c e) no_report

-- the item goes before the one at the position; its priority is the line's rank
abbrev pub insert_client : Client → ℕ → ℕ → Answer Client
insert_client c p x = edit_client c (Insert p x (own_rank c))

abbrev pub delete_client : Client → ℕ → Answer Client
delete_client c p = edit_client c (Delete p)

-- Taking back: the inverse is made as an ordinary edit, if there is one.
abbrev pub take_back_questions : Client → List Question
take_back_questions c = ask 2 (sound_client c) ∷ ask 17 (not (is_nothing c.inverse)) ∷ make_questions c c.inverse

unfoldable pub take_back_client : Client → Answer Client
take_back_client c =
    answer
    (asks (take_back_questions c))
    c
    (edited c c.inverse)
    no_report

abbrev pub client_message : Client → ℕ → Message
client_message c number = line_message c.line 0 (origin_here c number) c.own number

abbrev pub send_client_questions : Client → ℕ → ℕ → List ℕ → List Question
send_client_questions c line number lent =
    ask 2 (sound_client c) ∷ ask 4 (eqb line c.line) ∷ send_questions c.own number (client_message c number) lent

unfoldable pub send_client : Client → ℕ → ℕ → List ℕ → Sent
send_client c line number lent =
    sent
    (asks (send_client_questions c line number lent))
    (bytes_of (client_message c number))
    lent

-- a packet of its pending edits, in number order, from an offset of the buffer on
unfoldable pub pack_client : Client → ℕ → List ℕ → ℕ → Sent
pack_client c line lent offset =
    packed (ask 2 (sound_client c) ∷ ask 4 (eqb line c.line) ∷ []) (map (λ k. bytes_of (client_message c k)) (pending_numbers c.own)) offset lent

abbrev pub tell_client_questions : Client → ℕ → List ℕ → List Question
tell_client_questions c line lent =
    ask 2 (sound_client c) ∷ ask 4 (eqb line c.line) ∷ ask 14 (leb 5 (length lent)) ∷ []

unfoldable pub tell_client : Client → ℕ → List ℕ → Sent
tell_client c line lent =
    sent
    (asks (tell_client_questions c line lent))
    (bytes_of (message.Ack c.line 0 c.own.taken))
    lent

abbrev pub client_acked : Client → ℕ → Client
client_acked c seen = with c c.items (line_acked seen c.own) c.inverse

-- the inverse once an edit is taken: past the form in which that is applied
abbrev pub inverse_then : Client → ℕ → Edit → Edit
inverse_then c seen e = transformed c.inverse (carried c.own seen e)

abbrev pub client_taken : Client → Origin → ℕ → Edit → Client
client_taken c o seen e =
    with c (applied_by o (carried c.own seen e) c.items) (line_taken c.own.inserts seen e c.own) (inverse_then c seen e)

abbrev pub client_edit_questions : Client → Header → Edit → List Question
client_edit_questions c h e =
    ask 2 (sound_client c)
    ∷ ask 4
    (eqb h.direction 1 && eqb h.line c.line && priority (other c.n (own_rank c)) e && other c.n c.line h.origin.line)
    ∷ take_questions c.own c.items h e (ask 9 (inverse_stands (inverse_then c h.seen e)) ∷ [])

unfoldable pub client_takes_edit : Client → Header → Edit → Answer Client
client_takes_edit c h e =
    answer
    (asks (client_edit_questions c h e))
    c
    (client_taken c h.origin h.seen e)
    (line_report c.own h.seen e)

abbrev pub client_ack_questions : Client → ℕ → ℕ → ℕ → List Question
client_ack_questions c line direction seen =
    ask 2 (sound_client c) ∷ ask 4 (eqb direction 1 && eqb line c.line) ∷ seen_questions c.own seen

unfoldable pub client_takes_ack : Client → ℕ → ℕ → ℕ → Answer Client
client_takes_ack c line direction seen =
    answer
    (asks (client_ack_questions c line direction seen))
    c
    (client_acked c seen)
    no_report

abbrev pub client_takes : Client → Message → Answer Client
client_takes c = takes_by (client_takes_edit c) (client_takes_ack c)

abbrev pub client_reads : Client → Option Message → Answer Client
client_reads c = reads_by sound_client c (client_takes c)

unfoldable pub take_client : Client → List ℕ → Answer Client
take_client c bytes = client_reads c (parsed bytes)

-- a packet: its messages taken one after another
unfoldable pub packet_client : Client → List ℕ → Answer Client
packet_client c bytes = unpacked sound_client take_client c bytes
