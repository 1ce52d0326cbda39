-- The server's end as a record over lists, question 2, and its calls.
use Rattle.std.specs.Prelude.{ℕ, zero, suc, ◌+◌, ◌-◌, Bool, true, false, ◌&&◌, List, [], ◌∷◌, ◌++◌, map, leb, eqb, length, get_or, drop, replicate, Option}
use Rattle.ot.specs.Edit.{Edit}
use Rattle.list.specs.declared.Origin.{Origin}
use Rattle.list.specs.Places.{Place, initial_places, applied_by, numbered}
use Rattle.wire.specs.declared.Header.{Header}
use Rattle.wire.specs.declared.Message.{Message}
use Rattle.wire.specs.declared.Message.TheVariants as message
use Rattle.wire.specs.Bytes.{bytes_of, parsed}
use Rattle.model.specs.Limits.{max_lines, max_inserts, max_edits, max_items, max_initial}
use Rattle.model.specs.Questions.{Question, ask, asks, every, between, no_report, Answer, answer, Sent, sent}
use Rattle.model.specs.Cross.{priority, inserts_of}
use Rattle.model.specs.Packets.{packed, unpacked}
use Rattle.model.specs.Ranks.{rank_of, ranking}
use Rattle.model.specs.Line.{Line, no_line, other, line_tests, roomy, line_keeps, line_message, send_questions, pending_numbers, line_acked, line_taken, carried, line_report, seen_questions, take_questions, takes_by, reads_by}

pub record Server : Type 0 where
  pub n : ℕ
  -- how many items it was opened with
  pub initial : ℕ
  -- of lines 1 to n
  pub ranks : List ℕ
  pub items : List Place
  -- lines 1 to n
  pub lines : List Line
  -- of lines 1 to n: the origins of the pending edits, in their order
  pub makers : List (List Origin)

-- what a refused opening returns
abbrev pub no_server : Server
no_server = record { n = 0; initial = 0; ranks = []; items = []; lines = []; makers = [] }

-- line l of 1 to n
abbrev pub line_of : Server → ℕ → Line
line_of s l = get_or s.lines (l - 1) no_line

abbrev pub makers_of : Server → ℕ → List Origin
makers_of s l = get_or s.makers (l - 1) []

-- a number of each line, added up
abbrev pub total : (Line → ℕ) → List Line → ℕ
total f [] = 0
total f (v ∷ vs) = f v + total f vs

-- question 2 for line l, where all lines together took sum edits
abbrev pub server_line_tests : ℕ → List ℕ → ℕ → ℕ → Line → List Bool
server_line_tests n ranks sum l v = eqb v.made (sum - v.taken) ∷ line_tests v.taken (other n (rank_of ranks l)) v

unfoldable pub sound_line : ℕ → List ℕ → ℕ → ℕ → Line → Bool
sound_line n ranks sum l v = every (server_line_tests n ranks sum l v)

-- the lines from l on
unfoldable pub sound_lines : ℕ → List ℕ → ℕ → ℕ → List Line → Bool
sound_lines n ranks sum l [] = true
sound_lines n ranks sum l (v ∷ vs) = sound_line n ranks sum l v && sound_lines n ranks sum (suc l) vs

-- An edit that is pending for line l was made by another client, as one of its 400.
abbrev pub other_maker : ℕ → ℕ → Origin → Bool
other_maker n l o = other n l o.line && between 1 max_edits o.number

unfoldable pub other_makers : ℕ → ℕ → List Origin → Bool
other_makers n l [] = true
other_makers n l (o ∷ os) = other_maker n l o && other_makers n l os

-- the origins of the lines from l on: as many as there are pending edits
unfoldable pub sound_makers : ℕ → ℕ → List Line → List (List Origin) → Bool
sound_makers n l [] [] = true
sound_makers n l [] (os ∷ oss) = false
sound_makers n l (v ∷ vs) [] = false
sound_makers n l (v ∷ vs) (os ∷ oss) = eqb (length os) (v.made - v.acked) && (other_makers n l os && sound_makers n (suc l) vs oss)

-- question 2, test by test
abbrev pub server_tests : Server → List Bool
server_tests s =
    between 1 max_lines s.n
    ∷ leb s.initial max_initial
    ∷ ranking s.n s.ranks
    ∷ leb (length s.items) max_items
    ∷ numbered s.items
    ∷ eqb (length s.lines) s.n
    ∷ sound_lines s.n s.ranks (total (λ v. v.taken) s.lines) 1 s.lines
    ∷ sound_makers s.n 1 s.lines s.makers
    ∷ leb (length s.items) (s.initial + total (λ v. v.inserts) s.lines)
    ∷ []

unfoldable pub sound_server : Server → Bool
sound_server s = every (server_tests s)

abbrev pub open_server_questions : ℕ → List ℕ → List ℕ → List Question
open_server_questions n ranks items =
    ask 1 (every (between 1 max_lines n ∷ leb (length items) max_initial ∷ [])) ∷ ask 16 (ranking n ranks) ∷ []

unfoldable pub open_server : ℕ → List ℕ → List ℕ → Answer Server
open_server n ranks items =
    answer
    (asks (open_server_questions n ranks items))
    no_server
    (record { n = n; initial = length items; ranks = ranks; items = initial_places items; lines = replicate n no_line; makers = replicate n [] })
    no_report

-- the origin of the pending edit of a number
abbrev pub maker_at : Server → ℕ → ℕ → Origin
maker_at s line number = get_or (makers_of s line) (number - ((line_of s line).acked + 1)) (record { line = 0; number = 0 })

abbrev pub server_message : Server → ℕ → ℕ → Message
server_message s line number = line_message line 1 (maker_at s line number) (line_of s line) number

abbrev pub send_server_questions : Server → ℕ → ℕ → List ℕ → List Question
send_server_questions s line number lent =
    ask 2 (sound_server s) ∷ ask 4 (between 1 s.n line) ∷ send_questions (line_of s line) number (server_message s line number) lent

unfoldable pub send_server : Server → ℕ → ℕ → List ℕ → Sent
send_server s line number lent =
    sent
    (asks (send_server_questions s line number lent))
    (bytes_of (server_message s line number))
    lent

-- a packet of a line's pending edits, in number order, from an offset of the buffer on
unfoldable pub pack_server : Server → ℕ → List ℕ → ℕ → Sent
pack_server s line lent offset =
    packed (ask 2 (sound_server s) ∷ ask 4 (between 1 s.n line) ∷ [])
    (map (λ k. bytes_of (server_message s line k)) (pending_numbers (line_of s line))) offset lent

abbrev pub tell_server_questions : Server → ℕ → List ℕ → List Question
tell_server_questions s line lent =
    ask 2 (sound_server s) ∷ ask 4 (between 1 s.n line) ∷ ask 14 (leb 5 (length lent)) ∷ []

unfoldable pub tell_server : Server → ℕ → List ℕ → Sent
tell_server s line lent =
    sent
    (asks (tell_server_questions s line lent))
    (bytes_of (message.Ack line 1 (line_of s line).taken))
    lent

-- f at place i, counted from 0, and g at every other
unfoldable pub at_place : {A : Type 0} → ℕ → (A → A) → (A → A) → List A → List A
at_place i f g [] = []
at_place zero f g (v ∷ vs) = f v ∷ map g vs
at_place (suc i) f g (v ∷ vs) = g v ∷ at_place i f g vs

-- the origins left once those of the edits up to seen are dropped
abbrev pub unacked_makers : Server → ℕ → ℕ → List Origin → List Origin
unacked_makers s line seen os = drop (seen - (line_of s line).acked) os

abbrev pub server_acked : Server → ℕ → ℕ → Server
server_acked s line seen =
    record {
      n = s.n;
      initial = s.initial;
      ranks = s.ranks;
      items = s.items;
      lines = at_place (line - 1) (line_acked seen) (λ v. v) s.lines;
      makers = at_place (line - 1) (unacked_makers s line seen) (λ os. os) s.makers;
    }

abbrev pub server_taken : Server → ℕ → Origin → ℕ → Edit → Server
server_taken s line o seen e =
    record {
      n = s.n;
      initial = s.initial;
      ranks = s.ranks;
      items = applied_by o (carried (line_of s line) seen e) s.items;
      lines =
          at_place (line - 1) (λ v. line_taken (v.inserts + inserts_of e) seen e v)
          (λ v. line_keeps v.inserts (carried (line_of s line) seen e) v) s.lines;
      makers = at_place (line - 1) (unacked_makers s line seen) (λ os. os ++ (o ∷ [])) s.makers;
    }

-- every line but the one at place i, counted from 0, has room for one more pending edit
unfoldable pub others_roomy : ℕ → List Line → Bool
others_roomy i [] = true
others_roomy zero (v ∷ vs) = every (map roomy vs)
others_roomy (suc i) (v ∷ vs) = roomy v && others_roomy i vs

-- an edit that comes up was made by the client on its line, under its own number
abbrev pub own_origin : Header → Bool
own_origin h = eqb h.origin.line h.line && eqb h.origin.number h.number

abbrev pub server_edit_questions : Server → Header → Edit → List Question
server_edit_questions s h e =
    ask 2 (sound_server s)
    ∷ ask 4
    (eqb h.direction 0 && between 1 s.n h.line && priority (eqb (rank_of s.ranks h.line)) e && own_origin h)
    ∷ take_questions (line_of s h.line) s.items h e
    (ask 10 (leb ((line_of s h.line).inserts + inserts_of e) max_inserts) ∷ ask 12 (others_roomy (h.line - 1) s.lines) ∷ [])

unfoldable pub server_takes_edit : Server → Header → Edit → Answer Server
server_takes_edit s h e =
    answer
    (asks (server_edit_questions s h e))
    s
    (server_taken s h.line h.origin h.seen e)
    (line_report (line_of s h.line) h.seen e)

abbrev pub server_ack_questions : Server → ℕ → ℕ → ℕ → List Question
server_ack_questions s line direction seen =
    ask 2 (sound_server s) ∷ ask 4 (eqb direction 0 && between 1 s.n line) ∷ seen_questions (line_of s line) seen

unfoldable pub server_takes_ack : Server → ℕ → ℕ → ℕ → Answer Server
server_takes_ack s line direction seen =
    answer
    (asks (server_ack_questions s line direction seen))
    s
    (server_acked s line seen)
    no_report

abbrev pub server_takes : Server → Message → Answer Server
server_takes s = takes_by (server_takes_edit s) (server_takes_ack s)

abbrev pub server_reads : Server → Option Message → Answer Server
server_reads s = reads_by sound_server s (server_takes s)

unfoldable pub take_server : Server → List ℕ → Answer Server
take_server s bytes = server_reads s (parsed bytes)

-- a packet: its messages taken one after another
unfoldable pub packet_server : Server → List ℕ → Answer Server
packet_server s bytes = unpacked sound_server take_server s bytes
