-- Lists of calls on the ends of a sheet (01: "Meeting").
use Rattle.std.specs.Prelude.{ℕ, zero, suc, Bool, true, false, ◌&&◌, cond, List, [], ◌∷◌, ◌++◌, leb, ltb, eqb, length, take, drop, Some, None}
use Rattle.std.specs.declared.option.Option as option
use Rattle.std.proofs.Math.Option.{Option, none, some}
use Rattle.std.proofs.Math.ListN.{get_elem?}
use Rattle.wire.specs.declared.Message.{Message}
use Rattle.wire.specs.Bytes.{parsed}
use Rattle.jupiter.specs.History.{at}
use Rattle.model.specs.Questions.{Answer, Report, Sent, between}
use Rattle.model.specs.Sheet.{Sheet, Call, insert, delete, take_back, send, tell, receive, pack, packet, junk}
use Rattle.model.specs.Packets.{next_size, messages_in, known, packet_from}
use Rattle.model.specs.Log.{Log, no_log, log, took_packet}

-- the bytes of a list are bytes
unfoldable pub are_bytes : List ℕ → Bool
are_bytes [] = true
are_bytes (b ∷ bs) = ltb b 256 && are_bytes bs

-- numbers of a list of items
unfoldable pub are_items : List ℕ → Bool
are_items [] = true
are_items (x ∷ xs) = ltb x 4294967296 && are_items xs

abbrev pub unreadable : option.Option Message → Bool
unreadable None = true
unreadable (Some m) = false

-- What can be called at all: ends that there are, numbers that fit the widths of a call's parameters, bytes; and junk is bytes that no
-- message has.
unfoldable pub callable : ℕ → Call → Bool
callable n (insert l p x) = between 1 n l && ltb p 65536 && ltb x 4294967296
callable n (delete l p) = between 1 n l && ltb p 65536
callable n (take_back l) = between 1 n l
callable n (send a l number lent) = leb a n && ltb l 256 && ltb number 65536 && are_bytes lent
callable n (tell a l lent) = leb a n && ltb l 256 && are_bytes lent
callable n (receive a i) = leb a n
callable n (pack a l offset lent) = leb a n && ltb l 256 && are_bytes lent
callable n (packet a is tail) = leb a n && are_bytes tail && unreadable (parsed (take (next_size tail) tail))
callable n (junk a bytes) = leb a n && are_bytes bytes && unreadable (parsed bytes)

module _ (S : Sheet) where
  -- the ends as the last call on each left them, the messages written, the reports answered, and the log of the definitions
  pub record State (ranks : List ℕ) : Type 0 where
    pub ends : ℕ → S.End
    pub messages : List (List ℕ)
    pub reports : List Report
    pub recorded : Log ranks

  -- a call that answers an end: that end is the new one, refused or not
  abbrev pub answered : {ranks : List ℕ} → State ranks → ℕ → Call → Answer S.End → State ranks
  answered s a c r =
      record {
        ends = at a r.end s.ends;
        messages = s.messages;
        reports = s.reports ++ (r.report ∷ []);
        recorded = log s.recorded c r.refusal;
      }

  -- a sending changes no end; what it wrote is a message
  abbrev pub written : {ranks : List ℕ} → State ranks → Call → Sent → State ranks
  written s c r =
      record {
        ends = s.ends;
        messages = cond (eqb r.refusal 0) (s.messages ++ (take r.written r.buffer ∷ [])) s.messages;
        reports = s.reports;
        recorded = log s.recorded c r.refusal;
      }

  -- no such message was written: no call
  unfoldable pub handed : {ranks : List ℕ} → State ranks → ℕ → Call → Option (List ℕ) → State ranks
  handed s a c none = s
  handed s a c (some bytes) = answered s a c (S.take (s.ends a) bytes)

  -- a packet that was written: each of its messages is one that was written
  abbrev pub packed_into : {ranks : List ℕ} → State ranks → Call → ℕ → Sent → State ranks
  packed_into s c offset r =
      record {
        ends = s.ends;
        messages = s.messages ++ messages_in r.written (take r.written (drop offset r.buffer));
        reports = s.reports;
        recorded = log s.recorded c r.refusal;
      }

  -- the bytes of a packet of messages that were written, with a tail
  abbrev pub packet_of : {ranks : List ℕ} → State ranks → List ℕ → List ℕ → List ℕ
  packet_of s is tail = packet_from s.messages is tail

  -- a packet that was taken: as many of its messages are logged as the answer says
  abbrev pub packet_taken : {ranks : List ℕ} → State ranks → ℕ → List ℕ → Answer S.End → State ranks
  packet_taken s a is r =
      record {
        ends = at a r.end s.ends;
        messages = s.messages;
        reports = s.reports ++ (r.report ∷ []);
        recorded = took_packet s.recorded a r.report.passed (known (length s.messages) is);
      }

  unfoldable pub call : {ranks : List ℕ} → State ranks → Call → State ranks
  call s (insert l p x) = answered s l (insert l p x) (S.insert (s.ends l) p x)
  call s (delete l p) = answered s l (delete l p) (S.delete (s.ends l) p)
  call s (take_back l) = answered s l (take_back l) (S.take_back (s.ends l))
  call s (send a l number lent) = written s (send a l number lent) (S.send (s.ends a) l number lent)
  call s (tell a l lent) = written s (tell a l lent) (S.tell (s.ends a) l lent)
  call s (receive a i) = handed s a (receive a i) (get_elem? s.messages i)
  call s (pack a l offset lent) = packed_into s (pack a l offset lent) offset (S.pack (s.ends a) l lent offset)
  call s (packet a is tail) = packet_taken s a is (S.take_packet (s.ends a) (packet_of s is tail))
  call s (junk a bytes) = answered s a (junk a bytes) (S.take (s.ends a) bytes)

  -- the number that it is answered with
  abbrev pub handed_number : {ranks : List ℕ} → State ranks → ℕ → Option (List ℕ) → ℕ
  handed_number s a none = 0
  handed_number s a (some bytes) = (S.take (s.ends a) bytes).refusal

  unfoldable pub number_of : {ranks : List ℕ} → State ranks → Call → ℕ
  number_of s (insert l p x) = (S.insert (s.ends l) p x).refusal
  number_of s (delete l p) = (S.delete (s.ends l) p).refusal
  number_of s (take_back l) = (S.take_back (s.ends l)).refusal
  number_of s (send a l number lent) = (S.send (s.ends a) l number lent).refusal
  number_of s (tell a l lent) = (S.tell (s.ends a) l lent).refusal
  number_of s (receive a i) = handed_number s a (get_elem? s.messages i)
  number_of s (pack a l offset lent) = (S.pack (s.ends a) l lent offset).refusal
  number_of s (packet a is tail) = (S.take_packet (s.ends a) (packet_of s is tail)).refusal
  number_of s (junk a bytes) = (S.take (s.ends a) bytes).refusal

  unfoldable pub run : {ranks : List ℕ} → ℕ → State ranks → List Call → State ranks
  run n s [] = s
  run n s (c ∷ cs) = run n (cond (callable n c) (call s c) s) cs

  -- the ends as opening returned them
  abbrev pub opened : ℕ → List ℕ → List ℕ → ℕ → S.End
  opened n ranks items zero = (S.open_server n ranks items).end
  opened n ranks items (suc l) = (S.open_client n (suc l) ranks items).end

  abbrev pub start : ℕ → (ranks : List ℕ) → List ℕ → State ranks
  start n ranks items = record { ends = opened n ranks items; messages = []; reports = []; recorded = no_log items }
