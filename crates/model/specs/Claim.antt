-- Demands 2 and 3 as one claim over all lists of calls. Each field is a sentence of 01.
use Rattle.std.specs.Prelude.{ℕ, suc, ◌+◌, ◌≤◌, ◌≡◌, true, false, List, [], map, length, take, drop, Some}
use Rattle.list.specs.Seconds.{running_time}
use Rattle.wire.specs.Bytes.{parsed}
use Rattle.jupiter.specs.Form.{replay}
use Rattle.jupiter.specs.History.{History, order, missing}
use Rattle.jupiter.specs.Origins.{Once}
use Rattle.model.specs.Limits.{max_pending, max_packet}
use Rattle.model.specs.Questions.{asks, between, no_report, Answer, Sent}
use Rattle.model.specs.Packets.{counted, handed_over}
use Rattle.model.specs.Client.{open_client_questions}
use Rattle.model.specs.Server.{open_server_questions}
use Rattle.model.specs.Edits.{name_of, edits}
use Rattle.model.specs.Sheet.{Sheet, Call, packet}
use Rattle.model.specs.Log.{made_at, taken_at, edit_message, wire_message, message_bytes}
use Rattle.model.specs.Numbers.{number, packet_handed}
use Rattle.model.specs.Run.{State, are_items, are_bytes, callable, number_of, packet_of, run, start}

-- A refusal hands back the end as it came and reports nothing; a refused sending changes no lent byte, and its length is 0.
abbrev pub Back : {E : Type 0} → E → Answer E → Type 0
Back e a = (a.refusal ≡ 0 → ⊥) → (a.end ≡ e) × (a.report ≡ no_report)

abbrev pub Unwritten : List ℕ → Sent → Type 0
Unwritten lent r = (r.refusal ≡ 0 → ⊥) → (r.written ≡ 0) × (r.buffer ≡ lent)

-- bytes past the message stay
abbrev pub PastStays : List ℕ → Sent → Type 0
PastStays lent r = drop r.written r.buffer ≡ drop r.written lent

-- only the stretch that was written changes
abbrev pub StretchAlone : ℕ → List ℕ → Sent → Type 0
StretchAlone offset lent r =
    (take offset r.buffer ≡ take offset lent) × (drop (offset + r.written) r.buffer ≡ drop (offset + r.written) lent)

module _ (S : Sheet) where
  -- An edit message from one end to another is taken: the sending is not refused, the taking of what it wrote is not refused, and the
  -- receiver has taken one edit more on that line.
  pub record Delivered (from to : S.End) (line number : ℕ) (lent : List ℕ) : Type 0 where
    pub sends : (S.send from line number lent).refusal ≡ 0
    pub takes : (S.take to (take (S.send from line number lent).written (S.send from line number lent).buffer)).refusal ≡ 0
    pub rises : S.taken (S.take to (take (S.send from line number lent).written (S.send from line number lent).buffer)).end line
        ≡ suc (S.taken to line)

  module _ (n : ℕ) {ranks : List ℕ} (s : State S ranks) where
    abbrev pub history : History (edits ranks)
    history = s.recorded.history

    -- 01: the line's buffer is full: made there is 64 above the last seen that the server took there
    abbrev pub Full : ℕ → Type 0
    Full j = S.made (s.ends 0) j ≡ s.recorded.heard 0 j + max_pending

    -- the lent bytes are enough for the message that Sending writes at end a for the edit of that number of line l
    abbrev pub Enough : ℕ → ℕ → ℕ → List ℕ → Type 0
    Enough a l number lent = (are_bytes lent ≡ true) × (length (message_bytes (edit_message history a l number)) ≤ length lent)

    pub record OnLine (l : ℕ) : Type 0 where
      -- the counts of both ends are those of the history
      pub client_made : S.made (s.ends l) l ≡ made_at history l l
      pub client_taken_lem : S.taken (s.ends l) l ≡ taken_at history l l
      pub server_made : S.made (s.ends 0) l ≡ made_at history 0 l
      pub server_taken_lem : S.taken (s.ends 0) l ≡ taken_at history 0 l
      -- The client's list followed by its missing edits is the server's followed by the client's unaccepted ones, each edit in its form at
      -- what stands before it.
      pub meeting : replay (order history l) (history.applied l) (missing history l) (S.items (s.ends l))
          ≡ replay (order history l) history.served (history.untaken l) (S.items (s.ends 0))
      pub equal : S.made (s.ends l) l ≡ S.taken (s.ends 0) l → S.taken (s.ends l) l ≡ S.made (s.ends 0) l
          → S.items (s.ends l) ≡ S.items (s.ends 0)
      -- the next missing edit going down, and going up unless another line is full
      pub next_down : (lent : List ℕ) → Enough 0 l (suc (S.taken (s.ends l) l)) lent → (missing history l ≡ [] → ⊥)
          → Delivered (s.ends 0) (s.ends l) l (suc (S.taken (s.ends l) l)) lent
      pub next_up : (lent : List ℕ) → Enough l l (suc (S.taken (s.ends 0) l)) lent → (history.untaken l ≡ [] → ⊥)
          → ((j : ℕ) → 1 ≤ j → j ≤ n → (j ≡ l → ⊥) → Full j → ⊥)
          → Delivered (s.ends l) (s.ends 0) l (suc (S.taken (s.ends 0) l)) lent

    pub record Holds : Type 0 where
      -- each end's list is the initial list with its edits applied, each in its form at what the end had applied
      pub lists : (a : ℕ) → a ≤ n → S.items (s.ends a) ≡ s.recorded.shown a
      -- and its total is the sum over that list, from the front
      pub totals : (a : ℕ) → a ≤ n → S.total (s.ends a) ≡ running_time (s.recorded.shown a)
      -- no list holds one origin twice
      pub origins : (a : ℕ) → a ≤ n → Once (map (λ p. name_of p.origin) (S.items (s.ends a)))
      -- each message written is the one that the definitions give, byte for byte
      pub messages : s.messages ≡ map message_bytes s.recorded.messages
      -- and is read back as what was written
      pub read_back : map parsed s.messages ≡ map (λ x. Some (wire_message x)) s.recorded.messages
      -- Whatever is called next is answered with the number of the first question that says no. So bytes that no message has give 3, and a
      -- message that is not refused goes to that end and is the next one there.
      pub numbers : (c : Call) → callable n c ≡ true → number_of S s c ≡ number n s.recorded c
      -- Each taking reports what the definitions give: as many pending edits passed as made less seen, the position of the form that arrived, and
      -- that of the form applied.
      pub reports : s.reports ≡ s.recorded.reports
      -- whatever packet is taken next answers how many of its messages are taken, beside a refusal too
      pub packets : (a : ℕ) (is tail : List ℕ) → callable n (packet a is tail) ≡ true
          → (S.take_packet (s.ends a) (packet_of S s is tail)).report ≡ counted (packet_handed n s.recorded a is tail).count
      pub lines : (l : ℕ) → 1 ≤ l → l ≤ n → OnLine l

  -- what a call leaves alone, whatever end it is handed
  pub record LeavesAlone : Type 0 where
    pub inserts : (e : S.End) (p x : ℕ) → Back e (S.insert e p x)
    pub deletes : (e : S.End) (p : ℕ) → Back e (S.delete e p)
    pub takes_back : (e : S.End) → Back e (S.take_back e)
    pub takes : (e : S.End) (bytes : List ℕ) → Back e (S.take e bytes)
    -- A packet is its messages handed over one after another until one is refused (02: N2). One that is too short or too long is refused whole.
    pub packets : (e : S.End) (bytes : List ℕ) → between 1 max_packet (length bytes) ≡ true
        → S.take_packet e bytes ≡ handed_over S.take (length bytes) 0 e bytes
    pub no_packets : (e : S.End) (bytes : List ℕ) → between 1 max_packet (length bytes) ≡ false
        → ((S.take_packet e bytes).refusal ≡ 0 → ⊥) × ((S.take_packet e bytes).end ≡ e) × ((S.take_packet e bytes).report ≡ no_report)
    pub packs : (e : S.End) (l : ℕ) (lent : List ℕ) (offset : ℕ) → Unwritten lent (S.pack e l lent offset)
        × StretchAlone offset lent (S.pack e l lent offset)
    pub sends : (e : S.End) (l number : ℕ) (lent : List ℕ) → Unwritten lent (S.send e l number lent) × PastStays lent (S.send e l number lent)
    pub tells : (e : S.End) (l : ℕ) (lent : List ℕ) → Unwritten lent (S.tell e l lent) × PastStays lent (S.tell e l lent)

  -- the server and the clients as openings, not refused, returned them
  pub record Opened (n : ℕ) (ranks items : List ℕ) : Type 0 where
    pub numbers : are_items items ≡ true
    pub server : (S.open_server n ranks items).refusal ≡ 0
    pub clients : (l : ℕ) → 1 ≤ l → l ≤ n → (S.open_client n l ranks items).refusal ≡ 0

  -- Opening is answered by questions 1 and 16, and after openings that were not refused, with the same ranks at all ends, every list of calls
  -- leaves what is claimed.
  pub record Converges : Type 0 where
    pub opens_server : (n : ℕ) (ranks items : List ℕ) → are_items items ≡ true → (S.open_server n ranks items).refusal ≡ asks (open_server_questions n ranks items)
    pub opens_client : (n l : ℕ) (ranks items : List ℕ) → are_items items ≡ true
        → (S.open_client n l ranks items).refusal ≡ asks (open_client_questions n l ranks items)
    pub alone : LeavesAlone
    pub holds : (n : ℕ) (ranks items : List ℕ) → Opened n ranks items → (calls : List Call) → Holds n (run S n (start S n ranks items) calls)
