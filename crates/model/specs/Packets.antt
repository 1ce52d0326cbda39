-- Several messages in one packet (02: N2): messages end to end, in a stretch of a lent buffer.
use Rattle.std.specs.Prelude.{ℕ, zero, suc, ◌+◌, ◌-◌, Bool, true, ◌&&◌, cond, List, [], ◌∷◌, ◌++◌, map, leb, ltb, eqb, length, get_or, take, drop}
use Rattle.wire.specs.Bytes.{size_of_kind}
use Rattle.model.specs.Limits.{max_packet}
use Rattle.model.specs.Questions.{Question, ask, asks, between, Report, no_report, Answer, Sent}

-- ---- writing

-- some messages end to end
unfoldable pub joined : List (List ℕ) → List ℕ
joined [] = []
joined (m ∷ ms) = m ++ joined ms

-- of messages in their order those up to the first that does not fit into so many bytes
unfoldable pub fitting : ℕ → List (List ℕ) → List (List ℕ)
fitting room [] = []
fitting room (m ∷ ms) = cond (leb (length m) room) (m ∷ fitting (room - length m) ms) []

-- question 14: there is nothing to write, or the first message fits
abbrev pub first_fits : ℕ → List (List ℕ) → Bool
first_fits room [] = true
first_fits room (m ∷ ms) = leb (length m) room

-- the bytes stand in the buffer from an offset on, and all others stay; no bytes leave it as it is, at any offset
abbrev pub put_from : ℕ → List ℕ → List ℕ → List ℕ
put_from offset [] lent = lent
put_from offset (b ∷ bs) lent = take offset lent ++ ((b ∷ bs) ++ drop (offset + suc (length bs)) lent)

-- the messages of a line's pending edits go into the buffer from an offset on, as many as fit before its end
unfoldable pub packed : List Question → List (List ℕ) → ℕ → List ℕ → Sent
packed questions ms offset lent =
    let room = length lent - offset in
    let bytes = joined (fitting room ms) in
    let r = asks (questions ++ (ask 14 (first_fits room ms) ∷ [])) in
    cond (eqb r 0) (record { refusal = 0; written = length bytes; buffer = put_from offset bytes lent })
    (record { refusal = r; written = 0; buffer = lent })

-- ---- reading

-- How many bytes the next message of a packet has: as its kind says. A byte that is no kind, and a message that is cut off, take the rest.
abbrev pub next_size : List ℕ → ℕ
next_size bytes =
    let size = size_of_kind (get_or bytes 0 0) in
    cond (leb 1 size && leb size (length bytes)) size (length bytes)

-- the messages that stand end to end in so many bytes
unfoldable pub messages_in : ℕ → List ℕ → List (List ℕ)
messages_in zero bytes = []
messages_in (suc most) bytes =
    cond (eqb (length bytes) 0) [] (take (next_size bytes) bytes ∷ messages_in most (drop (next_size bytes) bytes))

-- of some numbers of messages those that there are, where so many were written
unfoldable pub known : ℕ → List ℕ → List ℕ
known count [] = []
known count (i ∷ is) = cond (ltb i count) (i ∷ known count is) (known count is)

-- the packet of messages that were written, by their numbers, and a tail
abbrev pub packet_from : List (List ℕ) → List ℕ → List ℕ → List ℕ
packet_from ms is tail = joined (map (λ i. get_or ms i []) (known (length ms) is)) ++ tail

-- a packet's report: how many messages were taken, beside a refusal too
abbrev pub counted : ℕ → Report
counted count = record { passed = count; arrived = 0; applied = 0 }

-- The messages are handed over one after another until one is refused; `most` bounds how many there can be.
unfoldable pub handed_over : {E : Type 0} → (E → List ℕ → Answer E) → ℕ → ℕ → E → List ℕ → Answer E
handed_over taking zero count e bytes = record { refusal = 0; end = e; report = counted count }
handed_over taking (suc most) count e bytes =
    let a = taking e (take (next_size bytes) bytes) in
    cond (eqb (length bytes) 0) (record { refusal = 0; end = e; report = counted count })
    (cond (eqb a.refusal 0) (handed_over taking most (suc count) a.end (drop (next_size bytes) bytes))
    (record { refusal = a.refusal; end = a.end; report = counted count }))

-- questions 2 and 15, then each message's own
unfoldable pub unpacked : {E : Type 0} → (E → Bool) → (E → List ℕ → Answer E) → E → List ℕ → Answer E
unpacked sound taking e bytes =
    let r = asks (ask 2 (sound e) ∷ ask 15 (between 1 max_packet (length bytes)) ∷ []) in
    cond (eqb r 0) (handed_over taking (length bytes) 0 e bytes) (record { refusal = r; end = e; report = no_report })
