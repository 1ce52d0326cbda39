-- Where the messages of a packet end, and the taking of one of them (02: N2).
use Rattle.std.specs.Prelude.{ℕ, ◌+◌, Bool, cond, List, [], ◌∷◌, leb, ltb, eqb, length, take, drop}
use Rattle.model.specs.Limits.{max_packet}
use Rattle.model.specs.Questions.{ask, asks, between, no_report, Answer}
use Rattle.model.specs.Packets.{next_size}

-- The end of the message that begins at a place. Past the end of the packet no message begins, and its end is the packet's.
unfoldable pub message_end : List ℕ → ℕ → ℕ
message_end bytes at = cond (ltb at (length bytes)) (at + next_size (drop at bytes)) (length bytes)

-- The place where a message begins: the end of the packet where the place lies past it.
abbrev pub message_start : List ℕ → ℕ → ℕ
message_start bytes at = cond (leb at (length bytes)) at (length bytes)

-- One message of a packet, the one that begins at a place: questions 2 and 15, then the message's own. Past the end it is no bytes.
unfoldable pub message_taken : {E : Type 0} → (E → Bool) → (E → List ℕ → Answer E) → E → List ℕ → ℕ → Answer E
message_taken sound taking e bytes at =
    let r = asks (ask 2 (sound e) ∷ ask 15 (between 1 max_packet (length bytes)) ∷ []) in
    cond (eqb r 0) (taking e (take (next_size (drop at bytes)) (drop at bytes))) (record { refusal = r; end = e; report = no_report })
