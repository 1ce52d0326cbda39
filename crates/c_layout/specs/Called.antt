-- What an exported call answers: one number, and the lent bytes as it leaves them.
use Rattle.std.specs.Prelude.{ℕ, ◌+◌, ◌*◌, ◌/◌, ◌%◌, ◌<◌, ◌≤◌, ◌≡◌, cond, List, ◌++◌, eqb, ltb, length, drop, Result, Ok, Err, ⊤, MatchResult}
use Rattle.refusal.specs.declared.Refusal.{Refusal}
use Rattle.refusal.specs.declared.Refusal.TheVariants.{TooShort}
use Rattle.refusal.specs.Number.{number, refused_by}
use Rattle.model.specs.Questions.{Report, Sent}
use Rattle.line.specs.declared.taking.Report as line
use Rattle.line.specs.declared.taking.Stopped.{Stopped}

pub record Called : Type 0 where
  pub answer : ℕ
  -- the bytes that the call may write: an end's, or those that a message goes into
  pub bytes : List ℕ

-- the refusal in bits 0 to 7, a count or a length in bits 8 to 23
abbrev pub packed : ℕ → ℕ → ℕ
packed refusal count = refusal + 256 * count

-- and of a taking the positions in which the edit arrived and was applied, in bits 24 to 39 and 40 to 55
abbrev pub packed_report : ℕ → Report → ℕ
packed_report refusal k = packed refusal k.passed + 16777216 * k.arrived + 1099511627776 * k.applied

-- and of one message of a packet how many bytes it has, in bits 56 to 63, 0 at a refusal
abbrev pub packed_read : ℕ → Report → ℕ → ℕ
packed_read refusal k read = packed_report refusal k + cond (eqb refusal 0) (72057594037927936 * read) 0

-- ---- what the code answers, as that number

abbrev pub done : Result ⊤ Refusal → ℕ
done r = packed (refused_by r) 0

-- how many bytes a sending wrote
abbrev pub written : Result ℕ Refusal → ℕ
written (Ok n) = packed 0 n
written (Err r) = packed (number r) 0

abbrev pub report_of : line.Report → Report
report_of k = record { passed = k.passed; arrived = k.arrived; applied = k.applied }

abbrev pub reported : Result line.Report Refusal → ℕ
reported (Ok k) = packed_report 0 (report_of k)
reported (Err r) = packed (number r) 0

-- how many messages of a packet were taken, beside a refusal too
abbrev pub counted : Result ℕ Stopped → ℕ
counted (Ok n) = packed 0 n
counted (Err s) = packed (number s.refusal) s.taken

-- The bytes are as many as an end takes, or they are refused as too few.
abbrev pub HasLength : ℕ → List ℕ → Result ⊤ Refusal → Type 0
HasLength size bytes r = MatchResult r (λ _. size ≤ length bytes) (λ n. (length bytes < size) × (n ≡ TooShort))

-- ---- the ways in which a call ends

abbrev pub called : ℕ → ℕ → List ℕ → Called
called refusal count bytes = record { answer = packed refusal count; bytes = bytes }

-- what a call returned, and the bytes as it left them
abbrev pub returned : ℕ → List ℕ → Called
returned answer bytes = record { answer = answer; bytes = bytes }

-- Question 18, before all others: the end's lent bytes are at least as many as its layout has. No byte changes.
unfoldable pub laid_out : ℕ → List ℕ → List ℕ → Called → Called
laid_out size end bytes rest = cond (ltb (length end) size) (called 18 0 bytes) rest

-- A call that may change its end. A refusal leaves every byte. Else the new end stands in the first bytes, and those past the layout stay.
abbrev pub changing : ℕ → ℕ → Report → List ℕ → List ℕ → Called
changing size refusal report new bytes =
    record { answer = packed_report refusal report; bytes = cond (eqb refusal 0) (new ++ drop size bytes) bytes }

-- A packet, which counts the messages taken: if there is any, the end that they left is written, beside a refusal too.
abbrev pub taking_some : ℕ → ℕ → Report → List ℕ → List ℕ → Called
taking_some size refusal report new bytes =
    record { answer = packed_report refusal report; bytes = cond (eqb report.passed 0) bytes (new ++ drop size bytes) }

-- One message of a packet: as a call that may change its end, and how many bytes the message has.
abbrev pub taking_one : ℕ → ℕ → Report → ℕ → List ℕ → List ℕ → Called
taking_one size refusal report read new bytes =
    record { answer = packed_read refusal report read; bytes = cond (eqb refusal 0) (new ++ drop size bytes) bytes }

-- Opening items are four bytes each. A cut one gives 1.
abbrev pub opening : ℕ → List ℕ → List ℕ → Called → Called
opening size end items rest = laid_out size end end (cond (eqb (length items % 4) 0) rest (called 1 0 end))

-- A sending writes no byte of the end: the bytes are those that the message goes into.
abbrev pub sending : Sent → Called
sending s = called s.refusal s.written s.buffer

-- an answer taken apart
abbrev pub refusal_of : ℕ → ℕ
refusal_of answer = answer % 256

abbrev pub count_of : ℕ → ℕ
count_of answer = answer / 256 % 65536

abbrev pub arrived_of : ℕ → ℕ
arrived_of answer = answer / 16777216 % 65536

abbrev pub applied_of : ℕ → ℕ
applied_of answer = answer / 1099511627776 % 65536

abbrev pub read_of : ℕ → ℕ
read_of answer = answer / 72057594037927936

-- what was packed is taken out again
pub record Unpacks : Type 0 where
  pub sent : (refusal count : ℕ) → refusal < 256 → count < 65536 → (refusal_of (packed refusal count) ≡ refusal) × (count_of (packed refusal count) ≡ count)
  pub refusal : (refusal : ℕ) (k : Report) → refusal < 256 → refusal_of (packed_report refusal k) ≡ refusal
  pub count : (refusal : ℕ) (k : Report) → refusal < 256 → k.passed < 65536 → count_of (packed_report refusal k) ≡ k.passed
  pub arrived : (refusal : ℕ) (k : Report) → refusal < 256 → k.passed < 65536 → k.arrived < 65536 → arrived_of (packed_report refusal k) ≡ k.arrived
  pub applied : (refusal : ℕ) (k : Report) → refusal < 256 → k.passed < 65536 → k.arrived < 65536 → k.applied < 65536
      → applied_of (packed_report refusal k) ≡ k.applied

-- the numbers of a report fit their bits
pub record Fits (k : Report) : Type 0 where
  pub passed : k.passed < 65536
  pub arrived : k.arrived < 65536
  pub applied : k.applied < 65536

-- The same with the bytes of a message beside them: these are taken out, and the others as before.
pub record UnpacksRead : Type 0 where
  pub read : (k : Report) (read : ℕ) → Fits k → read_of (packed_read 0 k read) ≡ read
  pub none : (refusal : ℕ) (k : Report) (read : ℕ) → refusal < 256 → (refusal ≡ 0 → ⊥) → Fits k → read_of (packed_read refusal k read) ≡ 0
  pub refusal : (refusal : ℕ) (k : Report) (read : ℕ) → refusal < 256 → refusal_of (packed_read refusal k read) ≡ refusal
  pub count : (refusal : ℕ) (k : Report) (read : ℕ) → refusal < 256 → Fits k → count_of (packed_read refusal k read) ≡ k.passed
  pub arrived : (refusal : ℕ) (k : Report) (read : ℕ) → refusal < 256 → Fits k → arrived_of (packed_read refusal k read) ≡ k.arrived
  pub applied : (refusal : ℕ) (k : Report) (read : ℕ) → refusal < 256 → Fits k → applied_of (packed_read refusal k read) ≡ k.applied
