-- Every call is a list of numbered questions; the first no gives its number, and then nothing changes (01: "The questions, in order").
use Rattle.std.specs.Prelude.{ℕ, Bool, true, ◌&&◌, cond, List, [], ◌∷◌, ◌++◌, eqb, length, drop}
pub use Rattle.wire.specs.Message.{between}

pub record Question : Type 0 where
  pub number : ℕ
  pub yes : Bool

abbrev pub ask : ℕ → Bool → Question
ask k b = record { number = k; yes = b }

-- the number of the first question answered no; 0 where there is none
abbrev pub asks : List Question → ℕ
asks [] = 0
asks (q ∷ qs) = cond q.yes (asks qs) q.number

-- all of a list of tests
abbrev pub every : List Bool → Bool
every [] = true
every (b ∷ bs) = b && every bs

-- What the taking of an edit reports: how many pending edits it was transformed past, and the positions (02: N1) in which it arrived and in
-- which it was applied, 0 for nothing.
pub record Report : Type 0 where
  pub passed : ℕ
  pub arrived : ℕ
  pub applied : ℕ

abbrev pub no_report : Report
no_report = record { passed = 0; arrived = 0; applied = 0 }

-- What a call that may change its end answers: the refusal's number or 0, the end, and the report of a taking.
pub record Answer (E : Type 0) : Type 0 where
  pub refusal : ℕ
  pub end : E
  pub report : Report

-- A refusal hands back the end as it came, and reports nothing.
unfoldable pub answer : {E : Type 0} → ℕ → E → E → Report → Answer E
answer r old new k = cond (eqb r 0) (record { refusal = 0; end = new; report = k }) (record { refusal = r; end = old; report = no_report })

-- What a sending answers: the refusal's number or 0, the bytes written, and the lent buffer.
pub record Sent : Type 0 where
  pub refusal : ℕ
  pub written : ℕ
  pub buffer : List ℕ

-- A refusal writes nothing; else the message stands at the front of the buffer, and the bytes past it stay.
unfoldable pub sent : ℕ → List ℕ → List ℕ → Sent
sent r bytes lent =
    cond (eqb r 0) (record { refusal = 0; written = length bytes; buffer = bytes ++ drop (length bytes) lent })
    (record { refusal = r; written = 0; buffer = lent })
