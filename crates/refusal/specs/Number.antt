-- The number of each refusal.
use Rattle.std.specs.Prelude.{ℕ, Result, Ok, Err}
use Rattle.refusal.specs.declared.Refusal.{Refusal}
use Rattle.refusal.specs.declared.Refusal.TheVariants as refusal

abbrev pub number : Refusal → ℕ
number refusal.Opening = 1
number refusal.Unsound = 2
number refusal.NoMessage = 3
number refusal.WrongLine = 4
number refusal.Repeated = 5
number refusal.Early = 6
number refusal.SeenTooFew = 7
number refusal.SeenTooMany = 8
number refusal.Misfit = 9
number refusal.Inserts = 10
number refusal.Edits = 11
number refusal.Full = 12
number refusal.NotPending = 13
number refusal.Room = 14
number refusal.Length = 15
number refusal.Ranks = 16
number refusal.NothingMade = 17
number refusal.TooShort = 18

-- the number of what a call refuses, 0 where it does not
abbrev pub refused_by : {A : Type 0} → Result A Refusal → ℕ
refused_by (Ok a) = 0
refused_by (Err r) = number r
