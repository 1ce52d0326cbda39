-- A number on its way to digits, the highest power of ten first.
use Rattle.std.specs.Prelude.{ℕ, suc, ◌+◌, ◌-◌, ◌*◌, ◌^◌, ◌/◌, ◌%◌, cond, List, [], ◌∷◌, leb}
use Rattle.sheet_print.specs.declared.Part.{Part}

-- n over p, and the rest
abbrev pub split : ℕ → ℕ → Part
split n p = record { digit = n / p; rest = n % p }

-- p comes off what is left, so many times at once, if that holds as much
unfoldable pub taken : Part → ℕ → ℕ → Part
taken a p times = cond (leb (times * p) a.rest) (record { digit = a.digit + times; rest = a.rest - times * p }) a

-- the digit of n at the power p, found in what its higher digits leave; none where n is below p
abbrev pub digit_from : ℕ → ℕ → ℕ → List ℕ
digit_from p n rest = cond (leb p n) ((48 + (split rest p).digit) ∷ []) []

-- what the higher digits of n leave: its last digit and the k before that
abbrev pub lower : ℕ → ℕ → ℕ
lower k n = n % 10 ^ suc k
