-- What the kind byte decides (01: "The kind byte alone fixes the length").
use Rattle.std.specs.Prelude.{ℕ, cond, Option, Some, None, eqb}
use Rattle.wire.specs.Bytes.{size_of_kind}

-- the length; none for a byte that is no kind
abbrev pub size_of : ℕ → Option ℕ
size_of k = cond (eqb (size_of_kind k) 0) None (Some (size_of_kind k))

-- 01's number for each case: refusal 3, or none
abbrev pub refusal_of : Option ℕ → ℕ
refusal_of None = 3
refusal_of (Some n) = 0
