-- An edit by the length of the list alone, and one more pending edit in the counts.
use Rattle.std.specs.Prelude.{ℕ, ◌+◌, Bool, ◌&&◌, cond, leb, eqb}
use Rattle.limits.specs.Limits.{max_items}
use Rattle.ot.specs.Edit.{Edit, fits}
use Rattle.model.specs.Cross.{inserts_of}
use Rattle.line.specs.declared.Line.{Line}

-- question 9: the edit's position fits a list of n items, and the list then is at most 512
abbrev pub fits_list : Edit → ℕ → Bool
fits_list e n = fits e n && leb (n + inserts_of e) max_items

-- one more is made, and the client then has so many inserts
abbrev pub with_kept : Line → ℕ → Line
with_kept v inserts = record { made = v.made + 1; taken = v.taken; acked = v.acked; inserts = inserts }

-- The first refusal r stands; where there is none, the questions that follow give theirs.
abbrev pub then_asked : ℕ → ℕ → ℕ
then_asked r s = cond (eqb r 0) s r
