-- `reading::parse` meets its contract.
use Rattle.std.proofs.Common.{rules}
use Rattle.wire.specs.Bytes.{parsed}
use Rattle.wire.proofs.reading.parse.Goals as goal

pub returns-in_err-kind : goal.returns-in_err-kind
unfolding parsed
returns-in_err-kind c = search rules

pub returns-in_err-size_of_kind : goal.returns-in_err-size_of_kind
unfolding parsed
returns-in_err-size_of_kind c = search rules

pub returns-then-branch : goal.returns-then-branch
unfolding parsed
returns-then-branch c = search rules

pub returns : goal.returns
unfolding parsed
returns c = search rules
