use Rattle.sheet_print.specs.Parts.{taken}
use borrow.Author.Tests.{le-leb, lt-leb}
use Rattle.sheet_print.proofs.take.Goals as goal

pub returns-then-m-a : goal.returns-then-m-a
unfolding taken
returns-then-m-a c = rw (le-leb _ _ c.if-m-a.true)

pub returns : goal.returns
unfolding taken
returns c = rw (lt-leb _ _ c.if-m-a.false)
