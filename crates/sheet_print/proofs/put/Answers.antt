use borrow.Author.Tests.{lt-ltb, le-ltb}
use Rattle.sheet_print.specs.Sink.{put}
use Rattle.sheet_print.proofs.put.Goals as goal

pub returns-then-at-out : goal.returns-then-at-out
unfolding put
returns-then-at-out c = rw (lt-ltb _ _ c.if-at-out.true)

pub returns : goal.returns
unfolding put
returns c = rw (le-ltb _ _ c.if-at-out.false)
