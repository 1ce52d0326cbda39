-- `accept_at` writes the words of the line that a message came on (proofs/Written.antt).
use borrow.Author.Rules.{rules}
use Rattle.server.proofs.Written.{accept_wrote}
use Rattle.server.proofs.taking.accept_at.Goals as goal

pub returns : goal.returns
returns c =
    let a = c.args in
    accept_wrote a.at a.v a.words.now c.requires.0 (search rules) c.slots_range.result.start c.slots_range.result.end c.slots_range.ensures
    a.seen a.later.now c.accept.new.words c.requires.1.1 c.requires.1.0.0 c.requires.1.0.1 c.accept.ensures
