-- `drop_makers` writes the origins of the line that a message came on (proofs/Written.antt).
use borrow.Author.Rules.{rules}
use Rattle.server.proofs.Written.{drop_wrote}
use Rattle.server.proofs.taking.drop_makers.Goals as goal

pub returns : goal.returns
returns c =
    let a = c.args in
    drop_wrote a.at a.v a.words.now c.requires.0 (search rules) c.makers_range.result.start c.makers_range.result.end c.makers_range.ensures
    a.seen c.drop_front.new.words c.requires.1.0 c.requires.1.1 c.drop_front.ensures
