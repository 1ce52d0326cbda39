-- `name_at` writes one word among the origins of a line (proofs/Written.antt).
use borrow.Author.Rules.{rules}
use Rattle.server.proofs.Written.{name_wrote}
use Rattle.server.proofs.taking.name_at.Goals as goal

pub returns : goal.returns
returns c =
    let a = c.args in
    name_wrote a.at a.v a.words.now c.requires.0 (search rules) a.word c.makers_range.result.start c.pending.result c.requires.1 c.makers_range.ensures.0 c.pending.ensures
