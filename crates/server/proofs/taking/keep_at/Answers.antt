-- `keep_at` writes the words of one line with one more edit (proofs/Written.antt).
use borrow.Author.Rules.{rules}
use Rattle.ot.specs.Edit.{edit}
use Rattle.server.proofs.Written.{keep_wrote}
use Rattle.server.proofs.taking.keep_at.Goals as goal

pub returns : goal.returns
returns c =
    let a = c.args in
    keep_wrote a.at a.v a.words.now c.requires.0 (search rules) c.slots_range.result.start c.slots_range.result.end c.slots_range.ensures
    (edit a.f a.x) c.keep.new.words c.requires.1.0.0 c.requires.1.0.1 c.keep.ensures
