-- `apply` writes both parts of the list (proofs/Written.antt).
use borrow.Author.Rules.{rules}
use Rattle.server.proofs.Written.{origins_room, apply_wrote}
use Rattle.server.proofs.taking.apply.Goals as goal

pub apply-requires : goal.apply-requires
apply-requires c =
    origins_room c.args.f c.args.x c.args.origin c.args.len c.args.words.now (search rules) c.requires c.word_of-word.result

pub returns : goal.returns
returns c =
    apply_wrote c.args.f c.args.x c.args.origin c.args.len c.args.words.now (search rules) c.requires c.word_of-word.result c.apply-2.result c.apply.result
    c.apply.new.items c.apply-2.new.items c.word_of-word.ensures c.apply.ensures c.apply-2.ensures
