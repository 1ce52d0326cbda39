-- `apply` meets its contract: the edit with its origin as the item on the origins, then the edit on the items (proofs/Written.antt).
use Rattle.line.proofs.Room.{room_form}
use Rattle.client.proofs.Written.{applied_both}
use borrow.Author.Rules.{rules}
use Rattle.client.proofs.apply.Goals as goal

pub apply-requires : goal.apply-requires
apply-requires c =
    (search rules, room_form c.args.f c.args.x c.word_of-word.result c.requires)

pub returns : goal.returns
returns c =
    let a = c.args in
    applied_both a.words.now (search rules) a.f a.x a.len a.origin c.word_of-word.result c.word_of-word.ensures
    c.apply.new.items c.apply-2.new.items c.apply.result c.apply-2.result c.apply.auto.items c.apply-2.auto.items
    c.apply.ensures c.apply-2.ensures
