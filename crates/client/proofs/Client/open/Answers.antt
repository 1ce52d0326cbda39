-- `Client::open` meets its contract: questions 1 and 16 said yes and the initial list stands in the words, or one said no and they are zero
-- (proofs/Answers.antt).
use mathlib.Core.Path.{refl, ap}
use Rattle.client.specs.View.{origins_in}
use Rattle.client.proofs.Answers.{open_short, words_zero, items_zero, open_no, open_unranked, open_yes}
use Rattle.client.proofs.Client.open.Goals as goal

pub returns-then-not-sized : goal.returns-then-not-sized
returns-then-not-sized c =
    open_no c.args.n c.args.line c.args.ranks.now c.args.items.now c.empty.result c.empty.ensures c.if-not-sized.true

pub returns-then-not-ranked : goal.returns-then-not-ranked
returns-then-not-ranked c =
    open_unranked c.args.n c.args.line c.args.ranks.now c.args.items.now c.empty.result c.empty.ensures
    c.is_ranking-ranked.result c.is_ranking-ranked.ensures c.if-not-sized.false c.if-not-ranked.true

pub initial_origins-requires : goal.initial_origins-requires
initial_origins-requires c =
    (open_short c.args.n c.args.line c.args.ranks.now c.args.items.now c.if-not-sized.false, ap origins_in (words_zero c.empty.result c.empty.ensures))

pub initial-requires : goal.initial-requires
initial-requires c = items_zero c.empty.result c.empty.ensures c.initial_origins.new.list c.initial_origins.auto.list

pub returns : goal.returns
returns c =
    open_yes c.args.n c.args.line c.args.ranks.now c.args.items.now c.empty.result c.empty.ensures
    c.is_ranking-ranked.result c.is_ranking-ranked.ensures c.if-not-sized.false c.if-not-ranked.false
    c.initial_origins.new.list c.initial.new.list c.store-self.result c.total-self.result
    (c.initial_origins.ensures c.args.items.now refl) c.initial.ensures c.store-self.ensures c.total-self.ensures
