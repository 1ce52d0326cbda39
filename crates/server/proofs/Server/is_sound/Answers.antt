use mathlib.Core.Path.{sym, ◌∙◌}
use borrow.Author.Rules.{rules}
use Rattle.server.specs.View.{Sizes}
use Rattle.server.proofs.Counted.{counted}
use Rattle.server.proofs.Whole.{sound_no, sound_yes, both_told}
use Rattle.server.proofs.Server.is_sound.Goals as goal
use Rattle.server.proofs.Server.is_sound.Goals.{Start}

sizes : (c : Start) → Sizes c.args.self.now.counts c.args.self.now.words
sizes c = record { words = search rules; lines = search (rules, counted); ranks = search rules }

pub returns-then-in_limits : goal.returns-then-in_limits
returns-then-in_limits c =
    let k = c.args.self.now.counts in
    let words = c.args.self.now.words in
    let z = sizes (goal.at.returns-then-in_limits c).Start in
    let told =
    both_told k words z _
    (sound_yes k words z c.add_up-all.result.inserts c.add_up-all.result.taken c.ranks_sound-right.result c.list_sound.result c.lines_sound.result
    (sym c.in_limits.ensures ∙ c.if-in_limits.true) c.add_up-all.ensures.inserts c.add_up-all.ensures.taken c.ranks_sound-right.ensures c.list_sound.ensures c.lines_sound.ensures)
    in record { answer = told.0; facts = told.1 }

pub returns : goal.returns
returns c =
    let z = sizes (goal.at.returns c).Start in
    let told = both_told c.args.self.now.counts c.args.self.now.words z _ (sound_no c.args.self.now.counts c.args.self.now.words z (sym c.in_limits.ensures ∙ c.if-in_limits.false))
    in record { answer = told.0; facts = told.1 }
