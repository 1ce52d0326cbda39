-- `is_sound` meets its contract: the tests that it makes are question 2 (proofs/Sound.antt).
use native.Mathlib.Omega.{arith}
use mathlib.Core.Path.{ap, ◌∙◌}
use lib.Dec.{eqb}
use lib.ListN.{length}
use borrow.Author.Rules.{rules}
use Rattle.limits.specs.Limits.{max_lines}
use Rattle.model.proofs.Tests.{between_true}
use Rattle.line.specs.Sound.{sound_line}
use Rattle.client.proofs.Sound.{Sizes, answers, no_lines}
use Rattle.client.proofs.Words.{slots_long}
use Rattle.client.proofs.Client.is_sound.Goals as goal
use Rattle.client.proofs.Client.is_sound.Goals.{Start}

sizes : (c : Start) → Sizes c.args.self.now
sizes c = record { words = search rules; ranks = search rules }

pub is_sound-right-requires : goal.is_sound-right-requires
is_sound-right-requires c =
    (omega (arith, between_true 1 max_lines c.args.self.now.counts.n c.if-k.true), (sizes (goal.at.is_sound-right-requires c).Start).ranks)

pub is_sound-line-requires : goal.is_sound-line-requires
is_sound-line-requires c = ap length c.slots.ensures ∙ slots_long c.args.self.now.words (sizes (goal.at.is_sound-line-requires c).Start).words

pub returns-then-k : goal.returns-then-k
returns-then-k c =
    let told =
    answers c.args.self.now (sizes (goal.at.returns-then-k c).Start) c.if-k.true
    c.is_sound-right.result c.list_sound-listed.result c.is_sound-back.result c.is_sound-line.result c.rank.result c.rank-then-k.result
    c.is_sound-right.ensures c.list_sound-listed.ensures c.rank.ensures
    (c.is_sound-line.ensures.answer ∙ ap (sound_line c.args.self.now.counts.own.made (eqb c.rank.result) c.args.self.now.counts.own) c.slots.ensures)
    c.rank-then-k.ensures c.is_sound-back.ensures
    in record { answer = told.0; facts = told.1 }

-- ---- no lines, or too many
pub returns : goal.returns
returns c =
    let told =
    no_lines c.args.self.now (sizes (goal.at.returns c).Start) c.if-k.false
    in record { answer = told.0; facts = told.1 }
