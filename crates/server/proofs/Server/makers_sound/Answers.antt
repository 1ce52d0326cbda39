use mathlib.Core.Path.{ap, ◌∙◌}
use lib.ListN.{length}
use borrow.Author.Rules.{rules}
use Rattle.server.proofs.Loops.{makers_long}
use Rattle.server.proofs.Server.makers_sound.Goals as goal

pub makers_sound-requires : goal.makers_sound-requires
makers_sound-requires c = ap length c.makers_at.ensures ∙ makers_long c.args.self.now.words (search rules) c.args.at c.requires
