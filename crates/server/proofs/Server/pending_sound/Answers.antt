use mathlib.Core.Path.{ap, ◌∙◌}
use lib.ListN.{length}
use borrow.Author.Rules.{rules}
use Rattle.server.proofs.Loops.{slots_long}
use Rattle.server.proofs.Server.pending_sound.Goals as goal

pub is_sound-requires : goal.is_sound-requires
is_sound-requires c = ap length c.slots_at.ensures ∙ slots_long c.args.self.now.words (search rules) c.args.at c.requires
