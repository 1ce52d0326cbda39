use mathlib.Core.Path.{ap, ◌∙◌}
use lib.ListN.{length}
use borrow.Author.Rules.{rules}
use Rattle.server.proofs.Loops.{slots_long}
use Rattle.server.proofs.Server.unused_empty.Goals as goal

pub is_empty-requires : goal.is_empty-requires
is_empty-requires c = ap length c.slots_at.ensures ∙ slots_long c.args.self.now.words (search rules) c.args.at c.requires
