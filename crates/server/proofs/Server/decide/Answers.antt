use mathlib.Core.Path.{sym, ◌∙◌}
use Rattle.server.proofs.Decided.{last_ready}
use Rattle.server.proofs.Server.decide.Goals as goal

pub ask_last-requires : goal.ask_last-requires
ask_last-requires c = last_ready c.args.self.now.counts c.args.self.now.words c.args.a c.requires.1.0 (sym c.comes_up.ensures ∙ c.if-not-comes_up.false)
