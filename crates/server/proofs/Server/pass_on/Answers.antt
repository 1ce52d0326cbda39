-- An edit is kept by the other lines, an acknowledgement by none.
use Rattle.server.proofs.Decided.{place_below}
use Rattle.server.proofs.Server.pass_on.Goals as goal

pub keep_others-requires : goal.keep_others-requires
keep_others-requires c =
    let s = c.args.self.now in
    ((c.requires.0.0, place_below s.counts s.words c.args.a c.requires.0.0 c.requires.0.1), (c.requires.1.0 c.if-a.true, c.requires.1.1))
