-- Question 2 or 4 said no, or the answer is that of question 13 (proofs/Sends.antt).
use native.Mathlib.Omega.{arith}
use Rattle.server.proofs.Facts.{lines_few}
use Rattle.server.proofs.Sends.{sendable}
use Rattle.server.proofs.Server.ask_send.Goals as goal

pub line_at-v-requires : goal.line_at-v-requires
line_at-v-requires c =
    let s = c.args.self.now in
    let h = c.in_ok-ask_line.ensures.facts in
    omega (arith, h.1.0, h.1.1, lines_few s.counts s.words h.0)

pub returns-clause-facts : goal.returns-clause-facts
returns-clause-facts c =
    let s = c.args.self.now in
    sendable s.counts s.words c.args.line c.args.number c.ask_number.result c.line_at-v.result c.in_ok-ask_line.ensures.facts c.line_at-v.ensures c.ask_number.ensures
