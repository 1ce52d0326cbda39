-- `ranks::each_once` meets its contract: each turn is a law of proofs/Scan.antt.
use native.Mathlib.Omega.{arith}
use Rattle.ranks.proofs.Scan.{scan_start, scan_turn}
use Rattle.ranks.proofs.each_once.Goals as goal

pub loop-rank-init : goal.loop-rank-init
loop-rank-init c = scan_start c.args.n 256 c.args.ranks.now

pub loop-rank-preserved : goal.loop-rank-preserved
loop-rank-preserved c =
    let w = c.loop-rank in
    scan_turn c.args.n 256 c.args.ranks.now w.seen w.well w.rank-index c.loop-rank-test.true (omega (arith, c.type_inv.ranks w.rank-index)) w.invariant
