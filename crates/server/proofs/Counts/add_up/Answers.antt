use native.Mathlib.Omega.{arith}
use Prim.Native.Nat.{◌≤◌}
use mathlib.Core.Path.{◌≡◌}
use lib.ListN.{length, get_or, take, length-take}
use lib.Seq.{get_or-take}
use borrow.Author.Rules.{rules}
use Rattle.model.specs.Line as model
use Rattle.line.specs.declared.Line.{Line}
use Rattle.line.specs.Line.{counts_of}
use Rattle.server.proofs.Lines.{adding_turn, adding_end}
use Rattle.server.proofs.Counts.add_up.Goals as goal
use Rattle.server.proofs.Counts.add_up.Goals.{In-loop-v}

-- the line of this turn
abbrev line : In-loop-v → Line
line c = get_or (take c.args.self.now.n c.args.self.now.lines) c.loop-v.v-index (counts_of model.no_line)

pub loop-v-preserved : goal.loop-v-preserved
loop-v-preserved c =
    let k = c.args.self.now in
    let l = c.loop-v in
    let v = line (goal.at.loop-v-preserved c).In-loop-v in
    let taken : v.taken ≤ 65535 = search rules in
    let inserts : v.inserts ≤ 65535 = search rules in
    let lt = c.loop-v-test.true in
    adding_turn k k.n l.v-index l.taken l.inserts v (omega (arith, lt, length-take k.n k.lines)) (get_or-take k.n k.lines l.v-index (counts_of model.no_line) (omega (arith, lt, length-take k.n k.lines)))
    taken inserts l.invariant

pub returns : goal.returns
returns c =
    let k = c.args.self.now in
    let l = c.loop-v in
    let count : length (take k.n k.lines) ≡ k.n = search rules in
    let sums = adding_end k k.n l.v-index l.taken l.inserts (omega (arith, c.loop-v-test.false, count)) l.invariant in
    record { taken = sums.0; inserts = sums.1; few = (omega (arith, l.invariant, c.requires), omega (arith, l.invariant, c.requires)) }
