use borrow.Author.Rules.{rules}
use mathlib.Core.Path.{sym, subst}
use mathlib.Core.List.{List}
use Prim.Native.Nat.{ℕ, ◌+◌}
use native.Mathlib.Omega.{arith}
use Rattle.server.proofs.Counted.{counted}
use Rattle.c_server.proofs.Loops.{Writing, writing_start, writing_turn, writing_end}
use Rattle.c_server.proofs.layout.put_counts.Goals as goal

pub loop-i-init : goal.loop-i-init
loop-i-init c = writing_start c.args.k c.args.words.now (search (rules, counted)) c.requires

pub loop-i-preserved : goal.loop-i-preserved
loop-i-preserved c =
    let k = c.args.k in
    subst (λ (ws : List ℕ). Writing k ws (c.loop-i.i + 1)) (sym c.put_line.ensures) (writing_turn k c.loop-i.words c.loop-i.i _ (omega arith) c.loop-i.invariant)

pub returns : goal.returns
returns c =
    writing_end c.args.k c.loop-i.words c.loop-i.i (omega arith) c.loop-i.invariant
