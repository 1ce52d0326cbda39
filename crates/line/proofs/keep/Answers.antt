use native.Mathlib.Omega.{arith}
use Rattle.line.proofs.Words.{kept_size, kept_append}
use Rattle.line.proofs.keep.Goals as goal

pub append-requires : goal.append-requires
append-requires c =
    (kept_size c.args.v c.args.words.now c.requires.0.0, omega (arith, c.pending.ensures, c.requires.0.1))

pub returns : goal.returns
returns c =
    kept_append c.args.v c.args.words.now c.requires.0.0 c.args.f c.args.x c.pending.result _
    c.pending.ensures c.requires.0.1 c.requires.1 c.append.ensures
