use native.Mathlib.Omega.{arith}
use Rattle.line.proofs.Words.{kept_size}
use Rattle.line.proofs.taking.accept.Goals as goal

pub replace-requires : goal.replace-requires
replace-requires c =
    (kept_size c.args.v c.args.words.now c.requires.1, (omega (arith, c.requires.0.0.0, c.requires.0.0.1, c.requires.1.few), c.requires.0.1))
