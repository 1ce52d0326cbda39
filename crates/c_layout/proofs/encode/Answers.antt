use native.Mathlib.Omega.{arith}
use mathlib.Core.Path.{◌∙◌}
use Rattle.c_layout.proofs.Loops.{write_turn, write_end}
use Rattle.c_layout.proofs.encode.Goals as goal

pub loop-i-preserved : goal.loop-i-preserved
loop-i-preserved c =
    write_turn c.args.words.now c.args.bytes.now c.requires c.loop-i.i c.loop-i.bytes c.copy_from_slice.new.self (omega arith)
    (omega (arith, c.type_inv.words c.loop-i.i)) (c.copy_from_slice.ensures.after ∙ c.to_le_bytes.ensures) c.loop-i.invariant

pub returns : goal.returns
returns c =
    write_end c.args.words.now c.args.bytes.now c.requires c.loop-i.i c.loop-i.bytes (omega arith) c.loop-i.invariant
