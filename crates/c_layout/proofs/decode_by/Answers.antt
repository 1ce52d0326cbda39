use native.Mathlib.Omega.{arith}
use Rattle.c_layout.proofs.Loops.{read_turn, read_end}
use Rattle.c_layout.proofs.decode_by.Goals as goal

pub loop-i-preserved : goal.loop-i-preserved
loop-i-preserved g c =
    λ f keeps.
    read_turn f c.args.bytes.now c.args.words.now c.loop-i.words c.loop-i.i c.requires.sized c.as_chunks.result.0.now c.word.result
    c.as_chunks.ensures.front (omega (arith, c.as_chunks.ensures.front_len)) (keeps _ _ c.word.ensures) (c.loop-i.invariant f keeps)

pub returns : goal.returns
returns g c =
    λ f keeps.
    read_end f c.args.bytes.now c.args.words.now c.loop-i.words c.loop-i.i c.requires.sized (omega (arith, c.as_chunks.ensures.front_len))
    (c.loop-i.invariant f keeps)
