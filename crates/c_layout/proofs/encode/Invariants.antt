-- The bytes of the words before i stand in front of place 4 * i.
use Rattle.std.proofs.Common.{◌≡◌, ◌*◌}
use Rattle.list.proofs.Sweep.{swept}
use Rattle.c_layout.specs.Words.{bytes_of}
use Rattle.c_layout.proofs.encode.Given as goal

abbrev pub invariant-loop-i : goal.invariant-loop-i
invariant-loop-i l = l.bytes ≡ swept (bytes_of l.words) l.initial.bytes (4 * l.i)
