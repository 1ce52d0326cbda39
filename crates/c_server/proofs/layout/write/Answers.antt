use native.Mathlib.Omega.{arith}
use Rattle.c_server.proofs.Ends.{end_written}
use borrow.Author.Rules.{rules}
use Rattle.c_server.proofs.layout.write.Goals as goal

pub write_counts-requires : goal.write_counts-requires
write_counts-requires c = omega (arith, c.put.auto.bytes, c.requires)

pub returns : goal.returns
returns c =
    let a = c.args in
    end_written a.s.now.counts a.s.now.words a.end.now c.put.new.bytes c.write_counts.new.bytes c.requires (search rules) c.put.ensures c.write_counts.ensures
