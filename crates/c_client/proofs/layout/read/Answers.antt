use Rattle.std.specs.Prelude.{replicate}
use Rattle.c_client.proofs.Ends.{end_read}
use borrow.Author.Rules.{rules}
use Rattle.c_client.proofs.layout.read.Goals as goal

pub returns : goal.returns
returns c = end_read c.args.bytes.now (replicate 1152 0) c.get.new.words c.counts-counts.result (search rules) c.get.ensures c.counts-counts.ensures
