use Rattle.std.proofs.Common.{rules}
use Rattle.wire.specs.Bytes.{bytes_of}
use Rattle.wire.proofs.writing.delete_bytes.Goals as goal

pub returns : goal.returns
unfolding bytes_of
returns c = search rules
