use mathlib.Core.Path.{refl, ◌∙◌}
use lib.ListN.{replicate}
use Rattle.limits.specs.Limits.{max_lines}
use Rattle.server.specs.View.{size, server_of}
use Rattle.server.proofs.Opening.{empty_is}
use Rattle.server.proofs.Server.empty.Goals as goal

pub returns : goal.returns
returns c =
    let line = c.default.ensures in
    (λ i. server_of (record {
      n = 0;
      initial = 0;
      len = 0;
      total = 0;
      ranks = replicate max_lines 0;
      lines = replicate max_lines (record { made = line.0 i; taken = line.1.0 i; acked = line.1.1.0 i; inserts = line.1.1.1 i });
    }) (replicate size 0))
    ∙ empty_is _ refl
