-- `Client::empty` meets its contract: zeros are the struct for no client (proofs/Answers.antt).
use mathlib.Core.Path.{◌∙◌}
use lib.ListN.{replicate}
use Rattle.limits.specs.Limits.{max_lines}
use Rattle.client.specs.View.{size, client_of}
use Rattle.client.proofs.Answers.{empty_lem}
use Rattle.client.proofs.Client.empty.Goals as goal

pub returns : goal.returns
returns c =
    let line = c.default.ensures in
    let back = c.default-2.ensures in
    (λ i. client_of (record {
      own = record { made = line.0 i; taken = line.1.0 i; acked = line.1.1.0 i; inserts = line.1.1.1 i };
      len = 0;
      total = 0;
      inverse = record { place = back.0 i; item = back.1 i };
      n = 0;
      line = 0;
      ranks = replicate max_lines 0;
    }) (replicate size 0))
    ∙ empty_lem
