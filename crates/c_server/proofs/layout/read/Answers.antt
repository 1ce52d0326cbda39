use Prim.Native.Nat.{ℕ}
use mathlib.Core.Path.{◌≡◌, ap, ◌∙◌}
use lib.ListN.{length}
use borrow.Author.Rules.{rules}
use Rattle.list.specs.Parts.{part}
use Rattle.server.specs.View as server
use Rattle.c_layout.specs.Words.{words_of}
use Rattle.c_server.specs.Layout.{numbers}
use Rattle.c_server.proofs.Ends.{end_read}
use Rattle.c_server.proofs.layout.read.Goals as goal

pub returns : goal.returns
returns c =
    let long : length c.args.s.now.words ≡ server.size = search rules in
    end_read c.args.bytes.now c.get.new.words c.counts-s.result
    (c.get.ensures ∙ ap (λ (n : ℕ). part numbers n (words_of c.args.bytes.now)) long) c.counts-s.ensures
