use mathlib.Core.Path.{◌≡◌, ap, ◌∙◌}
use mathlib.Core.List.{List}
use Prim.Native.Nat.{ℕ}
use lib.ListN.{length}
use Rattle.limits.specs.Limits.{max_lines}
use Rattle.server.proofs.Counted.{counted}
use Rattle.c_layout.specs.Words.{bytes_of, put_at}
use Rattle.c_server.proofs.Ends.{counts_written}
use borrow.Author.Rules.{rules}
use Rattle.c_server.proofs.layout.write_counts.Goals as goal
use Rattle.c_server.proofs.layout.write_counts.Goals.{Start}

ranks_eight : (c : Start) → length c.args.k.ranks ≡ max_lines
ranks_eight c = search rules

lines_eight : (c : Start) → length c.args.k.lines ≡ max_lines
lines_eight c = search (rules, counted)

pub returns : goal.returns
returns c =
    let a = c.args in
    counts_written a.k a.bytes.now c.put.new.bytes c.write.new.bytes (ranks_eight (goal.at.returns c).Start) (lines_eight (goal.at.returns c).Start)
    (c.put.ensures ∙ ap (λ (ns : List ℕ). put_at 0 (bytes_of ns) a.bytes.now) c.put_counts.ensures) c.write.ensures
