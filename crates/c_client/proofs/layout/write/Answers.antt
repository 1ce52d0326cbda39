use mathlib.Core.Path.{◌≡◌, ap, ◌∙◌}
use mathlib.Core.List.{List}
use Prim.Native.Nat.{ℕ}
use Rattle.c_layout.specs.Words.{bytes_of, put_at}
use Rattle.c_client.proofs.Ends.{end_written}
use borrow.Author.Rules.{rules}
use Rattle.c_client.proofs.layout.write.Goals as goal

pub returns : goal.returns
returns c =
    let a = c.args in
    end_written a.c.now.counts a.c.now.words a.end.now c.put.new.bytes c.put-2.new.bytes c.write.new.bytes (search rules) (search rules) c.requires
    c.put.ensures (c.put-2.ensures ∙ ap (λ (ns : List ℕ). put_at 0 (bytes_of ns) c.put.new.bytes) c.put_line.ensures) c.write.ensures
