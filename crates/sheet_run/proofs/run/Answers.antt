-- `run` meets its contract: a text that is too long, or its first line and the rest (proofs/Opened.antt).
use Prim.Native.Nat.{◌≤◌}
use mathlib.Core.Path.{sym, ap, ◌∙◌}
use mathlib.Core.List.{List}
use Prim.Native.Nat.{ℕ}
use native.Mathlib.Omega.{arith}
use lib.ListN.{length}
use lib.Seq.{length-take-le}
use Rattle.sheet_print.specs.Sink.{sink, puts}
use Rattle.sheet_print.proofs.Sinks.{printed}
use Rattle.sheet_text.proofs.Texts.{before_le}
use Rattle.sheet_run.proofs.Opened.{output_long, output_is}
use Rattle.sheet_run.proofs.run.Goals as goal
use Rattle.sheet_run.proofs.run.Goals.{After-end-e}

within : (c : After-end-e) → c.end-e.result ≤ length c.args.input.now
within c = omega (arith, before_le 10 c.args.input.now, c.end-e.ensures)

pub returns-then-input-gt65536 : goal.returns-then-input-gt65536
returns-then-input-gt65536 c =
    printed _ _ _ _ (c.puts.ensures ∙ ap (λ (l : List ℕ). puts l (sink c.args.out.now 0)) (output_long c.args.input.now c.if-input-gt65536.true))

pub slice_bounds-read_first-end : goal.slice_bounds-read_first-end
slice_bounds-read_first-end c =
    sym (length-take-le c.end-e.result c.args.input.now (within c))

pub overflow_add-e : goal.overflow_add-e
overflow_add-e c = omega (arith, within (goal.at.overflow_add-e c).After-end-e)

pub returns : goal.returns
returns c =
    printed _ _ _ _
    (c.started.ensures
    ∙ ap (λ (l : List ℕ). puts l (sink c.args.out.now 0))
    (output_is c.args.input.now c.end-e.result c.end-e.ensures c.read_first-f.result c.if-input-gt65536.false c.read_first-f.ensures))
