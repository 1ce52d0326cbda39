-- `Ends::turn` meets its contract: what was sent is refused, or the server takes it, or the client edits or takes it (proofs/Turning.antt).
use mathlib.Core.Path.{◌≡◌, sym, ◌∙◌}
use native.Mathlib.Omega.{arith}
use borrow.Author.Rules.{rules}
use lib.ListN.{length}
use lib.Seq.{length-take-le}
use Rattle.limits.specs.Limits.{max_lines}
use Rattle.sheet_ends.proofs.Turning.{sent_within, turned_unsent, turned_server, turned_server_no, turned_client}
use Rattle.sheet_ends.proofs.Ends.turn.Goals as goal
use Rattle.sheet_ends.proofs.Ends.turn.Goals.{Start}

eight : (c : Start) → length c.args.self.now.clients ≡ max_lines
eight c = search rules

pub returns-in_err-n : goal.returns-in_err-n
returns-in_err-n c =
    turned_unsent c.args.self.now c.args.o c.in_err-n.field-0.0 c.sent.new.m c.in_err-n.ensures c.from_residual.result c.from_residual.ensures.1

pub slice_bounds-m-end : goal.slice_bounds-m-end
slice_bounds-m-end c = sent_within c.args.self.now c.args.o c.in_ok-n.n c.sent.new.m c.in_ok-n.ensures

pub slice_bounds-take-end : goal.slice_bounds-take-end
slice_bounds-take-end c =
    sym (length-take-le c.in_ok-n.n c.sent.new.m (sent_within c.args.self.now c.args.o c.in_ok-n.n c.sent.new.m c.in_ok-n.ensures))

pub returns-in_err-take : goal.returns-in_err-take
returns-in_err-take c =
    turned_server_no c.args.self.now c.args.o c.in_ok-n.n c.sent.new.m c.in_ok-n.ensures (sym c.goes_up.ensures ∙ c.if-goes_up.true) c.take.new.self
    c.in_err-take.field-0.0 c.in_err-take.ensures c.from_residual-in_err-take.result c.from_residual-in_err-take.ensures.1

pub returns-then-goes_up : goal.returns-then-goes_up
returns-then-goes_up c =
    turned_server c.args.self.now c.args.o c.in_ok-n.n c.sent.new.m c.in_ok-n.ensures (sym c.goes_up.ensures ∙ c.if-goes_up.true) c.take.new.self
    c.in_ok-take.field-0 c.in_ok-take.ensures

pub slice_bounds-m-end-2 : goal.slice_bounds-m-end-2
slice_bounds-m-end-2 c = sent_within c.args.self.now c.args.o c.in_ok-n.n c.sent.new.m c.in_ok-n.ensures

pub slice_bounds-at_client-end : goal.slice_bounds-at_client-end
slice_bounds-at_client-end c =
    sym (length-take-le c.in_ok-n.n c.sent.new.m (sent_within c.args.self.now c.args.o c.in_ok-n.n c.sent.new.m c.in_ok-n.ensures))

pub returns : goal.returns
returns c =
    turned_client c.args.self.now c.args.o c.in_ok-n.n c.sent.new.m c.in_ok-n.ensures (sym c.goes_up.ensures ∙ c.if-goes_up.false) _
    (omega (arith, eight (goal.at.returns c).Start, c.requires)) c.at_client.result
    c.at_client.new.c c.at_client.ensures
