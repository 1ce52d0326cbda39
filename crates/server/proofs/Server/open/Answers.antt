-- A question said no and all is zero, or both said yes and the words hold the list (proofs/Opening.antt).
use Prim.Native.Nat.{◌≤◌}
use mathlib.Core.Path.{ap, sym, ◌∙◌}
use lib.ListN.{length}
use Rattle.std.specs.Prelude.{Result, ⊤}
use Rattle.refusal.specs.declared.Refusal.{Refusal}
use Rattle.refusal.proofs.Some.{passed_on}
use Rattle.line.specs.Taking.{done_of}
use Rattle.server.specs.declared.Server.{Server}
use Rattle.server.proofs.Opening.{asked_short, open_done, open_refused, no_words_lem, no_lines_lem}
use Rattle.server.proofs.Server.open.Goals as goal
use Rattle.server.proofs.Server.open.Goals.{In_ok-ask_open}

short : (c : In_ok-ask_open) → length c.args.items.now ≤ 128
short c = asked_short c.args.n c.args.ranks.now (length c.args.items.now) (sym c.in_ok-ask_open.ensures)

pub returns-in_err-ask_open : goal.returns-in_err-ask_open
returns-in_err-ask_open c =
    let a = c.args in
    let r = c.in_err-ask_open.field-0.0 in
    ap (λ (q : Result ⊤ Refusal). done_of q c.empty.result) (passed_on c.from_residual.result r c.from_residual.ensures.1)
    ∙ open_refused a.n a.ranks.now a.items.now c.empty.result r c.empty.ensures c.in_err-ask_open.ensures

pub open_list-requires : goal.open_list-requires
open_list-requires c =
    (short (goal.at.open_list-requires c).In_ok-ask_open, ap (λ (s : Server). s.words) c.empty.ensures ∙ no_words_lem)

pub returns : goal.returns
returns c =
    let a = c.args in
    open_done a.n a.ranks.now a.items.now c.store-self.result c.open_list.new.words c.total-self.result c.empty.result.counts.lines
    c.in_ok-ask_open.ensures c.open_list.ensures c.store-self.ensures c.total-self.ensures (ap (λ (s : Server). s.counts.lines) c.empty.ensures ∙ no_lines_lem)
