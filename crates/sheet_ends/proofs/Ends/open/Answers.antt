-- `Ends::open` meets its contract: the server is refused, or the clients are opened after it (proofs/Opened.antt).
use Rattle.sheet_ends.proofs.Opened.{not_opened, all_opened}
use Rattle.sheet_ends.proofs.Ends.open.Goals as goal

pub returns-in_err-open : goal.returns-in_err-open
returns-in_err-open c =
    not_opened c.args.self.now c.args.n c.args.ranks.now c.args.items.now c.open.new.self c.in_err-open.field-0.0 c.in_err-open.ensures
    c.from_residual.result c.from_residual.ensures.1

pub returns : goal.returns
returns c =
    all_opened c.args.self.now c.args.n c.args.ranks.now c.args.items.now c.open.new.self _ c.in_ok-open.ensures _ c.open_clients.ensures
