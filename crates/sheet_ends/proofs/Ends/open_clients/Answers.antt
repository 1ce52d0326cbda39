-- `Ends::open_clients` meets its contract: each turn opens one client more (proofs/Opened.antt).
use mathlib.Core.Path.{ap₂}
use mathlib.Core.List.{List}
use native.Mathlib.Omega.{arith}
use Rattle.client.specs.declared.Client.{Client}
use Rattle.server.specs.declared.Server.{Server}
use Rattle.sheet_ends.proofs.Opened.{opening_turn, opening_end}
use Rattle.sheet_ends.proofs.Ends.open_clients.Goals as goal

pub loop-i-preserved : goal.loop-i-preserved
loop-i-preserved c = (
  c.loop-i.invariant.0,
  opening_turn _ _ _ c.loop-i.self.clients c.loop-i.i c.loop-i-test.true c.loop-i.invariant.1 c.open.result c.open.new.self c.open.ensures,
)

pub returns : goal.returns
returns c =
    ap₂ (λ (s : Server) (cs : List Client). record { server = s; clients = cs }) c.loop-i.invariant.0
    (opening_end _ _ _ c.loop-i.self.clients c.loop-i.i (omega arith) c.loop-i.invariant.1)
