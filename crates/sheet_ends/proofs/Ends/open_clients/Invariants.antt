-- The invariant of the loop.
use Rattle.sheet_ends.proofs.Opened.{Opening}
use mathlib.Core.Path.{◌≡◌}
use Rattle.sheet_ends.proofs.Ends.open_clients.Given as goal

abbrev pub invariant-loop-i : goal.invariant-loop-i
invariant-loop-i l = (l.self.server ≡ l.initial.self.server) × Opening l.n l.ranks l.items l.self.clients l.i
