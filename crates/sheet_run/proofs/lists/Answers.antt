-- `lists` meets its contract: the server's list, then those of the clients (proofs/Showing.antt).
use native.Mathlib.Omega.{arith}
use Rattle.sheet_ends.proofs.Wholes.{lines_few, server_short}
use Rattle.sheet_run.proofs.Showing.{clients_shown, all_shown}
use Rattle.sheet_run.proofs.lists.Goals as goal

pub shared_ref_as_front-server_list : goal.shared_ref_as_front-server_list
shared_ref_as_front-server_list c = omega (arith, server_short c.args.ends.now c.requires)

pub shared_ref_as_front-client_lists : goal.shared_ref_as_front-client_lists
shared_ref_as_front-client_lists c = lines_few c.args.ends.now c.requires

pub client_lists-requires : goal.client_lists-requires
client_lists-requires c = clients_shown c.args.ends.now c.requires

pub returns : goal.returns
returns c = all_shown c.args.ends.now c.requires _ _ _ c.server_list-to.ensures c.client_lists.ensures
