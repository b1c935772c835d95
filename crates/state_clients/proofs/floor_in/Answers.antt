-- What is left to show of `state_clients::floor_in`.
use Rattle.state_clients.proofs.Own.{floor-own}
use Rattle.state_clients.proofs.floor_in.Goals as goal

pub returns : goal.returns
returns c = floor-own c.args.s.now c.args.client c.clients_of-n.ensures c.floor_of.ensures
