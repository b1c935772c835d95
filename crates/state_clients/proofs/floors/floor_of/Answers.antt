-- What is left to show of `state_clients::floors::floor_of`.
use lib.ListN.{drop}
use Rattle.model.specs.Tables.{rows}
use Rattle.model.specs.Images.{floor_of_bytes}
use Rattle.model.specs.Limits.{floor_row}
use Rattle.state_clients.proofs.Search.{floor-found}
use Rattle.state_clients.proofs.floors.floor_of.Goals as goal

pub returns : goal.returns
returns c =
    let a = c.args in
    floor-found a.client (rows floor_of_bytes floor_row a.n (drop a.at a.s.now)) c.client_place-i.ensures c.floor_at.ensures
