-- What is left to show of `state_clients::floors::client_place`.
use Rattle.model.specs.Limits.{floor_row}
use Rattle.model.specs.Images.{floor_of_bytes}
use Rattle.model_laws.proofs.Searches.{row_hit, row_next, row_none}
use Rattle.state_clients.specs.Places.{place_of}
use Rattle.state_clients.proofs.Search.{is-client, not-client}
use Rattle.state_clients.proofs.floors.client_place.Goals as goal

pub returns-then-f-client : goal.returns-then-f-client
unfolding place_of
returns-then-f-client c =
    let a = c.args in
    row_hit floor_of_bytes floor_row a.at a.n a.s.now c.loop-i.invariant c.loop-i-test.true (is-client c.floor_from-f.ensures c.if-f-client.true)

pub loop-i-preserved : goal.loop-i-preserved
loop-i-preserved c =
    let a = c.args in
    row_next floor_of_bytes floor_row a.at a.n a.s.now c.loop-i.invariant c.loop-i-test.true (not-client c.floor_from-f.ensures c.if-f-client.false)

pub returns : goal.returns
unfolding place_of
returns c = let a = c.args in row_none floor_of_bytes floor_row a.at a.n a.s.now c.loop-i.invariant c.loop-i-test.false
