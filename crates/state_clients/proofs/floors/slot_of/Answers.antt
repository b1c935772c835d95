-- What is left to show of `state_clients::floors::slot_of`.
use native.Mathlib.Omega.{arith}
use lib.ListN.{drop}
use Rattle.model.specs.Tables.{rows}
use Rattle.model.specs.Images.{floor_of_bytes}
use Rattle.model.specs.Limits.{floor_row}
use Rattle.state_clients.proofs.Search.{place-within, slot_found}
use Rattle.state_clients.proofs.floors.slot_of.Goals as goal

pub overflow_mul-result : goal.overflow_mul-result
overflow_mul-result c =
    let a = c.args in
    omega (arith, c.requires, place-within a.client a.at a.s.now a.n c.client_place-i.ensures)

pub overflow_add-result : goal.overflow_add-result
overflow_add-result c =
    let a = c.args in
    omega (arith, c.requires, c.ranges, c.call_above.ensures, place-within a.client a.at a.s.now a.n c.client_place-i.ensures)

pub returns : goal.returns
returns c =
    let a = c.args in
    slot_found (rows floor_of_bytes floor_row a.n (drop a.at a.s.now)) a.client a.call c.client_place-i.ensures c.floor_at-floor.ensures c.call_above.ensures
