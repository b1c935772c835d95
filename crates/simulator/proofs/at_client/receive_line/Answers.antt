-- What is left to show of `simulator::at_client::receive_line`.
use Rattle.simulator.proofs.Receptions.{receive-none, receive-made}
use Rattle.simulator_memory.proofs.Rows.{filled_row}
use native.Mathlib.Omega.{arith}
use Rattle.simulator.proofs.at_client.receive_line.Goals as goal

pub returns-in_default : goal.returns-in_default
returns-in_default c =
    let a = c.args in
    let r = c.no_packet.ensures in
    (receive-none _ _ _ (c.place_of-place.ensures.0 a.store.now) _ _ c.in_default.is r.0 r.1 r.2, r.1)

pub receive_row-requires : goal.receive_row-requires
receive_row-requires c =
    let f = filled_row _ c.place_of-place.ensures.1 c.in-Some.is in
    omega (arith, f, c.requires.rows)

pub returns : goal.returns
returns c =
    let a = c.args in
    (receive-made _ _ _ (c.place_of-place.ensures.0 a.store.now) _ c.in-Some.is c.receive_row.ensures.0, c.receive_row.ensures.1)
