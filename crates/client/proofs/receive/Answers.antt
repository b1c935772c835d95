-- What is left to show of `client::receive`.
use Rattle.client.specs.Changes.{received}
use Rattle.client.proofs.receive.Goals as goal

pub returns : goal.returns
unfolding received
returns c = rw (c.placed-calls.ensures, c.packet_call-c.ensures) c.receive_change-change.ensures
