-- What is left to show of `simulator::at_client::receive_row`.
use Rattle.simulator.proofs.Receptions.{receive_by}
use mathlib.Core.Path.{refl}
use Rattle.simulator.proofs.at_client.receive_row.Goals as goal

pub returns : goal.returns
returns c =
    (receive_by _ _ _ _ _ c.receive-received.result (rw (← c.packet_at-packet.ensures) c.receive-received.ensures) refl refl c.received_reply-reply.ensures, refl)
