-- What is left to show of `client_c::mantelorris_receive`.
use mathlib.Core.Path.{refl}
use Rattle.model.specs.Clients.{call_at}
use Rattle.client_c.proofs.Cases.{received_numbered, receives}
use Rattle.client_c.proofs.mantelorris_receive.Goals as goal

pub receive_change-change-requires : goal.receive_change-change-requires
unfolding call_at
receive_change-change-requires c = rw c.packet_place-i.ensures.0 refl

pub returns : goal.returns
returns c = rw c.packet_place-i.ensures.0 (receives _ _ c.receive_change-change.result c.receive_change-change.ensures (received_numbered _ c.numbered.ensures c.receive_reply.ensures))
