-- What is left to show of `client::receive_change`.
use Rattle.std.specs.Prelude.{Some}
use mathlib.Core.Path.{sym, subst, ◌∙◌}
use Rattle.model.specs.Clients.{receive_with}
use Rattle.client.specs.Changes.{packet_call, OfCall}
use Rattle.client.proofs.Others.{of_call, receive-same}
use Rattle.client.proofs.receive_change.Goals as goal

pub taken-requires : goal.taken-requires
taken-requires c =
    let of : OfCall (packet_call c.args.packet.now) (Some _) = subst (OfCall (packet_call c.args.packet.now)) (sym c.client_packet.ensures ∙ c.in-Some.is) (of_call _) in
    (rw c.packet_call-c.ensures c.requires, subst (λ x. OfCall x (Some c.in-Some.parsed)) (sym c.packet_call-c.ensures) of)

pub returns-in_default : goal.returns-in_default
unfolding receive_with
returns-in_default c =
    let start = c.args in
    rw (← c.packet_call-c.ensures, ← receive-same start.packet.now start.d, ← c.client_packet.ensures, c.in_default.is) c.not_received.ensures

pub returns : goal.returns
returns c =
    let start = c.args in
    rw (← c.packet_call-c.ensures, ← receive-same start.packet.now start.d, ← c.client_packet.ensures, c.in-Some.is) c.taken.ensures
