-- What is left to show of `simulator::delivery::deliver_row`.
use mathlib.Core.Path.{◌∙◌}
use native.Mathlib.Omega.{arith}
use Rattle.model.specs.Simulator.{room}
use Rattle.simulator.proofs.Deliveries.{served_by_lem, told-served, by_request_lem, by_release_lem, by_take_lem, by_none}
use Rattle.simulator.proofs.delivery.deliver_row.Goals as goal

pub returns-in-1 : goal.returns-in-1
unfolding room
returns-in-1 c =
    let e = served_by_lem _ (rw c.request_answer-answer.ensures c.request-outcome.ensures) c.called.ensures in
    rw (← c.packet_at-packet.ensures) (e.0 ∙ by_request_lem _ _ _ _ c.first_byte.ensures c.in-1.is, e.1)

pub returns-in-4 : goal.returns-in-4
returns-in-4 c =
    let e = served_by_lem _ (rw c.answer-answer.ensures c.release.ensures) c.called-in-4.ensures in
    rw (← c.packet_at-packet.ensures) (e.0 ∙ by_release_lem _ _ _ _ c.first_byte.ensures c.in-4.is, e.1)

pub returns-in-77 : goal.returns-in-77
returns-in-77 c =
    let e = served_by_lem _ (rw c.answer-answer-in-77.ensures c.take.ensures) c.called-in-77.ensures in
    rw (← c.packet_at-packet.ensures) (e.0 ∙ by_take_lem _ _ _ _ c.first_byte.ensures c.in-77.is, e.1)

pub returns-in_default : goal.returns-in_default
returns-in_default c =
    let a = c.args in
    let e = told-served c.told.result a.s.now a.log.now a.store.now a.count c.told.ensures.0 c.told.ensures.1 in
    rw (← c.packet_at-packet.ensures) (e.0 ∙ by_none _ _ _ _ c.first_byte.ensures (λ q. omega arith) (λ q. omega arith) (λ q. omega arith), e.1)
