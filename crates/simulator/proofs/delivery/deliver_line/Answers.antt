-- What is left to show of `simulator::delivery::deliver_line`.
use Rattle.simulator.proofs.Deliveries.{deliver_nowhere, deliver-made, told-served}
use Rattle.simulator_memory.proofs.Rows.{filled_row}
use mathlib.Core.Path.{◌∙◌}
use Rattle.simulator.proofs.delivery.deliver_line.Goals as goal

pub returns-in_default : goal.returns-in_default
returns-in_default c =
    let a = c.args in
    let w = told-served c.told.result a.s.now a.log.now a.store.now a.count c.told.ensures.0 c.told.ensures.1 in
    (w.0 ∙ deliver_nowhere _ _ _ (c.place_of-place.ensures.0 a.store.now) _ _ c.in_default.is, w.1)

pub deliver_row-requires : goal.deliver_row-requires
deliver_row-requires c =
    (c.requires, filled_row _ c.place_of-place.ensures.1 c.in-Some.is)

pub returns : goal.returns
returns c =
    let a = c.args in
    (deliver-made _ _ _ (c.place_of-place.ensures.0 a.store.now) _ _ c.in-Some.is c.deliver_row.ensures.0, c.deliver_row.ensures.1)
