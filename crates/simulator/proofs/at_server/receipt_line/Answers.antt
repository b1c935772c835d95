-- What is left to show of `simulator::at_server::receipt_line`.
use Rattle.simulator.proofs.Deliveries.{served_by_lem}
use Rattle.model.specs.Simulator.{room}
use Rattle.simulator.proofs.at_server.receipt_line.Goals as goal

pub returns : goal.returns
unfolding room
returns c = served_by_lem _ (rw c.answer-answer.ensures c.receipt.ensures) c.called.ensures
