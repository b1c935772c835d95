-- What is left to show of `simulator::at_server::give_line`.
use Rattle.simulator.proofs.Deliveries.{served_by_lem}
use Rattle.simulator.proofs.at_server.give_line.Goals as goal

pub returns : goal.returns
returns c =
    served_by_lem _ (rw c.answer-answer.ensures c.give.ensures) c.called.ensures
