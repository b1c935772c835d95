-- What is left to show of `simulator::at_server::sync_line`.
use Rattle.simulator.proofs.Deliveries.{served_by_lem}
use Rattle.simulator.proofs.at_server.sync_line.Goals as goal

pub returns : goal.returns
returns c =
    rw (← c.size_of-size.ensures) (served_by_lem _ (rw c.answer-answer.ensures c.sync.ensures) c.called.ensures)
