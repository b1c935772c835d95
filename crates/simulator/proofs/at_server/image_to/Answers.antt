-- What is left to show of `simulator::at_server::image_to`.
use Rattle.simulator.proofs.Deliveries.{served_by_lem}
use Rattle.simulator.proofs.at_server.image_to.Goals as goal

pub returns : goal.returns
returns c = served_by_lem _ (rw c.answer-answer.ensures c.image.ensures) c.called.ensures
