-- What is left to show of `simulator::at_server::recover_from`.
use Rattle.simulator.proofs.Cuts.{recovered-parts}
use Rattle.simulator.proofs.at_server.recover_from.Goals as goal

pub returns : goal.returns
returns c = rw (← c.plan-table.ensures) (recovered-parts c.answer.ensures c.recover.ensures)
