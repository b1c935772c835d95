-- What is left to show of `simulator::at_server::server_step`.
use Rattle.simulator.proofs.Cuts.{cut-served}
use Rattle.simulator.specs.Server.{server_ran}
use Rattle.simulator.proofs.at_server.server_step.Goals as goal

pub returns-in-Deliver : goal.returns-in-Deliver
unfolding server_ran
returns-in-Deliver c =
    rw c.in-Deliver.is c.deliver_line.ensures

pub returns-in-Sync : goal.returns-in-Sync
unfolding server_ran
returns-in-Sync c =
    rw c.in-Sync.is c.sync_line.ensures

pub returns-in-Cut : goal.returns-in-Cut
returns-in-Cut c =
    let e = c.cut_line.ensures in
    rw c.in-Cut.is (cut-served _ _ _ _ _ _ _ e.0 e.1)

pub returns-in-Give : goal.returns-in-Give
unfolding server_ran
returns-in-Give c =
    rw c.in-Give.is c.give_line.ensures

pub returns-in-Image : goal.returns-in-Image
unfolding server_ran
returns-in-Image c =
    rw c.in-Image.is c.image_line.ensures

pub returns-in-Receipt : goal.returns-in-Receipt
unfolding server_ran
returns-in-Receipt c =
    rw c.in-Receipt.is c.receipt_line.ensures
