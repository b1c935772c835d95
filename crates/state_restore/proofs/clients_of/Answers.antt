-- What is left to show of `state_restore::clients_of`.
use Rattle.model.specs.Checkpoints.{clients_of}
use Rattle.state_restore.proofs.clients_of.Goals as goal

pub returns : goal.returns
unfolding clients_of
returns c = rw c.read_u32.ensures
