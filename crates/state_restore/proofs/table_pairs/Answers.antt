-- What is left to show of `state_restore::table_pairs`.
use Rattle.model.specs.Checkpoints.{clients_of}
use Rattle.state_restore.specs.Parts.{table_pairs}
use Rattle.state_restore.proofs.table_pairs.Goals as goal

pub returns : goal.returns
unfolding table_pairs clients_of
returns c = rw (c.read_u32-records.ensures, c.read_u32-third.ensures, c.read_u32-clients.ensures)
