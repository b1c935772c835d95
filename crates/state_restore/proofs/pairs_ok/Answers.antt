-- What is left to show of `state_restore::pairs_ok`.
use Rattle.state_restore.specs.Parts.{fixed_pairs}
use Rattle.state_restore.proofs.pairs_ok.Goals as goal

pub returns : goal.returns
unfolding fixed_pairs
returns c =
    rw (c.read_u32-clients.ensures, c.read_u32-points_length.ensures, c.read_u32-points.ensures, c.read_u32-plan_length.ensures, c.read_u32-plan.ensures, c.table_pairs-tables.ensures)
