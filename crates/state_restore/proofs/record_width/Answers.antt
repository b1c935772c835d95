-- What is left to show of `state_restore::record_width`.
use Rattle.model.specs.Checkpoints.{checkpoint_record_of, record_width}
use Rattle.format_numbers.proofs.Picks.{picks}
use Rattle.state_restore.proofs.record_width.Goals as goal

pub returns-then-starts_with : goal.returns-then-starts_with
unfolding checkpoint_record_of record_width
returns-then-starts_with c = search picks depth 24

pub returns-else-starts_with : goal.returns-else-starts_with
unfolding checkpoint_record_of record_width
returns-else-starts_with c = search picks depth 24
