-- What is left to show of `server_inspect::records::place_executed`.
use mathlib.Core.Path.{◌∙◌}
use Rattle.model.specs.Checkpoints.{latest_of}
use Rattle.server_inspect.proofs.records.place_executed.Goals as goal

pub place_at-requires : goal.place_at-requires
place_at-requires c = rw c.executed_size-n.ensures c.requires

pub returns-then-execution-client : goal.returns-then-execution-client
unfolding latest_of
returns-then-execution-client c = rw c.if-execution-client.true (c.place_at.ensures ∙ rw c.executed_size-n.ensures)

pub returns : goal.returns
unfolding latest_of
returns c = rw c.if-execution-client.false
