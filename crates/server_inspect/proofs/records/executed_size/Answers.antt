-- What is left to show of `server_inspect::records::executed_size`.
use mathlib.Core.Path.{refl}
use Rattle.model.specs.Logs.{executed_size_of}
use Rattle.server_inspect.proofs.records.executed_size.Goals as goal

pub returns-then-timed : goal.returns-then-timed
unfolding executed_size_of
returns-then-timed c = rw c.if-timed.true refl

pub returns-else-timed : goal.returns-else-timed
unfolding executed_size_of
returns-else-timed c = rw c.if-timed.false refl
