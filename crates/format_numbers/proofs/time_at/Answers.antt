-- What is left to show of `format_numbers::time_at`.
use mathlib.Core.Path.{refl}
use Rattle.model.specs.Packets.{time_at}
use Rattle.format_numbers.proofs.time_at.Goals as goal

pub returns-then-timed : goal.returns-then-timed
unfolding time_at
returns-then-timed c = rw c.if-timed.true c.read_u32.ensures

pub returns-else-timed : goal.returns-else-timed
unfolding time_at
returns-else-timed c = rw c.if-timed.false refl
