-- What is left to show of `format_log_ends::size_at`.
use Prim.Native.Nat.{◌+◌}
use mathlib.Core.Path.{ap}
use native.Mathlib.Omega.{arith}
use Rattle.model.specs.Limits.{take_head}
use Rattle.format_numbers.proofs.Picks.{picks}
use Rattle.format_log_ends.specs.Answers.{size_from}
use Rattle.format_log_ends.proofs.Ends.{from-head, size_by}
use Rattle.format_log_ends.proofs.size_at.Goals as goal

pub bounds-log-at : goal.bounds-log-at
bounds-log-at c = omega (arith, from-head _ _ c.requires)

pub overflow_add-at : goal.overflow_add-at
overflow_add-at c = omega (arith, from-head _ _ c.requires)

pub read_u32-requires : goal.read_u32-requires
read_u32-requires c = omega (arith, from-head _ _ c.requires)

pub returns-in-1 : goal.returns-in-1
unfolding size_from
returns-in-1 c = size_by _ _ c.requires (rw c.in-1.is)

pub returns-in-2 : goal.returns-in-2
unfolding size_from
returns-in-2 c = size_by _ _ c.requires (rw c.in-2.is)

pub returns-in-3 : goal.returns-in-3
unfolding size_from
returns-in-3 c = size_by _ _ c.requires (rw c.in-3.is)

pub returns-in-4 : goal.returns-in-4
unfolding size_from
returns-in-4 c = size_by _ _ c.requires (rw c.in-4.is (ap (◌+◌ take_head) c.read_u32.ensures))

pub returns-in-5 : goal.returns-in-5
unfolding size_from
returns-in-5 c = size_by _ _ c.requires (rw c.in-5.is)

pub returns-in_default : goal.returns-in_default
unfolding size_from
returns-in_default c = size_by _ _ c.requires (search picks depth 24)
