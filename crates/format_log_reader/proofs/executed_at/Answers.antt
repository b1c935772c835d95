-- What is left to show of `format_log_reader::executed_at`.
use Rattle.model.specs.Logs.{executed_at}
use native.Mathlib.Omega.{arith}
use Rattle.format_log_reader.proofs.Reading.{size-least, size-timed}
use Rattle.format_log_reader.proofs.executed_at.Goals as goal

pub read_u32-requires : goal.read_u32-requires
read_u32-requires c = omega (arith, size-least _ _ c.requires)

pub read_u32-requires-2 : goal.read_u32-requires-2
read_u32-requires-2 c = omega (arith, size-least _ _ c.requires)

pub bounds-s-1 : goal.bounds-s-1
bounds-s-1 c = omega (arith, size-least _ _ c.requires)

pub bounds-s-2 : goal.bounds-s-2
bounds-s-2 c = omega (arith, size-least _ _ c.requires)

pub read_signed-requires : goal.read_signed-requires
read_signed-requires c = omega (arith, size-least _ _ c.requires)

pub bounds-s-3 : goal.bounds-s-3
bounds-s-3 c = omega (arith, size-least _ _ c.requires)

pub read_signed-requires-2 : goal.read_signed-requires-2
read_signed-requires-2 c = omega (arith, size-least _ _ c.requires)

pub bounds-s-24 : goal.bounds-s-24
bounds-s-24 c = omega (arith, size-least _ _ c.requires)

pub time_at-requires : goal.time_at-requires
time_at-requires c = size-timed _ _ c.requires

pub read_u32-requires-3 : goal.read_u32-requires-3
read_u32-requires-3 c = omega (arith, size-least _ _ c.requires)

pub returns : goal.returns
unfolding executed_at
returns c = cc
