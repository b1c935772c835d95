-- What is left to show of `format_fields::result_at`.
use native.Mathlib.Omega.{arith}
use Rattle.model.specs.Packets.{result_at}
use Rattle.format_fields.proofs.Forms.{size-least, size-timed}
use Rattle.format_fields.proofs.result_at.Goals as goal

pub bounds-packet-1 : goal.bounds-packet-1
bounds-packet-1 c = omega (arith, size-least _ _ c.requires)

pub read_signed-requires : goal.read_signed-requires
read_signed-requires c = size-least _ _ c.requires

pub bounds-packet-3 : goal.bounds-packet-3
bounds-packet-3 c = omega (arith, size-least _ _ c.requires)

pub time_at-requires : goal.time_at-requires
time_at-requires c = size-timed _ _ c.requires

pub read_u32-requires : goal.read_u32-requires
read_u32-requires c = omega (arith, size-least _ _ c.requires)

pub read_u32-requires-2 : goal.read_u32-requires-2
read_u32-requires-2 c = omega (arith, size-least _ _ c.requires)

pub bounds-packet-2 : goal.bounds-packet-2
bounds-packet-2 c = omega (arith, size-least _ _ c.requires)

pub returns : goal.returns
unfolding result_at
returns c = cc
