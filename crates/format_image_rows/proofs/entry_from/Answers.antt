-- What is left to show of `format_image_rows::entry_from`.
use native.Mathlib.Omega.{arith}
use Rattle.model_laws.proofs.Images.{row_least}
use Rattle.format_image_rows.proofs.Rows.{time-room, entry-drop}
use Rattle.format_image_rows.proofs.entry_from.Goals as goal

pub bounds-s-k : goal.bounds-s-k
bounds-s-k c = omega (arith, c.requires, row_least c.args.timed)

pub read_signed-requires : goal.read_signed-requires
read_signed-requires c = omega (arith, c.requires, row_least c.args.timed)

pub bounds-s-k-2 : goal.bounds-s-k-2
bounds-s-k-2 c = omega (arith, c.requires, row_least c.args.timed)

pub time_at-requires : goal.time_at-requires
time_at-requires c t =
    omega (arith, time-room c.args.timed c.args.k c.requires t)

pub read_u32-requires : goal.read_u32-requires
read_u32-requires c = omega (arith, c.requires, row_least c.args.timed)

pub read_u32-requires-2 : goal.read_u32-requires-2
read_u32-requires-2 c = omega (arith, c.requires, row_least c.args.timed)

pub bounds-s-k-3 : goal.bounds-s-k-3
bounds-s-k-3 c = omega (arith, c.requires, row_least c.args.timed)

pub read_signed-requires-2 : goal.read_signed-requires-2
read_signed-requires-2 c = omega (arith, c.requires, row_least c.args.timed)

pub returns : goal.returns
returns c = let start = c.args in cc (entry-drop start.timed start.s.now start.k)
