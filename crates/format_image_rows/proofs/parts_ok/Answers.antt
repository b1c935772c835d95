-- What is left to show of `format_image_rows::parts_ok`.
use native.Mathlib.Omega.{arith}
use Rattle.model.specs.Images.{image_parts}
use Rattle.model_laws.proofs.Images.{width-most}
use Rattle.format_image_rows.proofs.parts_ok.Goals as goal

pub overflow_mul-entries : goal.overflow_mul-entries
overflow_mul-entries c =
    let h = c.args.h in
    rw c.entry_width.ensures (omega (arith, width-most h h.entries))

pub overflow_add-result : goal.overflow_add-result
overflow_add-result c =
    let h = c.args.h in
    rw (c.entry_width.ensures, c.entries_start-records.ensures) (omega (arith, width-most h h.entries))

pub returns : goal.returns
unfolding image_parts
returns c =
    rw (
      c.read_u32-third_length.ensures,
      c.read_u32-third.ensures,
      c.read_u32-second_length.ensures,
      c.read_u32-second.ensures,
      c.read_u32-first_length.ensures,
      c.read_u32-first.ensures,
      c.entries_start-records.ensures,
      c.entry_width.ensures,
    )
