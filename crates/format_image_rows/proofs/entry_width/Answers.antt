-- What is left to show of `format_image_rows::entry_width`.
use mathlib.Core.Path.{refl}
use Rattle.model.specs.Images.{entry_row_of, entry_width}
use Rattle.format_image_rows.proofs.entry_width.Goals as goal

pub returns-then-h : goal.returns-then-h
unfolding entry_width entry_row_of
returns-then-h c = rw c.if-h.true refl

pub returns-else-h : goal.returns-else-h
unfolding entry_width entry_row_of
returns-else-h c = rw c.if-h.false refl
