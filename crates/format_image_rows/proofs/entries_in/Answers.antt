-- What is left to show of `format_image_rows::entries_in`.
use mathlib.Core.Path.{refl}
use Rattle.model.specs.Images.{entry_row_of}
use Rattle.format_image_rows.proofs.entries_in.Goals as goal

pub returns-then-timed : goal.returns-then-timed
unfolding entry_row_of
returns-then-timed c = rw c.if-timed.true refl

pub returns-else-timed : goal.returns-else-timed
unfolding entry_row_of
returns-else-timed c = rw c.if-timed.false refl
