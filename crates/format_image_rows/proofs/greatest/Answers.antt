-- What is left to show of `format_image_rows::greatest`.
use mathlib.Core.Path.{refl}
use Rattle.model.specs.Images.{greatest_of}
use Rattle.format_image_rows.proofs.greatest.Goals as goal

pub returns-then-timed : goal.returns-then-timed
unfolding greatest_of
returns-then-timed c = rw c.if-timed.true refl

pub returns-else-timed : goal.returns-else-timed
unfolding greatest_of
returns-else-timed c = rw c.if-timed.false refl
