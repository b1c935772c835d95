-- What is left to show of `format_image_rows::entry_in_range`.
use Rattle.model.specs.Images.{entry_in_range}
use Rattle.format_image_rows.proofs.entry_in_range.Goals as goal

pub returns : goal.returns
unfolding entry_in_range
returns c = rw (c.in_range.ensures, c.entry_from-entry.ensures)
