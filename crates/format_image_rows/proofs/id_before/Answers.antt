-- What is left to show of `format_image_rows::id_before`.
use Rattle.format_image_rows.specs.Order.{entry_before}
use Rattle.model.specs.Images.{id_before}
use Rattle.format_image_rows.proofs.id_before.Goals as goal

pub returns : goal.returns
unfolding entry_before id_before
returns c = rw (c.entry_from-next.ensures, c.entry_from-entry.ensures)
