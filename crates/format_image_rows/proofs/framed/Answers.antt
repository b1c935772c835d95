-- What is left to show of `format_image_rows::framed`.
use Rattle.model.specs.Images.{image_framed}
use Rattle.format_image_rows.proofs.framed.Goals as goal

pub returns : goal.returns
unfolding image_framed
returns c =
    rw (c.zeros3_at-zeros.ensures, c.starts_with-first.ensures, c.timed_in-timed.ensures)
