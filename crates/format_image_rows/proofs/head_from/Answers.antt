-- What is left to show of `format_image_rows::head_from`.
use Rattle.model.specs.Images.{image_head_of}
use Rattle.format_image_rows.proofs.head_from.Goals as goal

pub returns : goal.returns
unfolding image_head_of
returns c = cc
