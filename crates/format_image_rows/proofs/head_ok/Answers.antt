-- What is left to show of `format_image_rows::head_ok`.
use Rattle.model.specs.Images.{image_head_ok}
use borrow.Author.Rules.{rules}
use Rattle.format_image_rows.proofs.head_ok.Goals as goal

pub returns : goal.returns
unfolding image_head_ok
returns c = search rules
