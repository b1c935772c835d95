-- What is left to show of `format_floors::in_window`.
use Rattle.model.specs.Images.{in_window}
use borrow.Author.Rules.{rules}
use Rattle.format_floors.proofs.in_window.Goals as goal

pub returns : goal.returns
unfolding in_window
returns c = search rules
