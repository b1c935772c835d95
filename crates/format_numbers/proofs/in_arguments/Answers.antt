-- What is left to show of `format_numbers::in_arguments`.
use borrow.Author.Rules.{rules}
use Rattle.model.specs.Rules.{in_arguments}
use Rattle.format_numbers.proofs.in_arguments.Goals as goal

pub returns : goal.returns
unfolding in_arguments
returns c = search rules
