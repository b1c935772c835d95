-- What is left to show of `format_numbers::in_range`.
use borrow.Author.Rules.{rules}
use Rattle.model.specs.Plan.{in_range}
use Rattle.format_numbers.proofs.in_range.Goals as goal

pub returns : goal.returns
unfolding in_range
returns c = search rules
