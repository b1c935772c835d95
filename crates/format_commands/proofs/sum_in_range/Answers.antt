-- What is left to show of `format_commands::sum_in_range`.
use Rattle.model.specs.Rules.{sum_in_range}
use borrow.Author.Rules.{rules}
use Rattle.format_commands.proofs.sum_in_range.Goals as goal

pub returns : goal.returns
unfolding sum_in_range
returns c = search rules
