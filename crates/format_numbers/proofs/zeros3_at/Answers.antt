-- What is left to show of `format_numbers::zeros3_at`.
use Rattle.model.specs.Numbers.{zeros3_at}
use borrow.Author.Rules.{rules}
use Rattle.format_numbers.proofs.zeros3_at.Goals as goal

pub returns : goal.returns
unfolding zeros3_at
returns c = search rules
