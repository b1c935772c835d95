-- What is left to show of `format_numbers::read_u32`.
use Rattle.model.specs.Numbers.{le32_at}
use borrow.Author.Rules.{rules}
use Rattle.format_numbers.proofs.read_u32.Goals as goal

pub returns : goal.returns
unfolding le32_at
returns c = search rules
