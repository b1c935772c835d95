-- What is left to show of `format_numbers::outcome_ok`.
use borrow.Author.Rules.{rules}
use Rattle.model.specs.Packets.{outcome_ok}
use Rattle.format_numbers.proofs.outcome_ok.Goals as goal

pub returns : goal.returns
unfolding outcome_ok
returns c = search rules
