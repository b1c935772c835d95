-- What is left to show of `format_numbers::done_ok`.
use Rattle.model.specs.Packets.{done_ok}
use borrow.Author.Rules.{rules}
use Rattle.format_numbers.proofs.done_ok.Goals as goal

pub returns : goal.returns
unfolding done_ok
returns c = search rules
