-- What is left to show of `format_numbers::id_ok`.
use borrow.Author.Rules.{rules}
use Rattle.model.specs.Packets.{id_ok}
use Rattle.format_numbers.proofs.id_ok.Goals as goal

pub returns : goal.returns
unfolding id_ok
returns c = search rules
