-- What is left to show of `format_fields::receipt_ok`.
use borrow.Author.Rules.{rules}
use Rattle.model.specs.Packets.{receipt_ok}
use Rattle.format_fields.proofs.receipt_ok.Goals as goal

pub returns : goal.returns
unfolding receipt_ok
returns c = search rules
