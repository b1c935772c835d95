-- What is left to show of `format_fields::grant_ok`.
use borrow.Author.Rules.{rules}
use Rattle.model.specs.Packets.{grant_ok}
use Rattle.format_fields.proofs.grant_ok.Goals as goal

pub returns : goal.returns
unfolding grant_ok
returns c = search rules
