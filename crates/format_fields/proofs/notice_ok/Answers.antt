-- What is left to show of `format_fields::notice_ok`.
use borrow.Author.Rules.{rules}
use Rattle.model.specs.Packets.{notice_ok}
use Rattle.format_fields.proofs.notice_ok.Goals as goal

pub returns : goal.returns
unfolding notice_ok
returns c = search rules
