-- What is left to show of `format_fields::notice_at`.
use Rattle.model.specs.Packets.{notice_at}
use Rattle.format_fields.proofs.notice_at.Goals as goal

pub returns : goal.returns
unfolding notice_at
returns c = cc
