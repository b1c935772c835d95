-- What is left to show of `format_fields::request_at`.
use Rattle.model.specs.Packets.{request_at}
use Rattle.format_fields.proofs.request_at.Goals as goal

pub returns : goal.returns
unfolding request_at
returns c = cc
