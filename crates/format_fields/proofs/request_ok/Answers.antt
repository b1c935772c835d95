-- What is left to show of `format_fields::request_ok`.
use Rattle.model.specs.Packets.{request_ok}
use Rattle.format_fields.proofs.request_ok.Goals as goal

pub returns : goal.returns
unfolding request_ok
returns c = cc
