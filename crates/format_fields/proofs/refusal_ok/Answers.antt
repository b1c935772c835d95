-- What is left to show of `format_fields::refusal_ok`.
use Rattle.model.specs.Packets.{refusal_ok}
use Rattle.format_fields.proofs.refusal_ok.Goals as goal

pub returns : goal.returns
unfolding refusal_ok
returns c = cc
