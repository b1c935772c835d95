-- What is left to show of `format_fields::refusal_at`.
use Rattle.model.specs.Packets.{refusal_at}
use Rattle.format_fields.proofs.refusal_at.Goals as goal

pub returns : goal.returns
unfolding refusal_at
returns c = cc
