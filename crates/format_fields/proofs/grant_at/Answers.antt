-- What is left to show of `format_fields::grant_at`.
use Rattle.model.specs.Packets.{grant_at}
use Rattle.format_fields.proofs.grant_at.Goals as goal

pub returns : goal.returns
unfolding grant_at
returns c = cc
