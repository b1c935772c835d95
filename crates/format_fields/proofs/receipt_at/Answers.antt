-- What is left to show of `format_fields::receipt_at`.
use Rattle.model.specs.Packets.{receipt_at}
use Rattle.format_fields.proofs.receipt_at.Goals as goal

pub returns : goal.returns
unfolding receipt_at
returns c = cc
