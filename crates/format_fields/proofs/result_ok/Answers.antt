-- What is left to show of `format_fields::result_ok`.
use Rattle.model.specs.Packets.{result_ok}
use Rattle.format_fields.proofs.result_ok.Goals as goal

pub returns : goal.returns
unfolding result_ok
returns c = cc
