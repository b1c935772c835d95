-- What is left to show of `format_numbers::command_ok`.
use Rattle.model.specs.Packets.{command_ok}
use Rattle.format_numbers.proofs.command_ok.Goals as goal

pub returns : goal.returns
unfolding command_ok
returns c = cc
