-- What is left to show of `format_log_reader::give_ok`.
use Rattle.model.specs.Logs.{give_ok}
use Rattle.format_log_reader.proofs.give_ok.Goals as goal

pub returns : goal.returns
unfolding give_ok
returns c = cc
