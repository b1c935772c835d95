-- What is left to show of `format_log_reader::executed_ok`.
use Rattle.model.specs.Logs.{executed_ok}
use Rattle.format_log_reader.proofs.executed_ok.Goals as goal

pub returns : goal.returns
unfolding executed_ok
returns c = cc
