-- What is left to show of `format_log_reader::give_at`.
use Rattle.model.specs.Logs.{give_at}
use Rattle.format_log_reader.proofs.give_at.Goals as goal

pub returns : goal.returns
unfolding give_at
returns c = cc
