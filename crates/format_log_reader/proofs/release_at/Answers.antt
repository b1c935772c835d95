-- What is left to show of `format_log_reader::release_at`.
use Rattle.model.specs.Logs.{release_at}
use Rattle.format_log_reader.proofs.release_at.Goals as goal

pub returns : goal.returns
unfolding release_at
returns c = cc
