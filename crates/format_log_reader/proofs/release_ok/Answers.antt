-- What is left to show of `format_log_reader::release_ok`.
use borrow.Author.Rules.{rules}
use Rattle.model.specs.Logs.{release_ok}
use Rattle.format_log_reader.proofs.release_ok.Goals as goal

pub returns : goal.returns
unfolding release_ok
returns c = search rules
