-- What is left to show of `format_log_ends::head_server`.
use Rattle.model.specs.Logs.{head_server}
use borrow.Author.Rules.{rules}
use Rattle.format_log_ends.proofs.head_server.Goals as goal

pub returns : goal.returns
unfolding head_server
returns c = search rules
