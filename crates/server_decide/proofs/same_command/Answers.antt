-- What is left to show of `server_decide::same_command`.
use Rattle.model.specs.Decisions.{same_command}
use borrow.Author.Rules.{rules}
use Rattle.server_decide.proofs.same_command.Goals as goal

pub returns : goal.returns
unfolding same_command
returns c = search rules
