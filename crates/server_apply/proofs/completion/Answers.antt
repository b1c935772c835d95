-- What is left to show of `server_apply::completion`.
use Rattle.model.specs.Apply.{completion}
use borrow.Author.Rules.{rules}
use Rattle.server_apply.proofs.completion.Goals as goal

pub returns : goal.returns
unfolding completion
returns c = search rules
