-- What is left to show of `server_apply::executed_point`.
use Rattle.model.specs.Apply.{executed_point}
use borrow.Author.Rules.{rules}
use Rattle.server_apply.proofs.executed_point.Goals as goal

pub returns : goal.returns
unfolding executed_point
returns c = search rules
