-- What is left to show of `server_apply::gave_point`.
use Rattle.model.specs.Apply.{gave_point}
use borrow.Author.Rules.{rules}
use Rattle.server_apply.proofs.gave_point.Goals as goal

pub returns : goal.returns
unfolding gave_point
returns c = search rules
