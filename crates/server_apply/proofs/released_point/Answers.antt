-- What is left to show of `server_apply::released_point`.
use Rattle.model.specs.Apply.{released_point}
use borrow.Author.Rules.{rules}
use Rattle.server_apply.proofs.released_point.Goals as goal

pub returns : goal.returns
unfolding released_point
returns c = search rules
