-- What is left to show of `server_decide::is_held`.
use Rattle.model.specs.States.{is_held}
use borrow.Author.Rules.{rules}
use Rattle.server_decide.proofs.is_held.Goals as goal

pub returns : goal.returns
unfolding is_held
returns c = search rules
