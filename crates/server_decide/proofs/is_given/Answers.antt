-- What is left to show of `server_decide::is_given`.
use Rattle.model.specs.States.{is_given}
use borrow.Author.Rules.{rules}
use Rattle.server_decide.proofs.is_given.Goals as goal

pub returns : goal.returns
unfolding is_given
returns c = search rules
