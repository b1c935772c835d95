-- What is left to show of `server_decide::is_synced`.
use Rattle.model.specs.States.{is_synced}
use borrow.Author.Rules.{rules}
use Rattle.server_decide.proofs.is_synced.Goals as goal

pub returns : goal.returns
unfolding is_synced
returns c = search rules
