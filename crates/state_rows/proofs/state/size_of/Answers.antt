-- What is left to show of `state_rows::state::size_of`.
use Rattle.model.specs.States.{load}
use borrow.Author.Rules.{rules}
use Rattle.state_rows.proofs.state.size_of.Goals as goal

pub returns : goal.returns
unfolding load
returns c = search rules
