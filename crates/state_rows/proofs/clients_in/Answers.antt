-- What is left to show of `state_rows::clients_in`.
use Rattle.model.specs.States.{clients_in, records_in}
use borrow.Author.Rules.{rules}
use Rattle.state_rows.proofs.clients_in.Goals as goal

pub returns : goal.returns
unfolding clients_in records_in
returns c = search rules
