-- What is left to show of `chamber_c::start_number`.
use borrow.Author.Rules.{rules}
use Rattle.model.specs.Clients.{start_number}
use Rattle.chamber_c.proofs.start_number.Goals as goal

pub returns-in-Ok : goal.returns-in-Ok
unfolding start_number
returns-in-Ok c = search rules

pub returns-in-Err : goal.returns-in-Err
unfolding start_number
returns-in-Err c = search rules
