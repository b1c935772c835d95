-- What is left to show of `client_c::mantelorris_start`.
use borrow.Author.Rules.{rules}
use Rattle.model.specs.Clients.{start_number}
use Rattle.client_c.specs.Replies.{start_reply}
use Rattle.client_c.proofs.mantelorris_start.Goals as goal

pub returns-in-Ok : goal.returns-in-Ok
unfolding start_reply start_number
returns-in-Ok c = search rules

pub returns-in-Err : goal.returns-in-Err
unfolding start_reply start_number
returns-in-Err c = search rules
