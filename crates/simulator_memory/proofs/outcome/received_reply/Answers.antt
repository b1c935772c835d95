-- What is left to show of `simulator_memory::outcome::received_reply`.
use borrow.Author.Rules.{rules}
use Rattle.model.specs.Clients.{receive_number, brought}
use Rattle.simulator_memory.proofs.outcome.received_reply.Goals as goal

pub returns-in-Err : goal.returns-in-Err
unfolding receive_number brought
returns-in-Err c = search rules

pub returns-in-Ok-Completed : goal.returns-in-Ok-Completed
unfolding receive_number brought
returns-in-Ok-Completed c = search rules

pub returns-in-Ok-Denied : goal.returns-in-Ok-Denied
unfolding receive_number brought
returns-in-Ok-Denied c = search rules

pub returns-in-Ok-Extended : goal.returns-in-Ok-Extended
unfolding receive_number brought
returns-in-Ok-Extended c = search rules
