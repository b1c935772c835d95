-- What is left to show of `client_c::receive_reply`.
use borrow.Author.Rules.{rules}
use Rattle.model.specs.Numbers.{flip}
use Rattle.model.specs.Clients.{receive_number, brought}
use Rattle.client_c.specs.Replies.{receive_reply, receive_reply_by}
use Rattle.client_c.proofs.receive_reply.Goals as goal

pub returns-in-Err : goal.returns-in-Err
unfolding receive_reply_by receive_reply receive_number brought flip
returns-in-Err c = search rules

pub returns-in-Ok-Completed : goal.returns-in-Ok-Completed
unfolding receive_reply_by receive_reply receive_number brought
returns-in-Ok-Completed c = search rules

pub returns-in-Ok-Denied : goal.returns-in-Ok-Denied
unfolding receive_reply_by receive_reply receive_number brought flip
returns-in-Ok-Denied c = search rules

pub returns-in-Ok-Extended : goal.returns-in-Ok-Extended
unfolding receive_reply_by receive_reply receive_number brought flip
returns-in-Ok-Extended c = search rules
