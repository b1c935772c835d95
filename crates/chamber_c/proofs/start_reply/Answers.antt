-- What is left to show of `chamber_c::start_reply`.
use Rattle.chamber_c.specs.Replies.{start_reply_in}
use Rattle.chamber_c.proofs.start_reply.Goals as goal

pub returns : goal.returns
unfolding start_reply_in
returns c = cc
