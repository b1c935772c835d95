-- What is left to show of `chamber_c::receive_reply`.
use mathlib.Core.Path.{refl}
use Rattle.client_c.proofs.Cases.{received_numbered}
use Rattle.chamber_c.specs.Replies.{receive_reply_in}
use Rattle.chamber_c.proofs.receive_reply.Goals as goal

pub returns : goal.returns
unfolding receive_reply_in
returns c = rw (received_numbered _ c.numbered.ensures c.receive_reply.ensures) refl
