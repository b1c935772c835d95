-- What is left to show of `chamber_c::send_reply`.
use mathlib.Core.Path.{refl}
use Rattle.client_c.proofs.Cases.{sent_numbered}
use Rattle.chamber_c.specs.Replies.{send_reply_in}
use Rattle.chamber_c.proofs.send_reply.Goals as goal

pub returns : goal.returns
unfolding send_reply_in
returns c = rw (sent_numbered _ c.numbered.ensures c.send_reply.ensures) refl
