-- What is left to show of `client_c::send_reply`.
use mathlib.Core.Path.{refl}
use Rattle.client_c.proofs.Cases.{reply-none, reply-request}
use Rattle.client_c.proofs.send_reply.Goals as goal

pub returns-in-Err : goal.returns-in-Err
returns-in-Err c = rw c.in-Err.is (reply-none refl)

pub returns-in-Ok : goal.returns-in-Ok
returns-in-Ok c = rw c.in-Ok.is (reply-request _ c.request_packet.ensures)
