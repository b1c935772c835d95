-- What the host program in C is given by the lock chamber controller: the controller, and the refusal's number or the client's reply.
-- Assumes nothing.
use Rattle.model.specs.declared.Refusal.{Refusal}
use Rattle.model.specs.Clients.{start_number}
use Rattle.client_c.specs.Replies.{send_reply, receive_reply}
use Rattle.chamber_claim.specs.declared.ChamberStart.{ChamberStart}
use Rattle.chamber_claim.specs.declared.ChamberSend.{ChamberSend}
use Rattle.chamber_claim.specs.declared.ChamberReceive.{ChamberReceive}
use Rattle.chamber_c.specs.declared.ChamberStartReply.{ChamberStartReply}
use Rattle.chamber_c.specs.declared.ChamberSendReply.{ChamberSendReply}
use Rattle.chamber_c.specs.declared.ChamberReceiveReply.{ChamberReceiveReply}

unfoldable pub start_reply_in : ChamberStart Refusal → ChamberStartReply
start_reply_in a = record { chamber = a.chamber; number = start_number a.answer }

unfoldable pub send_reply_in : ChamberSend Refusal → ChamberSendReply
send_reply_in a = record { chamber = a.chamber; reply = send_reply a.answer }

unfoldable pub receive_reply_in : ChamberReceive → ChamberReceiveReply
receive_reply_in a = record { chamber = a.chamber; reply = receive_reply a.answer }
