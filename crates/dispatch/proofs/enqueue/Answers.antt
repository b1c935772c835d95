-- What is left to show of `dispatch::enqueue`.
use borrow.Enum.Refused.{opened}
use Rattle.dispatch.proofs.Answers.{not-packet, not-request, is-request}
use Rattle.dispatch.proofs.enqueue.Goals as goal

pub returns-in_default : goal.returns-in_default
returns-in_default c = rw c.number.ensures (not-packet c.args.dispatcher c.args.packet.now c.parse_packet.ensures c.in_default.is)

pub returns-in_default-parsed : goal.returns-in_default-parsed
returns-in_default-parsed c =
    rw c.number-in_default-parsed.ensures
    (not-request c.args.dispatcher c.args.packet.now c.parse_packet.ensures c.in-Some.is (opened c.in_default-parsed.in_default-parsed-own.keys2))

pub returns : goal.returns
returns c = is-request c.args.dispatcher c.args.packet.now c.parse_packet.ensures _ c.in-Some.is c.in-Requested.is c.enqueue_request.ensures
