-- What is left to show of `client::client_packet`.
use native.Mathlib.Omega.{arith}
use Rattle.format_numbers.proofs.Past.{past}
use Rattle.format_numbers.proofs.Picks.{picks}
use Rattle.client.specs.Changes.{client_packet}
use Rattle.client.proofs.client_packet.Goals as goal

pub returns-then-packet-eq0 : goal.returns-then-packet-eq0
unfolding client_packet
returns-then-packet-eq0 c = rw (← past c.args.packet.now 0 (omega arith))

pub returns-in-2 : goal.returns-in-2
unfolding client_packet
returns-in-2 c = rw c.in-2.is c.parse_result.ensures

pub returns-in-3 : goal.returns-in-3
unfolding client_packet
returns-in-3 c = rw c.in-3.is c.parse_refusal.ensures

pub returns-in-6 : goal.returns-in-6
unfolding client_packet
returns-in-6 c = rw c.in-6.is c.parse_grant.ensures

pub returns-in-7 : goal.returns-in-7
unfolding client_packet
returns-in-7 c = rw c.in-7.is c.parse_result-in-7.ensures

pub returns-in-0 : goal.returns-in-0
unfolding client_packet
returns-in-0 c = search picks depth 24
