-- What is left to show of `format_packet_reader::parse_packet`.
use mathlib.Core.Path.{◌≡◌, sym, ◌∙◌}
use native.Mathlib.Omega.{arith}
use lib.ListN.{length}
use borrow.Author.Tests.{eqb-true}
use Rattle.format_numbers.proofs.Past.{past}
use Rattle.format_numbers.proofs.Picks.{picks}
use Rattle.model.specs.Packets.{parse_packet}
use Rattle.format_packet_reader.proofs.parse_packet.Goals as goal

pub returns-then-is_empty : goal.returns-then-is_empty
unfolding parse_packet
returns-then-is_empty c =
    let none : length c.args.packet.now ≡ 0 = eqb-true _ 0 (sym c.is_empty.ensures ∙ c.if-is_empty.true) in
    rw (← past c.args.packet.now 0 (omega arith))

pub returns-in-1 : goal.returns-in-1
unfolding parse_packet
returns-in-1 c = rw c.in-1.is c.parse_request.ensures

pub returns-in-2 : goal.returns-in-2
unfolding parse_packet
returns-in-2 c = rw c.in-2.is c.parse_result.ensures

pub returns-in-3 : goal.returns-in-3
unfolding parse_packet
returns-in-3 c = rw c.in-3.is c.parse_refusal.ensures

pub returns-in-4 : goal.returns-in-4
unfolding parse_packet
returns-in-4 c = rw c.in-4.is c.parse_receipt.ensures

pub returns-in-5 : goal.returns-in-5
unfolding parse_packet
returns-in-5 c = rw c.in-5.is c.parse_notice.ensures

pub returns-in-6 : goal.returns-in-6
unfolding parse_packet
returns-in-6 c = rw c.in-6.is c.parse_grant.ensures

pub returns-in-7 : goal.returns-in-7
unfolding parse_packet
returns-in-7 c = rw c.in-7.is c.parse_result-in-7.ensures

pub returns-in-0 : goal.returns-in-0
unfolding parse_packet
returns-in-0 c = rw c.in-0.in-0-own.keys8

pub returns-in-0-2 : goal.returns-in-0-2
unfolding parse_packet
returns-in-0-2 c = search picks depth 24
