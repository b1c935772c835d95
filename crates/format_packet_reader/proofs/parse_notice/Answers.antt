-- What is left to show of `format_packet_reader::parse_notice`.
use Rattle.model.specs.Limits.{notice_kind}
use Rattle.model.specs.Packets.{parse_notice, packet_length}
use Rattle.format_packet_reader.proofs.Whole.{other_length, by_fields}
use Rattle.format_packet_reader.proofs.parse_notice.Goals as goal

pub returns-then-packet : goal.returns-then-packet
unfolding parse_notice packet_length
returns-then-packet c = other_length _ notice_kind _ _ c.if-packet.true

pub returns : goal.returns
unfolding parse_notice packet_length
returns c = by_fields _ notice_kind _ _ c.if-packet.false cc
