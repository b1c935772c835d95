-- What is left to show of `format_packet_reader::parse_refusal`.
use Rattle.model.specs.Limits.{refusal_kind}
use Rattle.model.specs.Packets.{parse_refusal, packet_length}
use Rattle.format_packet_reader.proofs.Whole.{other_length, by_fields}
use Rattle.format_packet_reader.proofs.parse_refusal.Goals as goal

pub returns-then-packet : goal.returns-then-packet
unfolding parse_refusal packet_length
returns-then-packet c = other_length _ refusal_kind _ _ c.if-packet.true

pub returns : goal.returns
unfolding parse_refusal packet_length
returns c = by_fields _ refusal_kind _ _ c.if-packet.false cc
