-- What is left to show of `format_packet_writer::notice_packet`.
use Rattle.model.specs.Tables.{written}
use Rattle.model.specs.Packets.{notice_bytes}
use Rattle.format_packet_writer.proofs.notice_packet.Goals as goal

pub returns : goal.returns
unfolding notice_bytes written
returns c = c.write_notice.ensures
