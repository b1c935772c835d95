-- What is left to show of `format_packet_writer::request_packet`.
use Rattle.model.specs.Tables.{written}
use Rattle.model.specs.Packets.{request_bytes}
use Rattle.format_packet_writer.proofs.request_packet.Goals as goal

pub returns : goal.returns
unfolding request_bytes written
returns c = c.write_request.ensures
