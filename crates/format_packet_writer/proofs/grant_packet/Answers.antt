-- What is left to show of `format_packet_writer::grant_packet`.
use Rattle.model.specs.Tables.{written}
use Rattle.model.specs.Packets.{grant_bytes}
use Rattle.format_packet_writer.proofs.grant_packet.Goals as goal

pub returns : goal.returns
unfolding grant_bytes written
returns c = c.write_grant.ensures
