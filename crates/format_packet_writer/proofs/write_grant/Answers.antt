-- What is left to show of `format_packet_writer::write_grant`.
use Rattle.model_laws.proofs.Written.{written-sets}
use Rattle.model.specs.Packets.{grant_bytes}
use Rattle.format_packet_writer.proofs.write_grant.Goals as goal

pub returns : goal.returns
unfolding grant_bytes
returns c =
    rw (c.write_u32-2.ensures, c.write_u32.ensures, c.write_4.ensures) (simp written-sets)
