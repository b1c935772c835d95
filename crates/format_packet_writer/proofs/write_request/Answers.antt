-- What is left to show of `format_packet_writer::write_request`.
use Rattle.model_laws.proofs.Written.{written-sets}
use Rattle.model.specs.Packets.{request_bytes}
use Rattle.format_packet_writer.proofs.write_request.Goals as goal

pub returns : goal.returns
unfolding request_bytes
returns c =
    rw (c.write_signed.ensures, c.write_u32-4.ensures, c.write_u32-3.ensures, c.write_u32-2.ensures, c.write_u32.ensures, c.write_4.ensures) (simp written-sets)
