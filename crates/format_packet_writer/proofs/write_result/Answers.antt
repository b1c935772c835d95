-- What is left to show of `format_packet_writer::write_result`.
use Rattle.model_laws.proofs.Written.{written-sets}
use Rattle.model.specs.Packets.{result_kind_of, time_bytes, result_bytes}
use Rattle.format_packet_writer.proofs.write_result.Goals as goal

pub returns : goal.returns
unfolding result_bytes result_kind_of time_bytes
returns c =
    rw (c.requires.1, c.write_u32-3.ensures, c.write_signed.ensures, c.write_u32-2.ensures, c.write_u32.ensures, c.write_4.ensures)
    (simp written-sets)
