-- What is left to show of `format_packet_writer::write_receipt`.
use Rattle.model_laws.proofs.Written.{written-sets}
use Rattle.model.specs.Packets.{receipt_bytes}
use Rattle.format_packet_writer.proofs.write_receipt.Goals as goal

pub returns : goal.returns
unfolding receipt_bytes
returns c =
    rw (c.write_u32.ensures, c.write_4.ensures) (simp written-sets)
