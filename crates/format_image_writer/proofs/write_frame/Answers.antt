-- What is left to show of `format_image_writer::write_frame`.
use Rattle.model_laws.proofs.Written.{written-sets}
use Rattle.format_image_writer.specs.Heads.{frame_bytes}
use Rattle.format_image_writer.proofs.write_frame.Goals as goal

pub returns : goal.returns
unfolding frame_bytes
returns c =
    rw (c.write_u32-2.ensures, c.write_u32.ensures, c.write_4.ensures, c.write_magic.ensures) (simp written-sets)
