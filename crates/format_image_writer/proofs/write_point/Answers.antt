-- What is left to show of `format_image_writer::write_point`.
use Rattle.model_laws.proofs.Written.{written-sets}
use Rattle.format_image_writer.specs.Heads.{point_bytes}
use Rattle.format_image_writer.proofs.write_point.Goals as goal

pub returns : goal.returns
unfolding point_bytes
returns c =
    rw (c.write_4.ensures, c.write_signed.ensures) (simp written-sets)
