-- What is left to show of `format_image_writer::write_pairs`.
use Rattle.model_laws.proofs.Written.{written-sets}
use Rattle.format_image_writer.specs.Heads.{pair_bytes}
use Rattle.format_image_writer.proofs.write_pairs.Goals as goal

pub returns : goal.returns
unfolding pair_bytes
returns c =
    rw (
      c.write_u32-6.ensures,
      c.write_u32-5.ensures,
      c.write_u32-4.ensures,
      c.write_u32-3.ensures,
      c.write_u32-2.ensures,
      c.write_u32.ensures,
      c.entries_start-records.ensures,
    )
    (simp written-sets)
