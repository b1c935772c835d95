-- The invariants of `format_image_writer::write_floors`.
use Rattle.model_laws.proofs.Images.{floor_codec}
use Rattle.format_image_writer.proofs.Runs.{Copied}
use Rattle.model.specs.Limits.{least_image}
use Rattle.format_image_writer.proofs.write_floors.Given as goal

abbrev pub invariant-loop-i : goal.invariant-loop-i
invariant-loop-i l = Copied floor_codec least_image l.initial.out l.table l.out l.n l.i
