-- What is left to show of `format_image_writer::write_floors`.
use Rattle.model_laws.proofs.Images.{floor_codec}
use Rattle.format_image_writer.proofs.Runs.{copied_start, copied_next}
use Rattle.model.specs.Limits.{least_image}
use Rattle.format_image_writer.proofs.write_floors.Goals as goal

pub loop-i-init : goal.loop-i-init
loop-i-init c = copied_start floor_codec least_image _ _ _

pub loop-i-preserved : goal.loop-i-preserved
loop-i-preserved c =
    copied_next floor_codec c.loop-i.invariant c.loop-i-test.true c.floor_from-f.ensures c.put_floor.ensures
