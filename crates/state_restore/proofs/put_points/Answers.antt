-- What is left to show of `state_restore::put_points`.
use native.Mathlib.Omega.{arith}
use Rattle.model.specs.Limits.{checkpoint_point}
use Rattle.model.specs.States.{point_row}
use Rattle.model.specs.Checkpoints.{point_whole}
use Rattle.model_laws.proofs.Fronts.{point-whole-width}
use Rattle.state_restore.proofs.Runs.{filled-start, filled_next}
use Rattle.state_restore.proofs.put_points.Goals as goal

pub loop-i-init : goal.loop-i-init
loop-i-init c = filled-start point_whole checkpoint_point point_row point-whole-width _ _ _ _ _

pub loop-i-preserved : goal.loop-i-preserved
loop-i-preserved c =
    filled_next point_whole checkpoint_point point_row point-whole-width c.loop-i.invariant c.loop-i-test.true (omega arith) c.put_point.ensures
