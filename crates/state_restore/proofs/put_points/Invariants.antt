-- The invariants of `state_restore::put_points`.
use Rattle.model.specs.Limits.{point_count, checkpoint_point}
use Rattle.model.specs.States.{points_start, point_row}
use Rattle.model.specs.Checkpoints.{points_part, point_whole}
use Rattle.state_restore.proofs.Runs.{Filled}
use Rattle.state_restore.proofs.put_points.Given as goal

abbrev pub invariant-loop-i : goal.invariant-loop-i
invariant-loop-i l = Filled point_whole checkpoint_point point_row points_part points_start point_count l.initial.s l.checkpoint l.s l.i
