-- The invariants of `state_sound_rows::points_ok`.
use lib.ListN.{drop}
use Rattle.model.specs.Limits.{point_count}
use Rattle.state_sound_rows.proofs.Points.{PointsOpen}
use Rattle.state_sound_rows.specs.Parts.{rows_ok}
use Rattle.state_sound_rows.proofs.points_ok.Given as goal

abbrev pub invariant-loop-i : goal.invariant-loop-i
invariant-loop-i l = PointsOpen l.server l.size l.plan l.at (rows_ok l.server l.size (drop l.plan l.s) (drop l.at l.s)) l.s point_count l.i
