-- What is left to show of `state_rows::point_from`.
use Rattle.state_rows.proofs.Rows.{point-drop}
use Rattle.state_rows.proofs.point_from.Goals as goal

pub returns : goal.returns
returns c = let start = c.args in cc (point-drop start.s.now start.k)
