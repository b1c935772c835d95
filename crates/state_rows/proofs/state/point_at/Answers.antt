-- What is left to show of `state_rows::state::point_at`.
use mathlib.Core.Path.{sym, ◌∙◌}
use native.Mathlib.Omega.{arith}
use Rattle.state_rows.proofs.Access.{point-there}
use Rattle.state_rows.proofs.state.point_at.Goals as goal

pub returns : goal.returns
returns c = let start = c.args in c.point_from.ensures ∙ sym (point-there start.s.now start.p (omega arith))
