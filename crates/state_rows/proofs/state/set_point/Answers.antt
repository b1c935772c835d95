-- What is left to show of `state_rows::state::set_point`.
use mathlib.Core.Path.{◌∙◌}
use native.Mathlib.Omega.{arith}
use Rattle.state_rows.proofs.Access.{point-put}
use Rattle.state_rows.proofs.state.set_point.Goals as goal

pub returns : goal.returns
returns c =
    c.put_point.ensures ∙ point-put c.args.s.now c.requires.0 c.args.p c.args.x (omega arith)
