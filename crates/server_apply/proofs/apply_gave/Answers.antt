-- What is left to show of `server_apply::apply_gave`.
use native.Mathlib.Omega.{arith}
use Rattle.server_apply.proofs.Stages.{stage_canonical}
use Rattle.server_apply.proofs.Gave.{gave_stage, gave-done}
use Rattle.server_apply.proofs.apply_gave.Goals as goal

pub set_size-requires : goal.set_size-requires
set_size-requires c =
    stage_canonical (gave_stage c.requires.0 c.args.g c.args.end (omega arith) (omega arith) (omega arith) c.point_at-x.ensures
    c.gave_point.ensures c.set_point.ensures)

pub returns : goal.returns
returns c =
    gave-done c.requires.0 c.args.g c.args.end (omega arith) (omega arith) (omega arith)
    (gave_stage c.requires.0 c.args.g c.args.end (omega arith) (omega arith) (omega arith) c.point_at-x.ensures c.gave_point.ensures
    c.set_point.ensures)
    c.set_size.ensures
