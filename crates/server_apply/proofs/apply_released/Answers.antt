-- What is left to show of `server_apply::apply_released`.
use native.Mathlib.Omega.{arith}
use Rattle.server_apply.proofs.Stages.{stage_canonical}
use Rattle.server_apply.proofs.Released.{released_dropped, released_stage, released-done}
use Rattle.server_apply.proofs.apply_released.Goals as goal

pub set_point-requires : goal.set_point-requires
set_point-requires c =
    (stage_canonical (released_dropped c.requires.0 c.args.release c.args.end (omega arith) c.keep_records.ensures), c.requires.1)

pub set_size-requires : goal.set_size-requires
set_size-requires c =
    stage_canonical (released_stage c.requires.0 c.args.release c.args.end (omega arith)
    (released_dropped c.requires.0 c.args.release c.args.end (omega arith) c.keep_records.ensures) c.point_at-x.ensures
    c.released_point.ensures
    c.set_point.ensures)

pub returns : goal.returns
returns c =
    released-done c.requires.0 c.args.release c.args.end (omega arith) (released_stage c.requires.0 c.args.release c.args.end (omega arith)
    (released_dropped c.requires.0 c.args.release c.args.end (omega arith) c.keep_records.ensures) c.point_at-x.ensures
    c.released_point.ensures
    c.set_point.ensures) c.set_size.ensures
