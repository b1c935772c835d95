-- What is left to show of `server_apply::took::apply_took`.
use native.Mathlib.Omega.{arith}
use Rattle.server_apply.proofs.Stages.{stage_canonical}
use Rattle.server_apply.proofs.Taken.{tabled_stage, took-done}
use borrow.Author.Rules.{rules}
use Rattle.server_apply.proofs.took.apply_took.Goals as goal

pub take_point-requires : goal.take_point-requires
take_point-requires c = (
  stage_canonical (tabled_stage c.requires.0 c.args.image.now (search rules) c.args.h c.args.end c.requires.3 c.requires.4
      (record { point = omega arith; quality = omega arith; value = omega arith; move_number = omega arith; heard = omega arith; size = omega arith }) c.take_tables.ensures),
  c.requires.1,
)

pub returns : goal.returns
returns c =
    took-done c.requires.0 c.args.image.now (search rules) c.args.h c.args.end c.requires.3 c.requires.4
    (record { point = omega arith; quality = omega arith; value = omega arith; move_number = omega arith; heard = omega arith; size = omega arith })
    (tabled_stage c.requires.0 c.args.image.now (search rules) c.args.h c.args.end c.requires.3 c.requires.4
    (record { point = omega arith; quality = omega arith; value = omega arith; move_number = omega arith; heard = omega arith; size = omega arith })
    c.take_tables.ensures)
    c.take_point.ensures
