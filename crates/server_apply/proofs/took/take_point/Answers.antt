-- What is left to show of `server_apply::took::take_point`.
use native.Mathlib.Omega.{arith}
use Rattle.server_apply.proofs.Stages.{stage_canonical}
use Rattle.server_apply.proofs.Taken.{Widths, pointed_stage, heard_stage, pointed-done}
use Rattle.server_apply.proofs.took.take_point.Goals as goal
use Rattle.server_apply.proofs.took.take_point.Goals.{Start}

fits : (c : Start) → Widths c.args.h c.args.end
fits c = record { point = omega arith; quality = omega arith; value = omega arith; move_number = omega arith; heard = omega arith; size = omega arith }

-- the point is stored; heard time too

pub set_heard-requires : goal.set_heard-requires
set_heard-requires c =
    let w = fits (goal.at.set_heard-requires c).Start in
    stage_canonical (pointed_stage c.requires.0 c.args.h c.args.end w c.took_point-x.ensures c.set_point.ensures)

pub set_size-requires : goal.set_size-requires
set_size-requires c =
    let w = fits (goal.at.set_size-requires c).Start in
    let put = pointed_stage c.requires.0 c.args.h c.args.end w c.took_point-x.ensures c.set_point.ensures in
    stage_canonical (heard_stage c.requires.0 c.args.h c.args.end w put c.heard_of-heard.ensures c.greater.ensures c.set_heard.ensures)

pub returns : goal.returns
returns c =
    let w = fits (goal.at.returns c).Start in
    let put = pointed_stage c.requires.0 c.args.h c.args.end w c.took_point-x.ensures c.set_point.ensures in
    let heard = heard_stage c.requires.0 c.args.h c.args.end w put c.heard_of-heard.ensures c.greater.ensures c.set_heard.ensures in
    pointed-done c.requires.0 c.args.h c.args.end w heard c.set_size.ensures
