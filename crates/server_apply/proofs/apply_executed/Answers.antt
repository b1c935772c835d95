-- What is left to show of `server_apply::apply_executed`.
use native.Mathlib.Omega.{arith}
use Rattle.server_apply.proofs.Stages.{stage_canonical}
use Rattle.server_apply.proofs.Executed.{Widths, executed-floor, executed-over, executed-kept, executed-room, executed_added, executed_stage, executed-done}
use Rattle.server_apply.proofs.apply_executed.Goals as goal
use Rattle.server_apply.proofs.apply_executed.Goals.{Start}

-- the fields of the record in their widths
widths : (c : Start) → Widths c.args.executed c.args.end
widths c =
    record {
      op = omega (arith, c.well_formed.1.0.1, c.ranges);
      point = omega (arith, c.well_formed.1.0.1, c.ranges);
      outcome = omega (arith, c.well_formed.1.0.1, c.ranges);
      client = omega (arith, c.well_formed.1.0.1, c.ranges);
      call = omega (arith, c.well_formed.1.0.1, c.ranges);
      done = omega (arith, c.well_formed.1.0.1, c.ranges);
      argument = omega (arith, c.well_formed.1.0.1, c.ranges);
      value = omega (arith, c.well_formed.1.0.1, c.ranges);
      quality = omega (arith, c.well_formed.1.0.1, c.ranges);
      time = omega (arith, c.well_formed.1.0.1, c.ranges);
      ends = omega (arith, c.well_formed.1.0.1, c.ranges);
    }

pub keep_over-requires : goal.keep_over-requires
keep_over-requires c =
    let w = widths (goal.at.keep_over-requires c).Start in
    let first = executed-floor c.requires.0 c.args.executed c.args.end w c.requires.2 c.raise.ensures in
    (stage_canonical first, executed-over c.requires.0 c.args.executed c.args.end w c.requires.2 first c.floor_in-old.ensures)

pub append-requires : goal.append-requires
append-requires c =
    let w = widths (goal.at.append-requires c).Start in
    let first = executed-floor c.requires.0 c.args.executed c.args.end w c.requires.2 c.raise.ensures in
    let second = executed-kept c.requires.0 c.args.executed c.args.end w c.requires.2 first c.floor_in-old.ensures c.greater-floor.ensures c.keep_over.ensures in
    (stage_canonical second, executed-room c.requires.0 c.args.executed c.args.end w c.requires.2 second)

pub set_point-requires : goal.set_point-requires
set_point-requires c =
    let w = widths (goal.at.set_point-requires c).Start in
    let first = executed-floor c.requires.0 c.args.executed c.args.end w c.requires.2 c.raise.ensures in
    let second = executed-kept c.requires.0 c.args.executed c.args.end w c.requires.2 first c.floor_in-old.ensures c.greater-floor.ensures c.keep_over.ensures in
    (stage_canonical (executed_added c.requires.0 c.args.executed c.args.end w c.requires.2 second c.completion.ensures c.append.ensures), c.requires.1)

pub set_size-requires : goal.set_size-requires
set_size-requires c =
    let w = widths (goal.at.set_size-requires c).Start in
    let first = executed-floor c.requires.0 c.args.executed c.args.end w c.requires.2 c.raise.ensures in
    let second = executed-kept c.requires.0 c.args.executed c.args.end w c.requires.2 first c.floor_in-old.ensures c.greater-floor.ensures c.keep_over.ensures in
    let third = executed_added c.requires.0 c.args.executed c.args.end w c.requires.2 second c.completion.ensures c.append.ensures in
    stage_canonical (executed_stage c.requires.0 c.args.executed c.args.end w c.requires.2 third c.point_at-x.ensures c.executed_point.ensures c.set_point.ensures)

pub returns : goal.returns
returns c =
    let w = widths (goal.at.returns c).Start in
    let first = executed-floor c.requires.0 c.args.executed c.args.end w c.requires.2 c.raise.ensures in
    let second = executed-kept c.requires.0 c.args.executed c.args.end w c.requires.2 first c.floor_in-old.ensures c.greater-floor.ensures c.keep_over.ensures in
    let third = executed_added c.requires.0 c.args.executed c.args.end w c.requires.2 second c.completion.ensures c.append.ensures in
    let fourth = executed_stage c.requires.0 c.args.executed c.args.end w c.requires.2 third c.point_at-x.ensures c.executed_point.ensures c.set_point.ensures in
    executed-done c.requires.0 c.args.executed c.args.end w c.requires.2 fourth c.set_size.ensures
