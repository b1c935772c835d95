-- What is left to show of `state_restore::put_records`.
use native.Mathlib.Omega.{arith}
use Rattle.model.specs.States.{record_row}
use Rattle.model.specs.Checkpoints.{record_whole}
use Rattle.model_laws.proofs.Tables.{row_in}
use Rattle.model_laws.proofs.Fronts.{record-whole-width}
use Rattle.state_restore.proofs.Runs.{filled-start, filled_next}
use Rattle.state_restore.proofs.put_records.Goals as goal

pub loop-i-init : goal.loop-i-init
loop-i-init c =
    filled-start (record_whole c.args.width) c.args.width record_row (record-whole-width c.args.width c.requires.3) _ _ _ _ _

pub loop-i-preserved : goal.loop-i-preserved
loop-i-preserved c =
    filled_next (record_whole c.args.width) c.args.width record_row (record-whole-width c.args.width c.requires.3) c.loop-i.invariant c.loop-i-test.true
    (omega (arith, c.requires.1, row_in c.args.width c.loop-i.i c.args.count c.loop-i-test.true)) c.put_record.ensures
