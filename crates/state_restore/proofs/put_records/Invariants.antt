-- The invariants of `state_restore::put_records`.
use Rattle.model.specs.States.{records_start, record_row}
use Rattle.model.specs.Checkpoints.{record_whole}
use Rattle.state_restore.proofs.Runs.{Filled}
use Rattle.state_restore.proofs.put_records.Given as goal

abbrev pub invariant-loop-i : goal.invariant-loop-i
invariant-loop-i l = Filled (record_whole l.width) l.width record_row l.from records_start l.count l.initial.s l.checkpoint l.s l.i
