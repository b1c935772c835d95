-- What is left to show of `state_restore::put_record`.
use Rattle.state_restore.proofs.Runs.{record-runs}
use Rattle.state_restore.proofs.put_record.Goals as goal

pub returns : goal.returns
returns c =
    rw (c.write_u64.ensures, c.clear.ensures, c.copy_part.ensures)
    (record-runs c.args.s.now c.args.to c.args.checkpoint.now c.args.from c.args.width c.requires.1 c.requires.2)
