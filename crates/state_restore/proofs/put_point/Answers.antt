-- What is left to show of `state_restore::put_point`.
use Rattle.state_restore.proofs.Runs.{point-runs}
use Rattle.state_restore.proofs.put_point.Goals as goal

pub returns : goal.returns
returns c =
    rw (c.write_u64-2.ensures, c.write_u64.ensures, c.copy_part.ensures)
    (point-runs c.args.s.now c.args.to c.args.checkpoint.now c.args.from c.requires.1 c.give_end-give.ensures
    (rw (← c.read_u32.ensures) c.take_end-take.ensures))
