-- What is left to show of `state_restore::put_head`.
use Rattle.state_restore.proofs.Runs.{head-runs}
use Rattle.state_restore.proofs.put_head.Goals as goal

pub returns : goal.returns
returns c =
    rw (c.put_mark.ensures, c.put_size.ensures, c.write_4.ensures, c.put_records.ensures, c.put_clients.ensures, c.copy_part.ensures, c.write_magic.ensures)
    (head-runs c.args.s.now c.args.checkpoint.now c.args.n c.args.count c.requires.1)
