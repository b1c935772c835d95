-- What is left to show of `state_restore::put_clients`.
use Rattle.state_restore.proofs.Runs.{client-runs}
use Rattle.state_restore.proofs.put_clients.Goals as goal

pub returns : goal.returns
returns c =
    rw (c.clear.ensures, c.copy_part.ensures) (client-runs c.args.s.now c.args.checkpoint.now c.args.n c.requires.1 c.requires.2)
