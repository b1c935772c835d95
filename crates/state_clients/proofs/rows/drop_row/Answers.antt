-- What is left to show of `state_clients::rows::drop_row`.
use Rattle.state_clients.proofs.Stored.{row_dropped}
use Rattle.state_clients.proofs.rows.drop_row.Goals as goal

pub returns : goal.returns
returns c =
    rw (c.put_clients.ensures, c.put_floor.ensures)
    (row_dropped c.args.s.now c.requires.0 c.args.n c.requires.1)
