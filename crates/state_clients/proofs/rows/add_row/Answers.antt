-- What is left to show of `state_clients::rows::add_row`.
use Rattle.state_clients.proofs.Stored.{row_added}
use Rattle.state_clients.proofs.rows.add_row.Goals as goal

pub returns : goal.returns
returns c =
    rw (c.put_clients.ensures, c.put_floor.ensures)
    (row_added c.args.s.now c.requires.0 c.args.f _ c.clients_in-number.ensures c.requires.1)
