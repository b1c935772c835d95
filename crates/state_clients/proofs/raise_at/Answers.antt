-- What is left to show of `state_clients::raise_at`.
use Rattle.state_clients.specs.Ordered.{raised_at}
use Rattle.state_clients.proofs.raise_at.Goals as goal

pub returns : goal.returns
unfolding raised_at
returns c =
    rw (c.set_row.ensures, c.greater-high.ensures, c.row-f.ensures)
