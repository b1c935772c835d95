-- What is left to show of `state_clients::rows::set_row`.
use mathlib.Core.Path.{◌∙◌}
use Rattle.state_clients.proofs.Stored.{row_set}
use Rattle.state_clients.proofs.rows.set_row.Goals as goal

pub returns : goal.returns
returns c =
    c.put_floor.ensures ∙ row_set c.args.s.now c.requires.0 c.args.i c.args.f c.requires.1
