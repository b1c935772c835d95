-- What is left to show of `state_clients::rows::row`.
use mathlib.Core.Path.{sym, ◌∙◌}
use Rattle.state_rows.proofs.Access.{client-there}
use Rattle.state_clients.proofs.rows.row.Goals as goal

pub returns : goal.returns
returns c = c.floor_from.ensures ∙ sym (client-there c.args.s.now c.args.i _ c.requires.1)
