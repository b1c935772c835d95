-- What is left to show of `state_rows::state::clients_of`.
use mathlib.Core.Path.{sym, ◌∙◌}
use Rattle.state_rows.proofs.Access.{floors-count}
use Rattle.state_rows.proofs.state.clients_of.Goals as goal

pub returns : goal.returns
returns c = c.clients_in.ensures ∙ sym (floors-count c.args.s.now)
