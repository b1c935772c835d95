-- What is left to show of `state_rows::state::records_of`.
use mathlib.Core.Path.{sym, ◌∙◌}
use Rattle.state_rows.proofs.Access.{records-count}
use Rattle.state_rows.proofs.state.records_of.Goals as goal

pub returns : goal.returns
returns c = c.records_in.ensures ∙ sym (records-count c.args.s.now)
