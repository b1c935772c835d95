-- What is left to show of `state_rows::state::entry_at`.
use mathlib.Core.Path.{sym, ◌∙◌}
use native.Mathlib.Omega.{arith}
use Rattle.state_rows.proofs.Access.{entry-there}
use Rattle.state_rows.proofs.state.entry_at.Goals as goal

pub returns : goal.returns
returns c = let start = c.args in c.plan_entry.ensures ∙ sym (entry-there start.s.now start.p (omega arith))
