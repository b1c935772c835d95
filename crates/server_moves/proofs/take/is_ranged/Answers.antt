-- What is left to show of `server_moves::take::is_ranged`.
use mathlib.Core.Path.{◌∙◌}
use Rattle.server_moves.proofs.take.is_ranged.Goals as goal

pub returns : goal.returns
returns c = c.values_in_range.ensures ∙ rw c.entry_at-e.ensures
