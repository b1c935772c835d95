-- What is left to show of `format_commands::step_rule`.
use Rattle.format_numbers.proofs.Picks.{picks}
use Rattle.model.specs.Rules.{step_rule}
use Rattle.format_commands.proofs.step_rule.Goals as goal

pub returns-then-quality-eq-INVALID : goal.returns-then-quality-eq-INVALID
unfolding step_rule
returns-then-quality-eq-INVALID c = search picks depth 12

pub returns-else-quality-eq-INVALID : goal.returns-else-quality-eq-INVALID
unfolding step_rule
returns-else-quality-eq-INVALID c = search picks depth 12
