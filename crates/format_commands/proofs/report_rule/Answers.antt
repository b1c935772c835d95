-- What is left to show of `format_commands::report_rule`.
use Rattle.format_numbers.proofs.Picks.{picks}
use Rattle.model.specs.Rules.{report_rule}
use Rattle.format_commands.proofs.report_rule.Goals as goal

pub returns-then-in_range : goal.returns-then-in_range
unfolding report_rule
returns-then-in_range c = search picks depth 12

pub returns-else-in_range : goal.returns-else-in_range
unfolding report_rule
returns-else-in_range c = search picks depth 12
