-- What is left to show of `format_commands::fault_rule`.
use Rattle.model.specs.Rules.{fault_rule}
use Rattle.format_commands.proofs.fault_rule.Goals as goal

pub returns : goal.returns
unfolding fault_rule
returns c = c.result_of.ensures
