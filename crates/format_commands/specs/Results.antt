-- A command's result for all arguments.
-- Assumes nothing.
use Rattle.std.specs.Prelude.{ℕ}
use Rattle.model.specs.declared.PlanEntry.{PlanEntry}
use Rattle.model.specs.declared.Reading.{Reading}
use Rattle.model.specs.declared.CommandResult.{CommandResult}
use Rattle.model.specs.Choice.{pick}
use Rattle.model.specs.Limits.{out_of_range}
use Rattle.model.specs.Versions.{today}
use Rattle.model.specs.Rules.{same, rule_of, argument_ok}

-- the rule, for an argument in its op's range; any other changes nothing, outcome 1, as an op that no command has
unfoldable pub checked_rule : PlanEntry → ℕ → ℕ → Reading → CommandResult
checked_rule e op a r = pick (argument_ok op a) (rule_of (today.rule op) e op a r) (same out_of_range r)
