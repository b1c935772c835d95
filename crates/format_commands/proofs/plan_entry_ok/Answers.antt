-- What is left to show of `format_commands::plan_entry_ok`.
use borrow.Author.Rules.{rules}
use Rattle.model.specs.Plan.{plan_entry_ok}
use Rattle.format_commands.proofs.plan_entry_ok.Goals as goal

pub returns : goal.returns
unfolding plan_entry_ok
returns c = search rules
