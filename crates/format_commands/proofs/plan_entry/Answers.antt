-- What is left to show of `format_commands::plan_entry`.
use Rattle.format_commands.proofs.Plan.{plan-entry-at}
use Rattle.format_commands.proofs.plan_entry.Goals as goal

pub returns : goal.returns
returns c =
    let start = c.args in
    cc (plan-entry-at start.s.now start.at)
