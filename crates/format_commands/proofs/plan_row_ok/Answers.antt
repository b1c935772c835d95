-- What is left to show of `format_commands::plan_row_ok`.
use Rattle.model.specs.Plan.{plan_row_ok}
use Rattle.model_laws.proofs.Numbers.{zeros3_drop}
use Rattle.format_commands.proofs.plan_row_ok.Goals as goal

pub returns : goal.returns
unfolding plan_row_ok
returns c =
    let start = c.args in
    cc (zeros3_drop start.at start.s.now 13)
