-- What is left to show of `state_rows::completion_from`.
use Rattle.state_rows.proofs.Rows.{completion-drop}
use Rattle.state_rows.proofs.completion_from.Goals as goal

pub returns : goal.returns
returns c =
    let start = c.args in
    cc (completion-drop start.s.now start.k)
