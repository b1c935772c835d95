-- What is left to show of `state_rows::state::set_heard`.
use mathlib.Core.Path.{◌∙◌}
use Rattle.state_rows.proofs.Access.{heard-put}
use Rattle.state_rows.proofs.state.set_heard.Goals as goal

pub returns : goal.returns
returns c =
    c.write_u32.ensures ∙ heard-put c.args.s.now c.requires c.args.v
