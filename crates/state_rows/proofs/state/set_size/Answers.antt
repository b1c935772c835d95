-- What is left to show of `state_rows::state::set_size`.
use mathlib.Core.Path.{◌∙◌}
use Rattle.state_rows.proofs.Access.{size-put}
use Rattle.state_rows.proofs.state.set_size.Goals as goal

pub returns : goal.returns
returns c =
    c.put_size.ensures ∙ size-put c.args.s.now c.requires c.args.size
