-- What is left to show of `state_rows::state::set_mark`.
use mathlib.Core.Path.{◌∙◌}
use Rattle.state_rows.proofs.Access.{mark-put}
use Rattle.state_rows.proofs.state.set_mark.Goals as goal

pub returns : goal.returns
returns c =
    c.put_mark.ensures ∙ mark-put c.args.s.now c.requires c.args.mark
