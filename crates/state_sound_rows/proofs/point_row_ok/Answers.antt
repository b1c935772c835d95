-- What is left to show of `state_sound_rows::point_row_ok`.
use Rattle.model_laws.proofs.Numbers.{zero-drop}
use mathlib.Core.Path.{sym, ◌∙◌}
use Rattle.model.specs.States.{point_row_ok}
use Rattle.state_sound_rows.proofs.point_row_ok.Goals as goal

pub returns : goal.returns
unfolding point_row_ok
returns c = let start = c.args in c.zero_at.ensures ∙ sym (zero-drop start.k start.s.now 3)
