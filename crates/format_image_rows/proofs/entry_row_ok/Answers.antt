-- What is left to show of `format_image_rows::entry_row_ok`.
use mathlib.Core.Path.{sym, ◌∙◌}
use Rattle.model_laws.proofs.Numbers.{zero-drop}
use Rattle.model.specs.Images.{entry_row_ok}
use Rattle.format_image_rows.proofs.entry_row_ok.Goals as goal

pub returns : goal.returns
unfolding entry_row_ok
returns c = let start = c.args in c.zero_at.ensures ∙ sym (zero-drop start.k start.s.now 19)
