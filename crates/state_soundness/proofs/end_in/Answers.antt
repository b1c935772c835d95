-- What is left to show of `state_soundness::end_in`.
use mathlib.Core.Path.{sym, ◌∙◌}
use Rattle.model.specs.Limits.{checkpoint_record}
use Rattle.model.specs.States.{completion_of}
use Rattle.model_laws.proofs.Numbers.{le64-drop}
use Rattle.state_soundness.proofs.end_in.Goals as goal

pub returns : goal.returns
unfolding completion_of
returns c = let start = c.args in c.read_u64.ensures ∙ sym (le64-drop start.k start.s.now checkpoint_record)
