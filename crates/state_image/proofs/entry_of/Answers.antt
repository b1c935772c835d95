-- What is left to show of `state_image::entry_of`.
use mathlib.Core.Path.{refl}
use Rattle.model.specs.Decisions.{entry_of_record}
use Rattle.state_image.proofs.entry_of.Goals as goal

pub returns : goal.returns
unfolding entry_of_record
returns c = rw c.completion_from-r.ensures refl
