-- What is left to show of `server_apply::took::took_point`.
use Rattle.model.specs.Images.{image_at}
use Rattle.model.specs.Apply.{took_point}
use mathlib.Core.Path.{refl}
use Rattle.server_apply.proofs.took.took_point.Goals as goal

pub returns : goal.returns
unfolding took_point image_at
returns c = refl
