-- What is left to show of `format_floors::floor_ok`.
use Rattle.model.specs.Images.{floor_ok}
use Rattle.format_floors.proofs.floor_ok.Goals as goal

pub returns : goal.returns
unfolding floor_ok
returns c = rw c.floor_from-f.ensures
