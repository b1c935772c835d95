-- What is left to show of `server_found::founded_point`.
use Rattle.model.specs.Apply.{founded_point}
use Rattle.server_found.proofs.founded_point.Goals as goal

pub returns : goal.returns
unfolding founded_point
returns c = rw c.first_status.ensures
