-- What is left to show of `chamber::points_ok`.
use Rattle.chamber_claim.specs.Chamber.{points_ok}
use Rattle.chamber.proofs.points_ok.Goals as goal

pub returns : goal.returns
unfolding points_ok
returns c = cc
