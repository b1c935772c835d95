-- What is left to show of `chamber::not_started`.
use Rattle.chamber_claim.specs.Chamber.{not_started_in}
use Rattle.chamber.proofs.not_started.Goals as goal

pub returns : goal.returns
unfolding not_started_in
returns g c = cc
