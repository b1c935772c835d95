-- What is left to show of `chamber::new_chamber`.
use Rattle.chamber_claim.specs.Chamber.{new_chamber}
use Rattle.chamber.proofs.new_chamber.Goals as goal

pub returns : goal.returns
unfolding new_chamber
returns c = cc
