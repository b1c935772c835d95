-- What is left to show of `chamber::no_chamber`.
use Rattle.chamber_claim.specs.Chamber.{no_chamber}
use Rattle.chamber.proofs.no_chamber.Goals as goal

pub returns : goal.returns
unfolding no_chamber
returns c = cc
