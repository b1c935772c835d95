-- What is left to show of `chamber::levels_seen`.
use Rattle.chamber_claim.specs.Chamber.{levels_seen}
use Rattle.chamber.proofs.levels_seen.Goals as goal

pub returns : goal.returns
unfolding levels_seen
returns c = cc
