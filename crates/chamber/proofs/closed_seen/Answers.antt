-- What is left to show of `chamber::closed_seen`.
use Rattle.chamber_claim.specs.Chamber.{closed_seen}
use Rattle.chamber.proofs.closed_seen.Goals as goal

pub returns : goal.returns
unfolding closed_seen
returns c = cc
