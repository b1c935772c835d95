-- What is left to show of `chamber::clear`.
use Rattle.chamber_claim.specs.Chamber.{clear}
use Rattle.chamber.proofs.clear.Goals as goal

pub returns : goal.returns
unfolding clear
returns c = cc
