-- What is left to show of `chamber::receive`.
use Rattle.chamber_claim.specs.Chamber.{receive_in}
use Rattle.chamber.proofs.receive.Goals as goal

pub returns : goal.returns
unfolding receive_in
returns c = cc
