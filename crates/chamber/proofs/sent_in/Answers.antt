-- What is left to show of `chamber::sent_in`.
use Rattle.chamber_claim.specs.Chamber.{sent_in}
use Rattle.chamber.proofs.sent_in.Goals as goal

pub returns : goal.returns
unfolding sent_in
returns c = cc
