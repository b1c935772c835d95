-- What is left to show of `chamber::resend`.
use Rattle.chamber_claim.specs.Chamber.{resend_in}
use Rattle.chamber.proofs.resend.Goals as goal

pub returns : goal.returns
unfolding resend_in
returns c = cc
