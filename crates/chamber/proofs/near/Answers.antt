-- What is left to show of `chamber::near`.
use Rattle.chamber_claim.specs.Chamber.{near}
use borrow.Author.Rules.{rules}
use Rattle.chamber.proofs.near.Goals as goal

pub returns : goal.returns
unfolding near
returns c = search rules
