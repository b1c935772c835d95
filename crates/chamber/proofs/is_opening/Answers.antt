-- What is left to show of `chamber::is_opening`.
use Rattle.chamber_claim.specs.Chamber.{is_opening}
use borrow.Author.Rules.{rules}
use Rattle.chamber.proofs.is_opening.Goals as goal

pub returns : goal.returns
unfolding is_opening
returns c = search rules
