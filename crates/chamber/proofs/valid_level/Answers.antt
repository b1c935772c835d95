-- What is left to show of `chamber::valid_level`.
use Rattle.chamber_claim.specs.Chamber.{valid_level}
use borrow.Author.Rules.{rules}
use Rattle.chamber.proofs.valid_level.Goals as goal

pub returns : goal.returns
unfolding valid_level
returns c = search rules
