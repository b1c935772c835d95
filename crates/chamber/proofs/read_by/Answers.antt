-- What is left to show of `chamber::read_by`.
use Rattle.chamber_claim.specs.Chamber.{read_by}
use borrow.Author.Rules.{rules}
use Rattle.chamber.proofs.read_by.Goals as goal

pub returns : goal.returns
unfolding read_by
returns c = search rules
