-- What is left to show of `chamber::op_ok`.
use Rattle.chamber_claim.specs.Chamber.{op_ok}
use borrow.Author.Rules.{rules}
use Rattle.chamber.proofs.op_ok.Goals as goal

pub returns : goal.returns
unfolding op_ok
returns c = search rules
