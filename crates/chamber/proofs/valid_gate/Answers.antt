-- What is left to show of `chamber::valid_gate`.
use Rattle.chamber_claim.specs.Chamber.{valid_gate}
use borrow.Author.Rules.{rules}
use Rattle.chamber.proofs.valid_gate.Goals as goal

pub returns : goal.returns
unfolding valid_gate
returns c = search rules
