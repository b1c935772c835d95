-- What is left to show of `leases::time_at`.
use Rattle.model.specs.Leases.{time_at}
use borrow.Author.Rules.{rules}
use Rattle.leases.proofs.time_at.Goals as goal

pub returns : goal.returns
unfolding time_at
returns c = search rules
